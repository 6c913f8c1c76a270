use Rattle.std.proofs.Common.{◌≡◌, ◌≤◌, ◌+◌, ◌-◌, ℕ, List, [], length, get_or, take, drop, ap, sym, subst, ◌∙◌, arith, length-take, length-drop}
use Rattle.std.specs.Global.{Vec}
use Rattle.std.proofs.Math.ListN.{set}
use Rattle.std.proofs.lemmas.List.{map-set, get_or-take, get_or-drop}
use Rattle.composite_spec.specs.Said.{Composite, composite}
use Rattle.block_map.specs.Disk.{contents, begin_of, AreWritten}
use Rattle.block_map.proofs.Offsets.{Holds}
use Rattle.block_map.proofs.Components.{file_at, files_count}
use Rattle.block_map.proofs.Ranges.{held_next, room_in}
use Rattle.block_map.proofs.Patches.{patched}
use Rattle.block_map.proofs.Writes.{wrote_more}
use Rattle.block_map.proofs.moves.overwrite.Goals as goal

pub put-requires : goal.put-requires
put-requires c =
    let s : Composite = composite c.args.spec.now in
    let at : ℕ = c.args.at in
    let done : ℕ = c.loop-done.done in
    let index : ℕ = c.loop-done.index in
    let held : Holds s (at + done) index = c.loop-done.invariant.here c.loop-done-test.true in
    let inside = held.is in
    let low : begin_of s index ≤ at + done = held.begins in
    let size = c.piece-n.ensures in
    let begin = c.begin_of.ensures in
    let file = file_at c.loop-done.files index c.index-files-index.result (omega arith) c.index-files-index.is in
    let same = ap (λ (x : Vec ℕ). length x.items) c.index-files-index.is in
    let room = room_in s (contents c.args.files.now) at done index (length c.args.bytes.now) held c.loop-done-test.true c.requires.may in
    let kept = (c.loop-done.invariant.wrote.files index).size in
    let now = ap length file in
    omega (arith, length-take (done + c.piece-n.result - done) (drop done c.args.bytes.now), length-drop done c.args.bytes.now)

pub loop-done-preserved : goal.loop-done-preserved
loop-done-preserved c =
    let s : Composite = composite c.args.spec.now in
    let at : ℕ = c.args.at in
    let done : ℕ = c.loop-done.done in
    let index : ℕ = c.loop-done.index in
    let n : ℕ = c.piece-n.result in
    let bytes : List ℕ = c.args.bytes.now in
    let files = c.loop-done.files in
    let p : List ℕ = take (done + n - done) (drop done bytes) in
    let held : Holds s (at + done) index = c.loop-done.invariant.here c.loop-done-test.true in
    let inside = held.is in
    let low : begin_of s index ≤ at + done = held.begins in
    let size = c.piece-n.ensures in
    let fits : n ≤ length bytes - done = omega arith in
    let long : length p ≡ n = omega (arith, length-take (done + n - done) (drop done bytes), length-drop done bytes) in
    let file = file_at files index c.index-files-index.result (omega arith) c.index-files-index.is in
    let room = room_in s (contents c.args.files.now) at done index (length bytes) held c.loop-done-test.true c.requires.may in
    let kept = (c.loop-done.invariant.wrote.files index).size in
    let more = wrote_more s at done index bytes p (contents c.args.files.now) (contents files) c.requires.is (files_count c.args.files.now ∙ c.requires.files) (omega arith) held (omega arith) (omega arith)
    (λ k lt. get_or-take (done + n - done) (drop done bytes) k 0 (omega arith) ∙ get_or-drop done bytes k 0) c.loop-done.invariant.wrote in
    let from : (at + done) - c.begin_of.result ≡ (at + done) - begin_of s index = ap (λ (x : ℕ). (at + done) - x) c.begin_of.ensures in
    let items : c.put.new.file.items ≡ patched ((at + done) - begin_of s index) p (get_or (contents files) index []) =
    c.put.ensures ∙ ap (λ (x : ℕ). patched x p (get_or files index c.index-files-index.result).items) from
    ∙ ap (λ (x : List ℕ). patched ((at + done) - begin_of s index) p x) (sym (ap (λ (x : Vec ℕ). x.items) c.index-files-index.is) ∙ sym file) in
    let whole = map-set (λ (v : Vec ℕ). v.items) files index c.put.new.file ∙ ap (λ (x : List ℕ). set (contents files) index x) items in
    record {
      within = omega arith;
      here = λ lt. held_next s at done index n (length bytes) c.requires.is held size c.requires.range lt;
      wrote = subst (λ (x : List (List ℕ)). AreWritten s at (take (done + n) bytes) (contents c.args.files.now) x) (sym whole)
          (subst (λ (m : ℕ). AreWritten s at (take (done + m) bytes) (contents c.args.files.now) (set (contents files) index (patched ((at + done) - begin_of s index) p (get_or (contents files) index [])))) long more);
    }

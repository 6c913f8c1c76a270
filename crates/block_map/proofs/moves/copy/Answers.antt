use Rattle.std.proofs.Common.{◌≡◌, ◌+◌, ◌-◌, ℕ, List, [], length, get_or, ap, sym, ◌∙◌, arith}
use Rattle.composite_spec.specs.Said.{Composite, composite}
use Rattle.block_map.specs.Disk.{contents, begin_of}
use Rattle.block_map.proofs.Offsets.{Holds}
use Rattle.block_map.proofs.Components.{file_at, files_count}
use Rattle.block_map.proofs.Ranges.{copied, held_next}
use Rattle.block_map.proofs.moves.copy.Goals as goal

pub loop-done-preserved : goal.loop-done-preserved
loop-done-preserved c =
    let s : Composite = composite c.args.spec.now in
    let at : ℕ = c.args.at in
    let done : ℕ = c.loop-done.done in
    let index : ℕ = c.loop-done.index in
    let n : ℕ = c.piece-n.result in
    let files = c.args.files.now in
    let held : Holds s (at + done) index = c.loop-done.invariant.here c.loop-done-test.true in
    let inside = held.is in
    let size = c.piece-n.ensures in
    let file = file_at files index c.index-files-index.result (omega (arith, c.requires.files)) c.index-files-index.is in
    let from : (at + done) - c.begin_of.result ≡ (at + done) - begin_of s index = ap (λ (x : ℕ). (at + done) - x) c.begin_of.ensures in
    record {
      within = omega arith;
      here = λ lt. held_next s at done index n (length c.loop-done.out) c.requires.is held size (omega (arith, c.requires.range)) (omega (arith, lt, c.copy_part.auto.out));
      so_far = copied s (contents files) at done index n c.loop-done.out c.copy_part.new.out c.requires.is (files_count files ∙ c.requires.files) held (omega arith) c.copy_part.ensures.before
          (λ k lt. c.copy_part.ensures.part k lt ∙ ap (λ (x : List ℕ). get_or x (((at + done) - c.begin_of.result) + k) 0) (c.as_slice.ensures.value ∙ sym file) ∙ ap (λ (x : ℕ). get_or (get_or (contents files) index []) (x + k) 0) from)
          c.loop-done.invariant.so_far;
    }

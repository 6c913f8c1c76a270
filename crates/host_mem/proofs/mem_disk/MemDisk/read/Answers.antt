use Rattle.std.proofs.Common.{◌≡◌, ◌∙◌, ◌++◌, ℕ, List, length, take, drop, sym, ap, arith}
use Rattle.std.specs.Global.{Vec}
use Rattle.std.proofs.lemmas.List.{length-take, length-drop}
use Rattle.std.proofs.Math.Seq.{take-append_seam}
use Rattle.block_map.specs.Disk.{contents, disk_bytes}
use Rattle.host_traits.specs.Held.{resized}
use Rattle.host_mem.specs.Mem.{composite_of, disk_of}
use Rattle.host_mem.specs.Stores.{disk_data}
use Rattle.host_mem.proofs.Composites.{composite_bytes, composite_length}
use Rattle.host_mem.proofs.mem_disk.MemDisk.read.Goals as goal

pub fill-requires-clause-inside : goal.fill-requires-clause-inside
fill-requires-clause-inside c =
    let s = c.in-Composite.map in
    let files = contents c.in-Composite.files.items in
    let is : c.args.self.now ≡ composite_of s files = sym c.self.view_is ∙ ap disk_data c.in-Composite.is in
    let size : length (disk_of c.args.self.now).bytes ≡ s.length = ap (λ d. length (disk_of d).bytes) is ∙ composite_length s files in
    omega (arith, c.requires.inside, size, c.room.ensures.len)

pub returns-in-Composite : goal.returns-in-Composite
returns-in-Composite c =
    let s = c.in-Composite.map in
    let files = contents c.in-Composite.files.items in
    let at = c.args.at in
    let len = c.args.len in
    let out = c.fill.new.out in
    let rest = drop (length out) (resized c.args.raw.now len) in
    let is : c.args.self.now ≡ composite_of s files = sym c.self.view_is ∙ ap disk_data c.in-Composite.is in
    let all : (disk_of c.args.self.now).bytes ≡ disk_bytes s files = ap (λ d. (disk_of d).bytes) is ∙ composite_bytes s files in
    let held = contents c.deref-in-Composite.result.now in
    let same : held ≡ files = ap (λ (z : List (Vec ℕ)). contents z) c.deref-in-Composite.ensures.value in
    let filled : out ≡ take len (drop at (disk_of c.args.self.now).bytes) =
    c.fill.ensures ∙ ap (λ k. take k (drop at (disk_bytes s held))) c.room.ensures.len ∙ ap (λ z. take len (drop at (disk_bytes s z))) same
    ∙ ap (λ z. take len (drop at z)) (sym all) in
    let size : length out ≡ len =
    ap length filled ∙ omega (arith, c.requires.inside, length-take len (drop at (disk_of c.args.self.now).bytes), length-drop at (disk_of c.args.self.now).bytes) in
    ap (λ k. take k (out ++ rest)) (sym size) ∙ take-append_seam out rest ∙ filled

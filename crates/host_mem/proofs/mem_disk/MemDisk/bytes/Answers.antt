use Rattle.std.proofs.Common.{◌≡◌, ◌∙◌, ℕ, List, take, sym, ap, subst, arith}
use Rattle.std.specs.Prelude.{IfOk}
use Rattle.std.specs.Global.{Vec}
use Rattle.std.proofs.lemmas.List.{take_all}
use Rattle.block_map.specs.Disk.{contents, disk_bytes}
use Rattle.host_mem.specs.Mem.{composite_of, disk_of}
use Rattle.host_mem.specs.Stores.{disk_data}
use Rattle.host_mem.proofs.Composites.{composite_bytes, disk_length}
use Rattle.host_mem.proofs.mem_disk.MemDisk.bytes.Goals as goal

pub returns-in-Composite : goal.returns-in-Composite
returns-in-Composite c =
    let s = c.in-Composite.map in
    let files = contents c.in-Composite.files.items in
    let is : c.args.self.now ≡ composite_of s files = sym c.self.view_is ∙ ap disk_data c.in-Composite.is in
    let all : (disk_of c.args.self.now).bytes ≡ disk_bytes s files = ap (λ d. (disk_of d).bytes) is ∙ composite_bytes s files in
    let held = contents c.deref-in-Composite.result.now in
    let same : held ≡ files = ap (λ (z : List (Vec ℕ)). contents z) c.deref-in-Composite.ensures.value in
    let whole : take c.length.result (disk_bytes s held) ≡ disk_bytes s held = take_all c.length.result (disk_bytes s held) (omega (arith, disk_length s held, c.length.ensures)) in
    let read : take c.length.result (disk_bytes s held) ≡ (disk_of c.args.self.now).bytes = whole ∙ ap (disk_bytes s) same ∙ sym all in
    subst (λ (z : List ℕ). IfOk c.copy.result (λ v. v.items ≡ z)) read c.copy.ensures

use Rattle.std.proofs.Common.{◌≡◌, ◌∙◌, length, sym, ap}
use Rattle.block_map.specs.Disk.{contents}
use Rattle.host_mem.specs.Mem.{composite_of, disk_of}
use Rattle.host_mem.specs.Stores.{disk_data}
use Rattle.host_mem.proofs.Composites.{composite_length}
use Rattle.host_mem.proofs.mem_disk.MemDisk.len.Goals as goal

pub returns-in-Composite : goal.returns-in-Composite
returns-in-Composite c =
    let s = c.in-Composite.map in
    let files = contents c.in-Composite.field-1.items in
    let is : c.args.self.now ≡ composite_of s files = sym c.self.view_is ∙ ap disk_data c.in-Composite.is in
    c.length.ensures ∙ sym (composite_length s files) ∙ sym (ap (λ d. length (disk_of d).bytes) is)

use Rattle.std.proofs.Common.{◌≡◌, [], sym, refl, Some, None}
use Rattle.mem_files.specs.Files.{at}
use Rattle.host_mem.proofs.Changes.{no_disk, sizes_disk}
use Rattle.host_mem.proofs.disks.sync.Goals as goal

pub returns-in-Some : goal.returns-in-Some
returns-in-Some c = λ files dirs.
    let there : at c.args.disks.now.entries c.args.disk ≡ Some c.in-Some.held.now = sym c.in-Some.ensures.value in
    (sizes_disk c.args.disks.now.entries files dirs c.args.disk c.in-Some.held.now there).1

pub returns-in-None : goal.returns-in-None
returns-in-None c = λ files dirs.
    let none : at c.args.disks.now.entries c.args.disk ≡ None = sym c.in-None.ensures.value in
    ((no_disk c.args.disks.now.entries files dirs c.args.disk 0 0 [] none).2, refl)

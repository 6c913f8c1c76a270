use Rattle.std.proofs.Common.{◌≡◌, [], refl, sym, Some, None}
use Rattle.mem_files.specs.Files.{at}
use Rattle.host_mem.proofs.Changes.{no_file, reads_file}
use Rattle.host_mem.proofs.files.read.Goals as goal

pub returns-in-Some-clause-does : goal.returns-in-Some-clause-does
returns-in-Some-clause-does c = λ disks dirs.
    let there : at c.args.files.now.entries c.args.file ≡ Some c.in-Some.held.now = sym c.in-Some.ensures.value in
    rw c.read.ensures (reads_file disks c.args.files.now.entries dirs c.args.file c.args.at c.args.want c.in-Some.held.now there)

pub returns-in-None-clause-does : goal.returns-in-None-clause-does
returns-in-None-clause-does c = λ disks dirs.
    let none : at c.args.files.now.entries c.args.file ≡ None = sym c.in-None.ensures.value in
    ((no_file disks c.args.files.now.entries dirs c.args.file c.args.at c.args.want [] none).0, refl)

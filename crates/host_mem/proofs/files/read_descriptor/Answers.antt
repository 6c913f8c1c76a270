use Rattle.std.proofs.Common.{length-take, ◌≡◌, [], arith, refl, sym, Some, None}
use Rattle.mem_files.specs.Files.{at}
use Rattle.host_mem.proofs.Changes.{no_file, reads_descriptor}
use Rattle.host_mem.proofs.files.read_descriptor.Goals as goal

pub returns-in-Some-clause-does : goal.returns-in-Some-clause-does
returns-in-Some-clause-does c = λ disks dirs.
    let there : at c.args.files.now.entries c.args.file ≡ Some c.in-Some.held.now = sym c.in-Some.ensures.value in
    rw c.read_descriptor.ensures (reads_descriptor disks c.args.files.now.entries dirs c.args.file c.in-Some.held.now there)

pub returns-in-None-clause-does : goal.returns-in-None-clause-does
returns-in-None-clause-does c = λ disks dirs.
    let none : at c.args.files.now.entries c.args.file ≡ None = sym c.in-None.ensures.value in
    ((no_file disks c.args.files.now.entries dirs c.args.file 0 0 [] none).2, refl)

pub returns-in-Some-clause-fills : goal.returns-in-Some-clause-fills
returns-in-Some-clause-fills c = rw c.read_descriptor.ensures (simp length-take (omega arith))

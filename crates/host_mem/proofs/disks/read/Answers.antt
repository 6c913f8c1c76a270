use Rattle.std.proofs.Common.{◌≡◌, ◌∙◌, ◌+◌, ◌*◌, [], true, false, length, sym, refl, Some, None}
use Rattle.std.specs.Prelude.{nat_le}
use Rattle.mem_files.specs.Files.{at}
use Rattle.host_mem.specs.Mem.{disk_of}
use Rattle.host_mem.proofs.Changes.{no_disk, past_disk, reads_disk}
use Rattle.host_mem.proofs.disks.read.Goals as goal

pub returns-in-None-clause-does : goal.returns-in-None-clause-does
returns-in-None-clause-does c = λ files dirs.
    let none : at c.args.disks.now.entries c.args.disk ≡ None = sym c.in-None.ensures.value in
    ((no_disk c.args.disks.now.entries files dirs c.args.disk c.args.sector c.args.count [] none).1, refl)

pub returns-then-not-is_inside-clause-does : goal.returns-then-not-is_inside-clause-does
returns-then-not-is_inside-clause-does c = λ files dirs.
    let there : at c.args.disks.now.entries c.args.disk ≡ Some c.in-Some.held.now = sym c.in-Some.ensures.value in
    let past : nat_le (512 * (c.args.sector + c.args.count)) (length (disk_of c.in-Some.held.now).bytes) ≡ false = rw c.len.ensures at (sym c.is_inside.ensures ∙ c.if-not-is_inside.true) in
    (past_disk c.args.disks.now.entries files dirs c.args.disk c.args.sector c.args.count c.in-Some.held.now there past, refl)

pub returns-clause-does : goal.returns-clause-does
returns-clause-does c = λ files dirs.
    let there : at c.args.disks.now.entries c.args.disk ≡ Some c.in-Some.held.now = sym c.in-Some.ensures.value in
    let inside : nat_le (512 * (c.args.sector + c.args.count)) (length (disk_of c.in-Some.held.now).bytes) ≡ true = rw c.len.ensures at (sym c.is_inside.ensures ∙ c.if-not-is_inside.false) in
    rw c.read.ensures (reads_disk c.args.disks.now.entries files dirs c.args.disk c.args.sector c.args.count c.in-Some.held.now there inside)

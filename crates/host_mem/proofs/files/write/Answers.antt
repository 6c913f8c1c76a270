use Rattle.std.proofs.Common.{◌≡◌, length, refl, ap, sym, Some, None}
use Rattle.std.specs.Prelude.{IsSome}
use Rattle.host_traits.specs.Held.{over}
use Rattle.mem_files.specs.Files.{at}
use Rattle.host_mem.specs.Mem.{held_of}
use Rattle.mem_files.specs.Files.{Puts}
use Rattle.host_mem.proofs.Changes.{no_file, writes_file}
use Rattle.host_mem.proofs.files.write.Goals as goal

pub returns-in-Ok : goal.returns-in-Ok
returns-in-Ok c = λ disks dirs.
    let there : at c.args.files.now.entries c.args.file ≡ Some c.in-Some.held.now = sym c.in-Some.ensures.value in
    let w = c.get_mut.follows.holds c.write.new.self in
    let here : IsSome (at c.args.files.now.entries c.args.file) = rw there refl in
    let files = (c.get_mut.follows.lender c.write.new.self).entries in
    let same : c.write.new.self ≡ record c.in-Some.held.now { bytes = over c.in-Some.held.now.bytes c.args.at c.args.bytes.now } = c.in-Ok.ensures.ok in
    let written : Puts c.args.files.now.entries files c.args.file (record c.in-Some.held.now { bytes = over c.in-Some.held.now.bytes c.args.at c.args.bytes.now }) = rw (← same) (w.3 here).0 in
    writes_file disks c.args.files.now.entries files dirs c.args.file c.args.at (length c.args.bytes.now) c.args.bytes.now c.in-Some.held.now there written

pub returns-in-None : goal.returns-in-None
returns-in-None c = λ disks dirs.
    let same : c.get_mut.follows.lender-at-none.entries ≡ c.args.files.now.entries = ap (λ f. f.entries) c.get_mut.follows.holds-at-none in
    let none : at c.args.files.now.entries c.args.file ≡ None = sym c.in-None.ensures.value in
    ((no_file disks c.args.files.now.entries dirs c.args.file c.args.at (length c.args.bytes.now) c.args.bytes.now none).3, ap (λ z. held_of disks z dirs) same)

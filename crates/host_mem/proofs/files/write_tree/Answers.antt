use Rattle.std.proofs.Common.{◌≡◌, refl, ap, sym, Some, None}
use Rattle.std.specs.Prelude.{IsSome}
use Rattle.mem_files.specs.Files.{at}
use Rattle.host_mem.specs.Mem.{held_of}
use Rattle.host_mem.proofs.Changes.{no_file, writes_tree}
use Rattle.host_mem.proofs.files.write_tree.Goals as goal

pub returns-in-Ok : goal.returns-in-Ok
returns-in-Ok c = λ disks dirs.
    let there : at c.args.files.now.entries c.args.file ≡ Some c.in-Some.held.now = sym c.in-Some.ensures.value in
    let w = c.get_mut.follows.holds c.write_tree.new.self in
    let here : IsSome (at c.args.files.now.entries c.args.file) = rw there refl in
    let files = (c.get_mut.follows.lender c.write_tree.new.self).entries in
    writes_tree disks c.args.files.now.entries files dirs c.args.file c.args.level c.args.index c.args.bytes.now c.in-Some.held.now c.write_tree.new.self there c.write_tree.ensures.bytes c.write_tree.ensures.descriptor c.in-Ok.ensures.tree (w.3 here).0

pub returns-in-None : goal.returns-in-None
returns-in-None c = λ disks dirs.
    let same : c.get_mut.follows.lender-at-none.entries ≡ c.args.files.now.entries = ap (λ f. f.entries) c.get_mut.follows.holds-at-none in
    let none : at c.args.files.now.entries c.args.file ≡ None = sym c.in-None.ensures.value in
    ((no_file disks c.args.files.now.entries dirs c.args.file c.args.level c.args.index c.args.bytes.now none).4, ap (λ z. held_of disks z dirs) same)

use Rattle.std.proofs.Common.{◌≡◌, refl, sym, ◌∙◌, Some, None, false}
use Rattle.std.specs.Prelude.{IsSome}
use Rattle.mem_files.specs.Files.{at}
use Rattle.host_mem.specs.Mem.{names_have}
use Rattle.host_mem.proofs.Changes.{no_name, named, not_named, deletes}
use Rattle.host_mem.proofs.dirs.delete.Goals as goal

pub returns-then-not-has : goal.returns-then-not-has
returns-then-not-has c = λ disks files.
    let not_there : names_have (at c.args.dirs.now.entries c.args.dir) c.args.name.now ≡ false = sym c.has.ensures ∙ c.if-not-has.true in
    (no_name disks files c.args.dirs.now.entries c.args.dir c.args.name.now not_there, refl)

pub returns-in-Some : goal.returns-in-Some
returns-in-Some c = λ disks files.
    let there : at c.args.dirs.now.entries c.args.dir ≡ Some c.in-Some.names.now = sym c.in-Some.ensures.value in
    let has = named (at c.args.dirs.now.entries c.args.dir) c.in-Some.names.now c.args.name.now there (sym c.has.ensures ∙ c.if-not-has.false) in
    let here : IsSome (at c.args.dirs.now.entries c.args.dir) = rw there refl in
    let w = c.get_mut.follows.holds c.remove.new.self in
    let new = (c.get_mut.follows.lender c.remove.new.self).entries in
    deletes disks files c.args.dirs.now.entries new c.args.dir c.args.name.now c.in-Some.names.now c.remove.new.self there has c.remove.ensures (w.3 here).0

pub returns-in-None : goal.returns-in-None
returns-in-None c =
    let none : at c.args.dirs.now.entries c.args.dir ≡ None = sym c.in-None.ensures.value in
    absurd (not_named (at c.args.dirs.now.entries c.args.dir) c.args.name.now none (sym c.has.ensures ∙ c.if-not-has.false))

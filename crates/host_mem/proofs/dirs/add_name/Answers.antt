use Rattle.std.proofs.Common.{◌≡◌, refl, sym, ◌∙◌, Some}
use Rattle.std.specs.Prelude.{IsSome}
use Rattle.std.specs.Ordering.{nat_cmp}
use Rattle.std.specs.BTreeMap.{is_at}
use Rattle.std.proofs.lemmas.Map.Steps.{set_value_same}
use Rattle.mem_files.specs.Files.{at}
use Rattle.host_mem.proofs.dirs.add_name.Goals as goal

pub returns-in-Ok-clause-ok : goal.returns-in-Ok-clause-ok
returns-in-Ok-clause-ok c =
    let there : at c.args.dirs.now.entries c.args.dir ≡ Some c.in-Some.names.now = sym c.in-Some.ensures.value in
    let here : IsSome (at c.args.dirs.now.entries c.args.dir) = rw there refl in
    let w = c.get_mut.follows.holds c.add.new.self in
    record { before = c.in-Some.names.now; after = c.add.new.self; there = there; added = c.in-Ok.ensures.ok; puts = (w.3 here).0 }

pub returns-in-Err-clause-err : goal.returns-in-Err-clause-err
returns-in-Err-clause-err c =
    let there : at c.args.dirs.now.entries c.args.dir ≡ Some c.in-Some.names.now = sym c.in-Some.ensures.value in
    let w = c.get_mut.follows.holds c.add.new.self in
    w.0 ∙ set_value_same (is_at (nat_cmp c.args.dir)) c.args.dirs.now.entries c.add.new.self (rw c.in-Err.ensures.err there)

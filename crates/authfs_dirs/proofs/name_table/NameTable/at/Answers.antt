use Rattle.std.proofs.Common.{◌≡◌, ◌≤◌, Some, None, refl, ap, ◌∙◌, arith, map, length}
use Rattle.std.specs.Prelude.{slice_get}
use Rattle.std.specs.Option.{option_map}
use Rattle.std.proofs.lemmas.Bool.Decides.{nat_tests}
use Rattle.std.proofs.lemmas.Option.{slice_get-map, slice_get_read}
use Rattle.authfs_dirs.specs.Tables.{slot_of}
use Rattle.authfs_dirs.proofs.TableLemmas.{living_short, none_past}
use Rattle.authfs_dirs.proofs.name_table.NameTable.at.Goals as goal

pub returns-then-row-clause-short : goal.returns-then-row-clause-short
returns-then-row-clause-short c =
    let rows = c.deref.result.now in
    let items = c.self.inside.rows.items in
    let got : slice_get c.deref.result.now c.args.place ≡ Some c.in-Some.row.now = (let h = c.in-Some.ensures.lookup in slice_get_read rows (length rows) c.args.place c.in-Some.row.now refl h.3.0 h.1) in
    let there : slice_get c.self.inside.rows.items c.args.place ≡ Some c.in-Some.row.now = rw c.deref.ensures.value at got in
    let short : length c.in-Some.row.now.name.items ≤ 255 = living_short 3 c.self.inside.next (map slot_of items) c.args.place (slot_of c.in-Some.row.now) c.self.invariant.rising (slice_get-map slot_of items c.args.place ∙ ap (option_map slot_of) there) in
    rw c.as_slice.ensures.value short

pub returns-else-row-clause-entry : goal.returns-else-row-clause-entry
returns-else-row-clause-entry c =
    let rows = c.deref.result.now in
    let got : slice_get c.deref.result.now c.args.place ≡ Some c.in-Some.row.now = (let h = c.in-Some.ensures.lookup in slice_get_read rows (length rows) c.args.place c.in-Some.row.now refl h.3.0 h.1) in
    let there : slice_get c.self.inside.rows.items c.args.place ≡ Some c.in-Some.row.now = rw c.deref.ensures.value at got in
    rw (← c.self.view_is, slice_get-map slot_of c.self.inside.rows.items c.args.place, there, c.if-row.false) refl

pub returns-in-None-clause-entry : goal.returns-in-None-clause-entry
returns-in-None-clause-entry c =
    let past : length c.deref.result.now ≤ c.args.place = grind (arith, nat_tests) in
    let none : slice_get c.self.inside.rows.items c.args.place ≡ None = rw c.deref.ensures.value at (none_past c.deref.result.now c.args.place past) in
    rw (← c.self.view_is, slice_get-map slot_of c.self.inside.rows.items c.args.place, none) refl

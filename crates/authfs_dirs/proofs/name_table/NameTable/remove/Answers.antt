use Rattle.std.proofs.Common.{◌∙◌, map}
use Rattle.authfs_dirs.specs.Tables.{slot_of}
use Rattle.authfs_dirs.proofs.TableLemmas.{rises, not_there, has_spot, removed_kept, removed_entries, swept_kept, swept_entries}
use Rattle.authfs_dirs.proofs.name_table.NameTable.remove.Goals as goal

pub returns-in_default-clause-entries : goal.returns-in_default-clause-entries
returns-in_default-clause-entries c = rw (← c.self.view_is) (not_there c.self.inside.spots.entries c.self.inside.rows.items c.self.inside.dead c.self.inside.next c.args.name.now c.self.invariant c.in_default.ensures.value)

pub mark-requires-clause-rising : goal.mark-requires-clause-rising
mark-requires-clause-rising c = rises 3 c.self.inside.next (map slot_of c.self.inside.rows.items) c.self.invariant.rising

pub mark-requires-clause-has : goal.mark-requires-clause-has
mark-requires-clause-has c = has_spot c.self.inside.spots.entries c.self.inside.rows.items c.self.inside.dead c.self.inside.next c.args.name.now c.in-Some.spot c.self.invariant c.in-Some.ensures.value

pub invariant_of-self-then-self-len : goal.invariant_of-self-then-self-len
invariant_of-self-then-self-len c =
    let u = c.in-Some.ensures.updates in
    swept_kept c.swap_remove.new.self.entries c.mark.new.rows.items c.sweep.new.rows.items _ c.self.inside.next
    (removed_kept c.self.inside.spots.entries c.swap_remove.new.self.entries c.self.inside.rows.items c.mark.new.rows.items c.self.inside.dead c.self.inside.next c.args.name.now c.in-Some.spot c.self.invariant c.in-Some.ensures.value u.1 u.3 c.mark.ensures.marked c.mark.ensures.len)
    c.sweep.ensures

pub invariant_of-self-else-self-len : goal.invariant_of-self-else-self-len
invariant_of-self-else-self-len c =
    let u = c.in-Some.ensures.updates in
    removed_kept c.self.inside.spots.entries c.swap_remove.new.self.entries c.self.inside.rows.items c.mark.new.rows.items c.self.inside.dead c.self.inside.next c.args.name.now c.in-Some.spot c.self.invariant c.in-Some.ensures.value u.1 u.3 c.mark.ensures.marked c.mark.ensures.len

pub returns-then-self-len-clause-entries : goal.returns-then-self-len-clause-entries
returns-then-self-len-clause-entries c =
    rw (← c.self.view_is)
    (swept_entries c.mark.new.rows.items c.sweep.new.rows.items c.sweep.ensures
    ∙ removed_entries c.self.inside.spots.entries c.self.inside.rows.items c.mark.new.rows.items c.self.inside.dead c.self.inside.next c.args.name.now c.in-Some.spot c.self.invariant c.in-Some.ensures.value c.mark.ensures.marked)

pub returns-else-self-len-clause-entries : goal.returns-else-self-len-clause-entries
returns-else-self-len-clause-entries c =
    rw (← c.self.view_is)
    (removed_entries c.self.inside.spots.entries c.self.inside.rows.items c.mark.new.rows.items c.self.inside.dead c.self.inside.next c.args.name.now c.in-Some.spot c.self.invariant c.in-Some.ensures.value c.mark.ensures.marked)

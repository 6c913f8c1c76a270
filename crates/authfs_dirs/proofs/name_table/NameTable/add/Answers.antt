use Rattle.std.proofs.Common.{◌≡◌, ◌≤◌, ◌<◌, ◌-◌, None, map, length, refl, sym, ◌∙◌}
use Rattle.std.specs.Prelude.{min, vec_capacity}
use Rattle.std.specs.HashMap.{spare}
use Rattle.authfs_dirs.specs.Names.{named}
use Rattle.authfs_dirs.specs.Tables.{slot_of, living}
use Rattle.authfs_dirs.proofs.TableLemmas.{added_by_key, added_entries, on_ok, left_of}
use Rattle.authfs_dirs.proofs.name_table.NameTable.add.Goals as goal

pub invariant_of-self : goal.invariant_of-self
invariant_of-self c =
    let rows = c.self.inside.rows.items in
    let key = c.into_copies-key.result.0.items in
    let name = c.into_copies-key.result.1 in
    let same : c.into_copies-key.result.1.items ≡ c.into_copies-key.result.0.items = c.into_copies-key.ensures.second ∙ sym c.into_copies-key.ensures.first in
    let space : 0 < min (spare c.self.inside.spots) (vec_capacity c.self.inside.rows - length c.self.inside.rows.items) = rw (← c.self.view_is) at c.requires.room in
    let room : 0 < spare c.self.inside.spots = left_of (spare c.self.inside.spots) _ space in
    let new : named c.args.new (living (map slot_of c.self.inside.rows.items)) ≡ None = rw (← c.self.view_is) at c.requires.new in
    let fresh : named c.into_copies-key.result.1.items (living (map slot_of c.self.inside.rows.items)) ≡ None = rw c.into_copies-key.ensures.second new in
    let short : length c.into_copies-key.result.1.items ≤ 255 = rw c.into_copies-key.ensures.second c.into_copies-key.ensures.short in
    let put = on_ok c.insert.result (c.insert.ensures.succeeds room) c.insert.ensures.updates in
    rw c.push_reserved.ensures.items (added_by_key c.self.inside.spots.entries c.insert.new.self.entries rows key name c.args.node c.self.inside.dead c.self.inside.next same c.self.invariant short fresh put.1 put.3)

pub returns-clause-entries : goal.returns-clause-entries
returns-clause-entries c = rw (c.push_reserved.ensures.items, added_entries c.self.inside.rows.items c.self.inside.next c.into_copies-key.result.1 c.args.node, c.into_copies-key.ensures.second, ← c.self.view_is) refl

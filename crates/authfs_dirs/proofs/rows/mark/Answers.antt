use Rattle.std.proofs.Common.{◌∙◌, ap}
use Rattle.std.proofs.lemmas.Option.{get_or_from_slice_get}
use Rattle.authfs_dirs.specs.Tables.{StandsAt, slot_of, dead}
use Rattle.authfs_dirs.specs.declared.rows.Row.{Row}
use Rattle.authfs_dirs.proofs.TableLemmas.{mark_at}
use Rattle.authfs_dirs.proofs.rows.mark.Goals as goal

pub returns-clause-marked : goal.returns-clause-marked
returns-clause-marked c =
    let rows = c.args.rows.now.items in
    let place = c.place_of-place.result in
    let found : StandsAt c.args.cookie c.args.rows.now.items c.place_of-place.result = rw c.as_slice.ensures.value at c.place_of-place.ensures in
    let same = c.index_mut.ensures.value ∙ get_or_from_slice_get rows place found.row _ found.there in
    mark_at c.args.cookie rows place found.row _ found.front found.there found.cookie_is (ap (λ (r : Row). dead (slot_of r)) same)

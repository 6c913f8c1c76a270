use Rattle.std.proofs.Common.{◌≡◌, ◌∙◌, sym, Option, None}
use Rattle.host_traits.specs.Folders.{Files}
use Rattle.guest_images.specs.Composing.{IsDescribed, HasTable, parcels_of, unfit_kind}
use Rattle.guest_images.specs.Composed.{StoringOutcome}
use Rattle.guest_images.proofs.Storing.{composes_by}
use Rattle.guest_images.proofs.making.make_disk.Goals as goal

pub returns-in-Ok-compose-clause-composes : goal.returns-in-Ok-compose-clause-composes
returns-in-Ok-compose-clause-composes g c = λ log.
    let old : Option Files = g.F.Folder.files c.args.folder.now in
    let new : Option Files = g.F.Folder.files c.store_disk.new.folder in
    let pieces = c.in-Ok.pieces.items in
    let e = c.in-Ok-compose.ensures in
    let fit : unfit_kind pieces ≡ None = rw c.deref.ensures.value at (sym c.unfit_kind.ensures ∙ c.in_default.is) in
    let stored : StoringOutcome old (parcels_of c.args.out.now pieces) new c.store_disk.result =
    rw (c.in-Ok.ensures.files, e.text, e.head_name, e.head, e.tail_name, e.tail, c.deref-2.ensures.value) at c.store_disk.ensures.stored in
    let described : IsDescribed c.args.out.now pieces = rw c.deref-2.ensures.value at e.described in
    let table : HasTable c.args.out.now pieces = rw c.deref-2.ensures.value at e.table in
    composes_by (record { old = old; new = new; last = g.F.Folder.last_failed c.store_disk.new.folder }) log c.args.list.now c.args.out.now pieces _ _ c.store_disk.result c.in-Ok.ensures.outcome fit described table stored c.store_disk.ensures.cause

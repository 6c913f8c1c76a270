use Rattle.std.proofs.Common.{◌<◌, ◌≤◌, length, refl}
use Rattle.std.specs.Prelude.{vec_capacity}
use Rattle.host_traits.specs.declared.calls.TapeItem.{TapeItem}
use Rattle.host_tape.specs.Next.{item_by}
use Rattle.host_tape.specs.Tape.{item_bytes}
use Rattle.host_rec.specs.Noted.{spare_behind}
use Rattle.host_rec.proofs.Noting.{begun_some, items-push, one_more}
use Rattle.host_rec.proofs.kept.Records.keep.Goals as goal

pub invariant_of-self : goal.invariant_of-self
invariant_of-self c =
    let before = c.self.inside in
    let item : TapeItem = item_by c.args.next in
    let fits : length (item_bytes item) ≤ spare_behind before.text.items (vec_capacity before.text) = rw (← c.self.view_is) at c.requires.spare in
    let some : 0 < length before.text.items = begun_some before.text.items (vec_capacity before.text) item fits in
    rw c.push_reserved.ensures.items
    (one_more before.calls.items before.text.items c.put.new.text.items before.size before.faults c.args.size c.args.faults _ _ c.args.call item
    c.self.invariant some c.requires.is c.put.ensures c.requires.size c.requires.faults c.saturating_add-self-inside.ensures c.saturating_add-self-inside-2.ensures)

pub returns : goal.returns
returns c =
    let before = c.self.inside in
    let item : TapeItem = item_by c.args.next in
    let fits : length (item_bytes item) ≤ spare_behind before.text.items (vec_capacity before.text) = rw (← c.self.view_is) at c.requires.spare in
    let some : 0 < length before.text.items = begun_some before.text.items (vec_capacity before.text) item fits in
    rw (← c.self.view_is, c.push_reserved.ensures.items, items-push before.calls.items before.text.items c.put.new.text.items before.size before.faults c.args.call item c.self.invariant some c.requires.is c.put.ensures) refl

-- The answer that a mismatch blames isn't the content's page.
use Rattle.std.proofs.Common.{◌≡◌, ℕ, List, sym, subst, ◌∙◌, Option, Some, Result}
use Rattle.std.specs.Prelude.{slice_get}
use Rattle.mg_base.specs.declared.errno.Errno.{Errno}
use Rattle.host_traits.specs.Told.{Exchanges, heard_of}
use Rattle.host_traits.specs.Did.{Trace}
use Rattle.session_frames.specs.Replies.{Sent}
use Rattle.sha_tree.specs.declared.measure.Measure.{Measure}
use Rattle.sha_tree.specs.Measured.{HasTree}
use Rattle.sha_tree.specs.Path.{NoClash}
use Rattle.sha_tree.proofs.Sound.{measured_tree}
use Rattle.verity_path.specs.Pieces.{IsHashed}
use Rattle.verity_path.specs.Walk.{IsMismatch}
use Rattle.verity_path.specs.declared.device.Cause.{Cause}
use Rattle.verity_path.specs.declared.device.Cause.TheVariants.{Mismatch as OfMismatch}
use Rattle.verity_path.specs.declared.device.Device.{Device}
use Rattle.verity_path.specs.declared.states.Mismatch.{Mismatch}
use Rattle.verity_path.specs.declared.walk.Layout.{Layout}
use Rattle.verity_path.proofs.Blaming.{mismatch_lies}
use Rattle.ro_file.specs.Files.{MeasuredFile, layout_of}
use Rattle.ro_file.proofs.Standing.{some_blocks}
use Rattle.fuse_codec.specs.Reply.{Answer}
use Rattle.fuse_server.specs.Aims.{Aim}
use Rattle.fuse_server.specs.Rows.{FuseRow, ReadRow, read_bytes, read_blamed, read_no_room}
use Rattle.guest_rules.specs.Machine.{World, ItemRead, Request}
use Rattle.guest_rules.specs.MessageRow.{around_message}
use Rattle.guest_rules.specs.ItemRow.{ItemRow, no_item, too_large, served, blamed, no_memory}
use Rattle.guest_rules.specs.Step.{Row, trace, heard_in}
use Rattle.guest_rules.specs.Run.{IsWorld}
use Rattle.guest_rules.proofs.Standing.{Known, item_apart, file_apart, world_last, known_by, known_last}
use Rattle.guest_laws.specs.Lies.{IsLie, ItemMismatchesLie, ReadMismatchesLie}

lie : (layout : Layout) (m : Measure) (content : List ℕ) (t : Trace) (x : Mismatch) → HasTree m content → NoClash (IsHashed t.heard content m.salt) → IsMismatch layout m t x → IsLie layout m content t.own x
lie layout m content t x tree apart w = record {
  bytes = w.bytes;
  last = w.own;
  other = mismatch_lies layout m t x content tree (some_blocks m.blocks x.level x.index w.expected.index) apart w;
}

same_mismatch : (c : Cause) (x : Mismatch) → Some c ≡ Some (OfMismatch x) → c ≡ OfMismatch x
same_mismatch c x e = cc

same_item : (a b : Device) → Some a ≡ Some b → a ≡ b
same_item a b e = cc

-- the mismatch that a read of an item is answered with
item_mismatch : (items : List Device) (world : World) (t : Trace) (r : ItemRead) (it : Device) (sent : Sent) (cause : Option Cause) (x : Mismatch) → slice_get items r.item ≡ Some it → ItemRow items world t r sent cause
    → cause ≡ Some (OfMismatch x) → IsMismatch it.layout it.measure t x
item_mismatch items world t r it sent cause x at (no_item absent none own) e = absurd cc
item_mismatch items world t r it sent cause x at (too_large there large none own) e = absurd cc
item_mismatch items world t r it sent cause x at (served other bytes there fits none all right shown) e = absurd cc
item_mismatch items world t r it sent cause x at (no_memory other there fits scarce order right) e = absurd cc
item_mismatch items world t r it sent cause x at (blamed other c there fits blame order right) e =
    let same : other ≡ it = same_item other it (sym there ∙ at) in
    let is : c ≡ OfMismatch x = same_mismatch c x e in
    subst (λ (z : Device). IsMismatch z.layout z.measure t x) same (rw is at blame)

pub items_lie : ItemMismatchesLie
items_lie g world old turn new r it content x step request at item is w cause =
    let own : IsWorld g old.state world (heard_of turn.own) = world_last g old.state world old.heard (heard_of turn.own) (subst (λ (z : Exchanges). IsWorld g old.state world z) step.heard w) in
    let row = subst (λ (q : Request). Row g world old.sealings (heard_in old turn new) q old.state new.state turn.sent turn.cause) request step.row in
    let found = item_mismatch g.items world (trace old turn new) r it turn.sent turn.cause x at row.1 cause in
    lie it.layout it.measure content (trace old turn new) x (measured_tree it.measure content (w.items r.item it content at is))
    (item_apart g old.state world (heard_of turn.own) r.item it content at is own) found

-- the mismatch that a READ is answered with
read_mismatch : (f : MeasuredFile) (offset size : ℕ) (t : Trace) (answer : Answer) (cause : Option Cause) (x : Mismatch) → ReadRow f offset size t answer cause → cause ≡ Some (OfMismatch x)
    → IsMismatch (layout_of f) f.measure t x
read_mismatch f offset size t answer cause x (read_bytes bytes none cut all right) e = absurd cc
read_mismatch f offset size t answer cause x (read_no_room scarce order right) e = absurd cc
read_mismatch f offset size t answer cause x (read_blamed c blame order right) e = rw (same_mismatch c x e) at blame

pub reads_lie : ReadMismatchesLie
reads_lie g world old turn new m n f offset size c x step request aim there is opened w cause =
    let known = known_by g old.state world old.heard new.heard (heard_of turn.own) step.heard opened w in
    let own = known_last g old.state world old.heard (heard_of turn.own) (subst (λ (z : Exchanges). Known g old.state world z) step.heard known) in
    let row = subst (λ (q : Request). Row g world old.sealings (heard_in old turn new) q old.state new.state turn.sent turn.cause) request step.row in
    let read = subst (λ (a : Result Aim Errno). FuseRow a (around_message (heard_in old turn new) old.state.fuse new.state.fuse) row.2.answer turn.cause) aim row.2.row in
    let found = read_mismatch f offset size (trace old turn new) row.2.answer turn.cause x read.1 cause in
    lie (layout_of f) f.measure c.content (trace old turn new) x (known.files n f c there is).tree
    (file_apart g old.state world (heard_of turn.own) n f c there is own) found

-- A read of the device of an `apk` line.
use Rattle.std.proofs.Common.{◌≡◌, ℕ, List, Option, Some, refl, sym, subst, inl, inr, ⊎_elim, arith}
use Rattle.std.specs.Prelude.{◌⊎◌, slice_get}
use Rattle.host_traits.specs.Held.{Held}
use Rattle.host_traits.specs.Told.{Exchanges, failures_of}
use Rattle.host_traits.specs.Did.{Trace}
use Rattle.session_frames.specs.Replies.{Sent, sent_code}
use Rattle.sha_tree.specs.declared.measure.Measure.{Measure}
use Rattle.verity_path.specs.Holding.{HoldsAt}
use Rattle.verity_path.specs.declared.device.Cause.{Cause}
use Rattle.verity_path.specs.declared.device.Cause.TheVariants as cause
use Rattle.verity_path.specs.declared.device.Device.{Device}
use Rattle.verity_path.specs.declared.walk.Layout.{Layout}
use Rattle.gpt.specs.declared.values.Table.{Table}
use Rattle.guest_plan.specs.declared.plan.How.{How}
use Rattle.guest_plan.specs.declared.plan.PlanLine.{PlanLine}
use Rattle.guest_plan.specs.declared.plan.PlanLine.TheVariants as line
use Rattle.guest_boot.specs.Booting.{AreServed, Booted, Means, means_of, before_lines, instance_in}
use Rattle.guest_laws.proofs.Unrecorded.{PlainPlan, from_plain}
use Rattle.guest_rules.specs.Machine.{Setting, World, Moment, Turn, ItemRead, Request, IsItem, read_of, request_of}
use Rattle.guest_rules.specs.ItemRow.{ItemRow, no_item, too_large, served, blamed, no_memory}
use Rattle.guest_rules.specs.Step.{Step, Row, trace, heard_in}
use Rattle.sha_tree.specs.Measured.{IsMeasured}
use Rattle.guest_cli.specs.Booted.{setting_of}
use Rattle.guest_rules.specs.Faithful.{HoldsDevice}
use Rattle.guest_rules.proofs.Serving.{defined_over}
use Rattle.guest_laws.specs.Fitting.{ApkReadsAreServed, AreTrue, HasFailed, HoldsApk, item_line}
use Rattle.guest_laws.proofs.Calls.{read_serves}
use Rattle.guest_laws.proofs.Fits.{IsHeldAt, true_left, true_right, true_table, boots_held}
use Rattle.guest_laws.proofs.Items.{served_line, blocks_in, item_is}
use Rattle.guest_laws.proofs.Lines.{instance_knows, at_line}

-- the device of an `apk` line is an item, and what is held has the content at its places
pub record IsApkKept (h : Held) (disk : ℕ) (items : List Device) (k : ℕ) (m : Measure) (content : List ℕ) : Type 0 where
  pub it : Device
  pub at : slice_get items k ≡ Some it
  pub held : IsHeldAt h disk it m content
  pub item : IsItem it
  pub holds : HoldsDevice h it content

pub apk_kept : (means : Means) (lines : List PlanLine) (booted : Exchanges) (new : Booted) (world : World) (h : Held) (k : ℕ) (content : List ℕ) (disk : ℕ) (apk idsig : List ℕ) (how : How) (m : Measure)
    → PlainPlan means lines booted new → AreServed lines → item_line lines k ≡ Some (line.Apk disk apk idsig how) → world.item k ≡ Some content
    → ((k : ℕ) (it : Device) (content : List ℕ) → slice_get new.items k ≡ Some it → world.item k ≡ Some content → IsMeasured it.measure content) → HoldsApk h disk apk idsig how m content → AreTrue h disk booted → IsApkKept h disk new.items k m content
apk_kept means lines booted new world h k content disk apk idsig how m b lines_served at_k is measured holds booted_true =
    let table : Table = holds.on.table in
    let read = true_table h disk holds.on in
    let at_first = instance_knows h disk table read (instance_in lines) means.salt b.first b.tables b.image b.before (true_left h disk booted b.first b.rest b.cut booted_true) in
    let found = at_line h disk table read apk idsig how lines (before_lines b.tables b.image means.secret means.entropy) new b.rest k k b.others at_first (true_right h disk booted b.first b.rest b.cut booted_true) at_k (omega arith) in
    let it : Device = found.boots.device in
    let held = boots_held h disk apk idsig how m content holds found.old found.new found.own found.boots found.known found.heard (measured k it content found.is is) in
    let said = served_line lines k (line.Apk disk apk idsig how) lines_served at_k in
    record {
      it = it;
      at = found.is;
      held = held;
      item = item_is h disk it m content held (blocks_in holds.first how holds.head m said.3 holds.measure) (measured k it content found.is is);
      holds = subst (λ (l : Layout). HoldsAt h l it.measure content) (sym held.layout) held.holds;
    }

-- a call failed only where it is the cause
row_fails : (items : List Device) (world : World) (t : Trace) (r : ItemRead) (sent : Sent) (why : Option Cause) → ItemRow items world t r sent why
    → (t.failed ≡ 0) ⊎ ((t.failed ≡ 1) × (sent ≡ sent_code 1 5) × (faults : ℕ) × (why ≡ Some (cause.Failed faults)))
row_fails items world t r _ _ (no_item beyond calm own) = inl calm
row_fails items world t r _ _ (too_large there large calm own) = inl calm
row_fails items world t r _ _ (served it bytes at small calm all right slice) = inl calm
row_fails items world t r _ _ (blamed it (cause.Mismatch x) at small blame order right) = inl blame.failed
row_fails items world t r _ _ (blamed it (cause.Short asked got) at small blame order right) = inl blame.short.failed
row_fails items world t r _ _ (blamed it (cause.Failed faults) at small blame order right) = inr (blame.failed, refl, faults, refl)
row_fails items world t r _ _ (blamed it (cause.Tag found) at small blame order right) = absurd blame
row_fails items world t r _ _ (blamed it (cause.Changed sector) at small blame order right) = absurd blame
row_fails items world t r _ _ (blamed it cause.Memory at small blame order right) = absurd blame
row_fails items world t r _ _ (no_memory it at small scarce order right) = inl scarce.failed

turn_fails : (g : Setting) (world : World) (old : Moment) (turn : Turn) (new : Moment) (r : ItemRead) → Step g world old turn new
    → request_of turn.frame ≡ read_of r → (failures_of turn.own ≡ 0) ⊎ HasFailed turn
turn_fails g world old turn new r step request =
    let row : Row g world old.sealings (heard_in old turn new) (read_of r) old.state new.state turn.sent turn.cause =
    subst (λ (q : Request). Row g world old.sealings (heard_in old turn new) q old.state new.state turn.sent turn.cause) request step.row in
    ⊎_elim (λ none. inl none) (λ f. inr (record { one = f.0; sent = f.1; faults = f.2; cause = f.3 }))
    (row_fails g.items world (trace old turn new) r turn.sent turn.cause row.1)

pub apk_reads_served : ApkReadsAreServed
apk_reads_served plan entropy booted o world old turn new h r content disk apk idsig how m opens unrecorded lines_served step request at_k is w holds booted_true read_true =
    let g : Setting = setting_of plan o in
    let made : Booted = record { tables = opens.tables; items = o.items; files = o.files; image = o.image; secret = plan.secret; entropy = o.left; writings = o.writings } in
    let a = apk_kept (means_of plan entropy) plan.lines booted made world h r.item content disk apk idsig how m (from_plain (instance_in plan.lines) (means_of plan entropy) plan.lines booted made unrecorded opens.boots) lines_served at_k is w.items holds booted_true in
    let held = a.held in
    let serves = read_serves g world old turn new h r a.it disk held.first held.tree step request a.at held.layout read_true in
    ⊎_elim (λ none. inl (defined_over g world old turn new h r a.it content step request a.at a.item is w serves a.holds none)) (λ f. inr f)
    (turn_fails g world old turn new r step request)

-- A boot over a host that holds what each line needs.
use Rattle.std.proofs.Common.{◌≡◌, ℕ, ◌∙◌, Bool, true, false, cond, List, [], ◌∷◌, ◌++◌, filter, length, Option, Some, Result, Ok, Err, refl, ap, sym, subst, inl, inr}
use Rattle.std.specs.Prelude.{slice_get, IfErr}
use Rattle.host_traits.specs.declared.calls.Call.{Call}
use Rattle.host_traits.specs.declared.calls.Said.{Said}
use Rattle.host_traits.specs.Held.{Held, serve}
use Rattle.host_traits.specs.Told.{Exchanges, Made, HeldAfter, heard_of, failures_of}
use Rattle.host_traits.specs.Did.{Trace, trace_of, IsIn, Each, reads}
use Rattle.host_traits.proofs.Doing.{each_so, in_right}
use Rattle.gpt.specs.declared.values.Table.{Table}
use Rattle.guest_plan.specs.Plans.{Known}
use Rattle.guest_plan.specs.declared.plan.PlanLine.{PlanLine}
use Rattle.guest_plan.specs.declared.plan.PlanLine.TheVariants as line
use Rattle.guest_boot.specs.declared.faults.BootCause.{BootCause}
use Rattle.guest_boot.specs.declared.faults.BootCause.TheVariants.{Gpt, NoPart, Apk, File, Image, Get, Put, NoEntropy, MeasureText, Failed, Short, Memory}
use Rattle.guest_boot.specs.declared.faults.BootFault.{BootFault}
use Rattle.guest_boot.specs.Finding.{ReadsTable}
use Rattle.guest_boot.specs.Recording.{Writing}
use Rattle.guest_boot.specs.Booting.{Booted, AllOnlyRead, Means, means_of, before_lines, instance_in, IsFault, IsForLines, OnlyReads, LineFails, BlobFails, later_of, instance_disk}
use Rattle.guest_boot.proofs.Instances.{stands}
use Rattle.guest_boot.proofs.Plans.{stays}
use Rattle.guest_plan.specs.declared.plan.How.TheVariants as measures
use Rattle.guest_rules.specs.Machine.{World}
use Rattle.guest_cli.specs.declared.boot.Machine.{Machine}
use Rattle.guest_cli.specs.Booted.{BootedOutcome}
use Rattle.guest_laws.specs.Fitting.{AreTrue, Fits, makes_item, item_line}
use Rattle.guest_laws.specs.Passing.{BootsPass}
use Rattle.guest_laws.proofs.Asking.{AreHeld, IsBootCall, boot_held, boot_call, not_failed}
use Rattle.guest_laws.proofs.Fits.{Knows, true_table, true_left, true_right}
use Rattle.guest_laws.proofs.Images.{image_passes}
use Rattle.guest_laws.proofs.Lines.{line_knows, instance_knows}
use Rattle.guest_laws.proofs.Unrecorded.{PlainBoots, PlainFrom, PlainFails, from_plain, fails_plain, unrecorded_before, unrecorded_at, reads_at, none_written, reads_only}
use Rattle.guest_laws.proofs.Passes.{CanNotFail, apk_passes, file_passes}

-- ---- the line that failed is one of the plan's

-- what follows some lines, by how many of them make items
past_one : (b : Bool) (l : PlanLine) (ys zs : List PlanLine) (x : PlanLine) → slice_get ys (length zs) ≡ Some x → slice_get (cond b (l ∷ ys) ys) (length (cond b (l ∷ zs) zs)) ≡ Some x
past_one true l ys zs x e = e
past_one false l ys zs x e = e

item_at : (before : List PlanLine) (l : PlanLine) (after : List PlanLine) → makes_item l ≡ true → item_line (before ++ l ∷ after) (length (filter makes_item before)) ≡ Some l
item_at [] l after e = subst (λ (b : Bool). slice_get (cond b (l ∷ filter makes_item after) (filter makes_item after)) 0 ≡ Some l) (sym e) refl
item_at (k ∷ before) l after e = past_one (makes_item k) k (filter makes_item (before ++ l ∷ after)) (filter makes_item before) l (item_at before l after e)

stands_at : (before : List PlanLine) (l : PlanLine) (after : List PlanLine) → slice_get (before ++ l ∷ after) (length before) ≡ Some l
stands_at [] l after = refl
stands_at (k ∷ before) l after = stands_at before l after

-- ---- the tables that were read before it

knows_all : (h : Held) (disk : ℕ) (t : Table) → ((own : Exchanges) (u : Table) → AreTrue h disk own → ReadsTable disk own u → u ≡ t) → (lines : List PlanLine) (s new : Booted) (own : Exchanges)
    → PlainBoots s lines own new → Knows disk t s.tables → AreTrue h disk own → Knows disk t new.tables
knows_all h disk t read [] s new own b known heard = subst (λ (z : Booted). Knows disk t z.tables) (sym b.1) known
knows_all h disk t read (l ∷ lines) s new own b known heard =
    knows_all h disk t read lines b.2 new b.1 b.5 (line_knows h disk t read s b.2 l b.0 known (true_left h disk own b.0 b.1 b.3 heard) b.4) (true_right h disk own b.0 b.1 b.3 heard)

blob_passes : (why : BootCause) → BlobFails why → why ≡ Memory
blob_passes Memory e = refl
blob_passes (Gpt f) e = absurd e
blob_passes (NoPart name) e = absurd e
blob_passes (Apk f) e = absurd e
blob_passes (File f) e = absurd e
blob_passes (Image f) e = absurd e
blob_passes (Get f) e = absurd e
blob_passes (Put f) e = absurd e
blob_passes (NoEntropy left) e = absurd e
blob_passes MeasureText e = absurd e
blob_passes (Failed faults) e = absurd e
blob_passes (Short asked got) e = absurd e

module _ (plan : Known) (entropy : List ℕ) (world : World) (h : Held) (fits : Fits plan world h) (t : Trace) (heard : AreHeld h t.own) (calm : CanNotFail h t) where
  line_passes : (before : List PlanLine) (l : PlanLine) (after : List PlanLine) (first rest : Exchanges) (mid : Booted) (why : BootCause) → plan.lines ≡ before ++ l ∷ after → t.own ≡ first ++ rest
      → PlainFrom (instance_in plan.lines) (means_of plan entropy) before first mid → PlainFails l mid why (later_of t rest) → why ≡ Memory
  line_passes before (line.Blob file m) after first rest mid why are cut booted fails = blob_passes why fails.1
  line_passes before (line.Apk disk apk idsig how) after first rest mid why are cut booted fails =
      let l : PlanLine = line.Apk disk apk idsig how in
      let f = fits.items (length (filter makes_item before)) l (subst (λ (z : List PlanLine). item_line z (length (filter makes_item before)) ≡ Some l) (sym are) (item_at before l after refl)) in
      let table : Table = f.holds.on.table in
      let truly : AreTrue h disk t.own = λ call said i of. heard call said i in
      let read = true_table h disk f.holds.on in
      let front : AreTrue h disk first = true_left h disk t.own first rest cut truly in
      let at_first = instance_knows h disk table read (instance_in plan.lines) plan.salt booted.first booted.tables booted.image booted.before (true_left h disk first booted.first booted.rest booted.cut front) in
      let known = knows_all h disk table read before (before_lines booted.tables booted.image plan.secret entropy) mid booted.rest booted.others at_first (true_right h disk first booted.first booted.rest booted.cut front) in
      apk_passes h disk apk idsig how f.measure f.bytes f.holds f.measured mid (later_of t rest) (true_right h disk t.own first rest cut truly) known calm why fails
  line_passes before (line.File name file digest) after first rest mid why are cut booted fails =
      let l : PlanLine = line.File name file digest in
      let f = fits.files (length before) name file digest (subst (λ (z : List PlanLine). slice_get z (length before) ≡ Some l) (sym are) (stands_at before l after)) in
      let truly : (call : Call) (said : Said) → IsIn call said rest → serve h call [] ≡ Some (said, h) = λ call said i. heard call said (subst (IsIn call said) (sym cut) (in_right call said first rest i)) in
      file_passes h file digest f.known.content f.known.salt f.holds (later_of t rest) truly calm why fails
  line_passes before other after first rest mid why are cut booted fails = absurd fails

  pub fault_passes : (fault : BootFault) (w : List Writing) → AllOnlyRead plan.lines → IsFault (means_of plan entropy) plan.lines plan.numbers fault w t → fault.why ≡ Memory
  fault_passes fault w unrecorded (inl f) =
      let i = f.1.instance in
      let holds = fits.instance i.at i.disk i.part f.1.bytes (stands plan.lines i f.1.is) f.1.salt_is in
      image_passes h i.disk i.part f.1.bytes holds t heard calm fault.why f.1.fails
  fault_passes fault w unrecorded (inr f) =
      let all : AllOnlyRead (f.before ++ f.line ∷ f.after) = subst AllOnlyRead f.lines_are unrecorded in
      line_passes f.before f.line f.after f.first f.rest f.mid fault.why f.lines_are f.cut (from_plain (instance_in plan.lines) (means_of plan entropy) f.before f.first f.mid (unrecorded_before f.before f.line f.after all) f.booted)
      (fails_plain f.mid f.line fault.why w (later_of t f.rest) (unrecorded_at f.before f.line f.after all) f.fails)

  pub outcome_passes : (result : Result Machine BootFault) (w : List Writing) → AllOnlyRead plan.lines → BootedOutcome plan entropy result w t → IfErr result (λ fault. fault.why ≡ Memory)
  outcome_passes (Ok m) w unrecorded o = tt
  outcome_passes (Err fault) w unrecorded (inl none) = none.0
  outcome_passes (Err fault) w unrecorded (inr f) = fault_passes fault w unrecorded f

-- the calls of lines of which each only reads are boot's
pub lines_call : (lines : List PlanLine) (own : List Made) → AllOnlyRead lines → Each (reads (IsForLines lines)) own → Each (reads IsBootCall) own
lines_call lines own only each = each_so (reads (IsForLines lines)) (reads IsBootCall) own
    (λ call given p. (boot_call (instance_disk (instance_in lines)) p.0.line call (reads_at lines p.0.at p.0.line only p.0.stands) p.0.for, p.1)) each

-- where none of them has its measure in a record, nothing was written, also where one failed
by_writes : (writings : List Writing) (l : PlanLine) (mid : Booted) (why : BootCause) (w : List Writing) (t : Trace) → OnlyReads l → LineFails mid l why w t → mid.writings ≡ writings → w ≡ writings
by_writes writings (line.Instance disk part) mid why w t none f e = absurd f
by_writes writings (line.Blob file m) mid why w t none f e = f.0 ∙ e
by_writes writings (line.Apk disk apk idsig (measures.Fixed m)) mid why w t none f e = f.0 ∙ e
by_writes writings (line.Apk disk apk idsig measures.First) mid why w t none f e = f.0 ∙ e
by_writes writings (line.Apk disk apk idsig (measures.Kept uuid)) mid why w t none f e = absurd none
by_writes writings (line.File name file digest) mid why w t none f e = f.0 ∙ e
by_writes writings (line.Write name file) mid why w t none f e = absurd none
by_writes writings (line.WriteDir name file) mid why w t none f e = absurd f

pub fault_writes : (plan : Known) (entropy : List ℕ) (fault : BootFault) (w : List Writing) (t : Trace) → AllOnlyRead plan.lines → IsFault (means_of plan entropy) plan.lines plan.numbers fault w t → w ≡ []
fault_writes plan entropy fault w t unrecorded (inl f) = f.0
fault_writes plan entropy fault w t unrecorded (inr f) =
    let all : AllOnlyRead (f.before ++ f.line ∷ f.after) = subst AllOnlyRead f.lines_are unrecorded in
    by_writes [] f.line f.mid fault.why w (later_of t f.rest) (unrecorded_at f.before f.line f.after all) f.fails
    (stays (before_lines f.booted.tables f.booted.image plan.secret entropy) f.before f.booted.rest f.mid (unrecorded_before f.before f.line f.after all) f.booted.others).writings

writes_none : (plan : Known) (entropy : List ℕ) (result : Result Machine BootFault) (w : List Writing) (t : Trace) → AllOnlyRead plan.lines → BootedOutcome plan entropy result w t → w ≡ []
writes_none plan entropy (Ok m) w t unrecorded o = sym o.1.written ∙ none_written plan entropy t.own o.1.opened unrecorded o.1.opens
writes_none plan entropy (Err fault) w t unrecorded (inl (is, none, inl quiet)) = quiet.1
writes_none plan entropy (Err fault) w t unrecorded (inl (is, none, inr all)) = sym all.2 ∙ none_written plan entropy t.own all.0 unrecorded all.1
writes_none plan entropy (Err fault) w t unrecorded (inr f) = fault_writes plan entropy fault w t unrecorded f

pub boots_pass : BootsPass
boots_pass plan entropy world old new result h done unrecorded told calm fits =
    let did = done.did in
    let after = subst (λ (o : Option Held). HeldAfter old.honest o did.own new.held) told did.talked.held in
    let calls = lines_call plan.lines did.own unrecorded (reads_only plan.lines done.writings did.own (writes_none plan entropy result done.writings _ unrecorded did.outcome) did.calls) in
    let boot = boot_held old.honest did.own h after.0 after.2 calls in (
      outcome_passes plan entropy world h fits (trace_of (heard_of did.own) (failures_of did.own) old new) boot.1 (λ call said one last serves. not_failed old new did.own h call said did.talked told calm calls one last serves) result done.writings unrecorded did.outcome,
      after.1 ∙ ap (λ (z : Held). Some z) boot.0,
    )

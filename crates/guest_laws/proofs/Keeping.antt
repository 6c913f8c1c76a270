-- The gets and the puts of a session over a host in memory.
use Rattle.std.proofs.Common.{◌≡◌, ◌∙◌, ℕ, true, List, [], ◌∷◌, Option, Some, None, refl, sym, subst}
use Rattle.mg_base.specs.declared.values.Span.{Span}
use Rattle.host_traits.specs.Held.{Held}
use Rattle.host_traits.specs.Told.{Exchanges, heard_of}
use Rattle.host_traits.specs.Did.{IsIn}
use Rattle.instance_image.specs.Records.{Kept, IsLaid}
use Rattle.instance_image.specs.Opening.{opening, IsOpened}
use Rattle.guest_plan.specs.Plans.{Known}
use Rattle.guest_boot.specs.Booting.{AllOnlyRead, InstanceLine, InstanceBoots, instance_in, before_lines}
use Rattle.guest_laws.proofs.Unrecorded.{none_written, reads_only}
use Rattle.guest_boot.proofs.Instances.{stands}
use Rattle.guest_boot.proofs.Plans.{stays as others_stay}
use Rattle.guest_rules.specs.Machine.{Setting, State, Moment, moment, Turn, nowhere, request_of}
use Rattle.guest_rules.specs.Step.{Step, heard_in}
use Rattle.guest_rules.specs.Run.{Run}
use Rattle.guest_cli.specs.Works.{instance_of, parts_of}
use Rattle.guest_cli.specs.Booted.{Opened, Opens, records_of, setting_of, first_state, sealings_of}
use Rattle.guest_laws.specs.Fitting.{FitsInstance}
use Rattle.guest_laws.specs.Sessions.{RunKept, RecordsAreServed}
use Rattle.guest_laws.proofs.Asking.{AreHeld, boot_held}
use Rattle.guest_laws.proofs.Boots.{lines_call}
use Rattle.guest_laws.proofs.Fits.{in_left}
use Rattle.guest_laws.proofs.Gets.{get_served}
use Rattle.guest_laws.proofs.Images.{span_is}
use Rattle.guest_laws.proofs.Kept.{record_kept}
use Rattle.guest_laws.proofs.Staying.{NoWritables, still_none, none_first}
use Rattle.guest_laws.proofs.Laid.{IsImageLaid, row_laid, opened_laid, span_ends}
use Rattle.guest_laws.proofs.Puts.{put_kept, put_served}

-- ---- the image after boot

image_is : (a b : Kept) → Some a ≡ Some b → a ≡ b
image_is a b e = cc

with_secret : (image : Option Kept) (secret : Option (List ℕ)) → ((k : Kept) → image ≡ Some k → IsLaid k) → IsImageLaid (instance_of (records_of image secret)) (parts_of (records_of image secret))
with_secret None secret laid = tt
with_secret (Some k) None laid = tt
with_secret (Some k) (Some secret) laid = laid k refl

no_kept : (k : Kept) → None ≡ Some k → ⊥
no_kept k e = cc

made_laid : (plan : Known) (h : Held) (own : Exchanges) (i : Option InstanceLine) (tables : _) (image : Option Kept) → instance_in plan.lines ≡ i → AreHeld h own → FitsInstance plan h
    → (salt : Option (List ℕ)) → plan.salt ≡ salt → InstanceBoots i salt own tables image → (k : Kept) → image ≡ Some k → IsLaid k
made_laid plan h own None tables image is heard imaged salt salted b k e = absurd (no_kept k (sym b.2 ∙ e))
made_laid plan h own (Some i) tables image is heard imaged None salted b k e = absurd b
made_laid plan h own (Some i) tables image is heard imaged (Some salt) salted b k e =
    let holds = imaged i.at i.disk i.part salt (stands plan.lines i is) salted in
    let span = span_is h i.disk i.part salt holds own heard b.2.first b.2.rest b.2.cut tables b.2.span b.2.found in
    let opened : IsOpened (opening i.disk holds.span salt) b.2.rest b.0 = subst (λ (s : Span). IsOpened (opening i.disk s salt) b.2.rest b.0) span b.2.opened in
    let same : b.0 ≡ k = image_is b.0 k (sym b.1 ∙ e) in
    subst IsLaid same (opened_laid (opening i.disk holds.span salt) (span_ends h i.disk i.part salt holds) b.2.rest b.0 opened)

pub first_laid : (plan : Known) (entropy : List ℕ) (h : Held) (own : Exchanges) (o : Opened) → AllOnlyRead plan.lines → Opens plan entropy own o → AreHeld h own → FitsInstance plan h
    → IsImageLaid (setting_of plan o).image (parts_of (records_of o.image plan.secret))
first_laid plan entropy h own o unrecorded opens heard imaged =
    let b = opens.boots in
    let same : o.image ≡ b.image = (others_stay (before_lines b.tables b.image plan.secret entropy) plan.lines b.rest _ unrecorded b.others).image in
    let front : AreHeld h b.first = λ call said i. heard call said (subst (IsIn call said) (sym b.cut) (in_left b.first b.rest call said i)) in
    with_secret o.image plan.secret (λ k e. made_laid plan h b.first (instance_in plan.lines) b.tables b.image refl front imaged plan.salt refl b.before k (sym same ∙ e))

-- ---- turn by turn

run_kept : (Imaged : Type 0) (g : Setting) (turns : List Turn) (old new : Moment) → Run g nowhere old turns new → NoWritables old.state → (Imaged → IsImageLaid g.image old.state.parts) → old.told.honest ≡ true
    → RunKept Imaged g old turns new
run_kept Imaged g [] old new run bare laid honest = run
run_kept Imaged g (turn ∷ turns) old new run bare laid honest =
    let mid : Moment = run.0 in
    let step : Step g nowhere old turn mid = run.2 in (
      mid,
      run.1,
      step,
      get_served g nowhere old turn mid step honest,
      put_served g nowhere old turn mid step honest,
      put_kept g nowhere old turn mid step,
      record_kept Imaged g nowhere old turn mid step bare laid,
      run_kept Imaged g turns mid new run.3 (still_none g nowhere old turn mid step bare)
          (λ imaged. row_laid g nowhere old.sealings (heard_in old turn mid) (request_of turn.frame) old.state mid.state turn.sent turn.cause step.row (laid imaged)) (step.talked.honest ∙ honest),
    )

pub records_served : RecordsAreServed
records_served files plan store entropy old new ended s turns unrecorded r =
    let p = s.made.planned.plan in
    let h : Held = s.made.stock.held in
    let told = s.boots.talked.held in
    let boot = boot_held true s.booted h told.0 told.2 (lines_call p.lines s.booted unrecorded (reads_only p.lines s.opened.writings s.booted (none_written p s.bytes (heard_of s.booted) s.opened unrecorded s.boots.opens) s.boots.calls)) in
    let g : Setting = setting_of p s.opened in
    let first : State = first_state p s.opened in
    run_kept (FitsInstance p h) g turns (moment first s.mid (heard_of s.booted) (sealings_of s.opened)) _ r.plain (none_first p.lines unrecorded) (λ imaged. first_laid p s.bytes h (heard_of s.booted) s.opened unrecorded s.boots.opens boot.1 imaged) s.boots.talked.honest

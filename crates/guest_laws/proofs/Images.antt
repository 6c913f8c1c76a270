-- Why the instance line doesn't fail over a host that holds its image, where no call that this can serve failed.
use Rattle.std.proofs.Common.{◌≡◌, ℕ, ◌+◌, ◌<◌, ◌≤◌, ◌∙◌, List, [], ◌∷◌, ◌++◌, length, Some, Result, Ok, Err, refl, ap, sym, subst, inl, inr, arith}
use Rattle.std.specs.Prelude.{string_bytes}
use Rattle.std.specs.List.{flat_map}
use Rattle.std.proofs.lemmas.List.{length-append}
use Rattle.mg_base.specs.declared.values.Span.{Span}
use Rattle.host_traits.specs.declared.calls.Call.{Call}
use Rattle.host_traits.specs.declared.calls.Said.{Said}
use Rattle.host_traits.specs.Held.{Held, serve}
use Rattle.host_traits.specs.Told.{Exchanges}
use Rattle.host_traits.specs.Did.{Trace, IsIn, IsFailed}
use Rattle.host_traits.proofs.Doing.{in_right}
use Rattle.gpt.specs.declared.values.Table.{Table}
use Rattle.instance_image.specs.declared.faults.ImageFault.{ImageFault}
use Rattle.instance_image.specs.declared.faults.ImageFault.TheVariants as images
use Rattle.instance_image.specs.Opening.{Opening, opening, sector_call, IsNextCall, OpenOutcome}
use Rattle.instance_image.specs.Grammar.{disk_header, slot_bytes}
use Rattle.instance_image.proofs.Served.{Answers}
use Rattle.instance_image.proofs.Written.{length-disk}
use Rattle.instance_image.proofs.Holding.{opens}
use Rattle.guest_boot.specs.declared.faults.BootCause.{BootCause}
use Rattle.guest_boot.specs.declared.faults.BootCause.TheVariants.{Gpt, NoPart, Apk, File, Image, Get, Put, NoEntropy, MeasureText, Failed, Short, Memory}
use Rattle.guest_boot.specs.Finding.{TableOn, table_on, part_in, one_part, Finds}
use Rattle.guest_boot.specs.Booting.{later_of, ImageIsRefused, ImageFails}
use Rattle.guest_laws.specs.Fitting.{AreTrue, HoldsInstance}
use Rattle.guest_laws.proofs.Asking.{AreHeld}
use Rattle.guest_laws.proofs.Heard.{sectors_serve, not_refused, not_short, next_serves}
use Rattle.guest_laws.proofs.Fits.{has_it, true_left}
use Rattle.guest_laws.proofs.Lines.{knows_none}
use Rattle.guest_laws.proofs.Passes.{CanNotFail}

span_same : (a b : Span) → ◌≡◌ {A = Result Span (List ℕ)} (Ok a) (Ok b) → a ≡ b
span_same a b e = cc

not_part : (s : Span) (name : List ℕ) → ◌≡◌ {A = Result Span (List ℕ)} (Ok s) (Err name) → ⊥
not_part s name e = cc

answers_all : (h : Held) (own : Exchanges) → AreHeld h own → Answers h own h
answers_all h [] all = refl
answers_all h (x ∷ own) all = ([], h, all x.0 x.1 (inl refl), answers_all h own (λ call said i. all call said (inr i)))

module _ (h : Held) (disk : ℕ) (name salt : List ℕ) (holds : HoldsInstance h disk name salt) where
  abbrev here : Opening
  here = opening disk holds.span salt

  -- the image has its first sector at least
  some_sectors : 1 ≤ holds.span.sectors
  some_sectors =
      let image = holds.image.image in
      let rest : List ℕ = flat_map slot_bytes holds.slots ++ image.rest in
      omega (arith, ap length image.spelled, length-append (disk_header salt) rest, length-disk salt holds.salt_len, image.len)

  sector_serves : (at : ℕ) → at < holds.span.sectors → (said : Said) × (serve h (sector_call here at) [] ≡ Some (said, h))
  sector_serves at lt = let room = holds.image.room in (_, sectors_serve h disk holds.image.disk holds.image.is (holds.span.first + at) 1 (omega (arith, room, lt)))

  call_serves : (own : Exchanges) (call : Call) → IsNextCall here own call → (said : Said) × (serve h call [] ≡ Some (said, h))
  call_serves own call (inl n) = let s = sector_serves 0 some_sectors in (s.0, subst (λ (c : Call). serve h c [] ≡ Some (s.0, h)) (sym n.1) s.1)
  call_serves own call (inr n) = let s = sector_serves n.0.next n.2 in (s.0, subst (λ (c : Call). serve h c [] ≡ Some (s.0, h)) (sym n.3) s.1)

  -- the part that was found is the one that is held
  pub span_is : (own : Exchanges) → AreHeld h own → (first rest : Exchanges) → own ≡ first ++ rest → (new : List TableOn) (span : Span) → Finds [] disk (one_part name) first new span → span ≡ holds.span
  span_is own heard first rest cut new span found =
      let truly : AreTrue h disk own = λ call said i of. heard call said i in
      let table = has_it h disk holds.on (table_on disk []) first found.table (knows_none disk holds.on.table) (true_left h disk own first rest cut truly) found.has in
      span_same span holds.span (sym found.found_is ∙ ap (λ (z : Table). part_in z name) table ∙ holds.part)

  module _ (t : Trace) (heard : AreHeld h t.own) (calm : CanNotFail h t) where
    truly : AreTrue h disk t.own
    truly = λ call said i of. heard call said i

    -- an image that was refused
    module _ (f : ImageFault) (r : ImageIsRefused [] disk name salt f t) where
      span : r.span ≡ holds.span
      span = span_is t.own heard r.first r.rest r.cut r.new r.span r.found

      outcome : OpenOutcome here (Err f) (later_of t r.rest)
      outcome = subst (λ (s : Span). OpenOutcome (opening disk s salt) (Err f) (later_of t r.rest)) span r.outcome

      answered : Answers h r.rest h
      answered = answers_all h r.rest (λ call said i. heard call said (subst (IsIn call said) (sym r.cut) (in_right call said r.first r.rest i)))

      no_memory : t.failed ≡ 0 → f ≡ images.Memory
      no_memory none = opens here holds.slots h holds.salt_len holds.image (later_of t r.rest) h answered none (Err f) outcome

    not_failed : (own : Exchanges) (faults : ℕ) → IsFailed (IsNextCall here own) (later_of t own) faults → ⊥
    not_failed own faults failed =
        let serves = call_serves own failed.call failed.for in
        calm failed.call serves.0 failed.failed failed.last serves.1

    refused : (f : ImageFault) → ImageIsRefused [] disk name salt f t → f ≡ images.Memory
    refused (images.Failed faults) r = absurd (not_failed r.rest faults (outcome (images.Failed faults) r))
    refused (images.Short asked got) r = no_memory (images.Short asked got) r (outcome (images.Short asked got) r).1.failed
    refused images.Magic r = no_memory images.Magic r (outcome images.Magic r).0
    refused (images.Version found) r = no_memory (images.Version found) r (outcome (images.Version found) r).0
    refused (images.NotZero sector) r = no_memory (images.NotZero sector) r (outcome (images.NotZero sector) r).0
    refused images.SaltMismatch r = no_memory images.SaltMismatch r (outcome images.SaltMismatch r).0
    refused (images.Header sector) r = no_memory (images.Header sector) r (outcome (images.Header sector) r).0
    refused (images.TooMany sector) r = no_memory (images.TooMany sector) r (outcome (images.TooMany sector) r).0
    refused images.Memory r = refl

    by_cause : (f : ImageFault) → f ≡ images.Memory → ImageFails [] disk name salt (Image f) t → Image f ≡ Memory
    by_cause images.Memory same e = absurd e
    by_cause (images.Failed faults) same e = absurd cc
    by_cause (images.Short asked got) same e = absurd cc
    by_cause images.Magic same e = absurd cc
    by_cause (images.Version found) same e = absurd cc
    by_cause (images.NotZero sector) same e = absurd cc
    by_cause images.SaltMismatch same e = absurd cc
    by_cause (images.Header sector) same e = absurd cc
    by_cause (images.TooMany sector) same e = absurd cc

    image_fails : (f : ImageFault) → ImageFails [] disk name salt (Image f) t → f ≡ images.Memory
    image_fails (images.Failed faults) e = refused (images.Failed faults) e
    image_fails (images.Short asked got) e = refused (images.Short asked got) e
    image_fails images.Magic e = refused images.Magic e
    image_fails (images.Version found) e = refused (images.Version found) e
    image_fails (images.NotZero sector) e = refused (images.NotZero sector) e
    image_fails images.SaltMismatch e = refused images.SaltMismatch e
    image_fails (images.Header sector) e = refused (images.Header sector) e
    image_fails (images.TooMany sector) e = refused (images.TooMany sector) e
    image_fails images.Memory e = refl

    pub image_passes : (why : BootCause) → ImageFails [] disk name salt why t → why ≡ Memory
    image_passes Memory e = refl
    image_passes (Gpt f) e = absurd (not_refused h disk holds.on.on holds.on.there holds.on.sectors holds.on.table holds.on.whole holds.on.are_bytes holds.on.is_table t.own truly f e.1.1)
    image_passes (NoPart part) (none, e) =
        let table = has_it h disk holds.on (table_on disk []) t.own e.table (knows_none disk holds.on.table) truly e.has in
        absurd (not_part holds.span (string_bytes part) (sym holds.part ∙ ap (λ (z : Table). part_in z name) (sym table) ∙ e.lacks))
    image_passes (Apk f) e = absurd e
    image_passes (File f) e = absurd e
    image_passes (Get f) e = absurd e
    image_passes (Put f) e = absurd e
    image_passes (NoEntropy left) e = absurd e
    image_passes MeasureText e = absurd e
    image_passes (Image f) e = by_cause f (image_fails f e) e
    image_passes (Failed faults) e =
        let failed = e.1 in
        let serves = next_serves h disk holds.on.on holds.on.there holds.on.sectors holds.on.table holds.on.whole holds.on.are_bytes holds.on.is_table t.own truly failed.call failed.for in
        absurd (calm failed.call serves.0 failed.failed failed.last serves.1)
    image_passes (Short asked got) e = absurd (not_short h disk holds.on.on holds.on.there holds.on.sectors holds.on.table holds.on.whole holds.on.are_bytes holds.on.is_table t.own truly asked got e.1.1)

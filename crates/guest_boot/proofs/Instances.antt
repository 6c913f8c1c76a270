-- The instance line of a plan, and its image.
use Rattle.std.proofs.Common.{◌≡◌, ℕ, zero, suc, ◌+◌, ◌<◌, ◌≤◌, ◌∙◌, List, [], ◌∷◌, ◌++◌, length, drop, get_or, Option, Some, None, Ok, Err, refl, ap, sym, subst, inl, inr, arith}
use Rattle.std.specs.Prelude.{slice_get}
use Rattle.mg_base.specs.declared.values.Span.{Span}
use Rattle.host_traits.specs.declared.calls.Call.{Call}
use Rattle.host_traits.specs.Told.{Told, Exchanges}
use Rattle.host_traits.specs.Did.{Did, Trace, trace_of}
use Rattle.host_traits.proofs.Doing.{did_so, did_then, failed_later, short_later}
use Rattle.instance_image.specs.declared.faults.ImageFault.{ImageFault}
use Rattle.instance_image.specs.declared.faults.ImageFault.TheVariants as images
use Rattle.instance_image.specs.Records.{Kept}
use Rattle.instance_image.specs.Opening.{Opening, opening, IsImageCall, IsNextCall, OpenOutcome}
use Rattle.guest_plan.specs.declared.plan.PlanLine.{PlanLine}
use Rattle.guest_plan.specs.declared.plan.PlanLine.TheVariants as line
use Rattle.guest_boot.specs.declared.faults.BootCause.{BootCause}
use Rattle.guest_boot.specs.declared.faults.BootCause.TheVariants.{Gpt, NoPart, Apk, File, Image, Get, Put, NoEntropy, MeasureText, Failed, Short, Memory}
use Rattle.guest_boot.specs.Finding.{TableOn, IsTableCall, one_part, Finds, FindFails, FindOutcome}
use Rattle.guest_boot.specs.Booting.{InstanceLine, instance_from, instance_in, InstanceStands, IsSalted, IsForImage, IsForLines, most_of_instance, image_cause, ImageBoots, ImageIsRefused, ImageFails, ImageOutcome, InstanceBoots, InstanceOutcome}
use Rattle.guest_plan.specs.Plans.{Known}
use Rattle.guest_plan.specs.Spelling.{IsPlan}
use Rattle.guest_boot.proofs.Plans.{plan_numbered, plan_salted}
use Rattle.guest_boot.proofs.Finds.{drop_at}

-- ---- opening the image, seen from before

module _ (o : Opening) (a b c : Told) (y : Exchanges) (failed : ℕ) (le : a.faults ≤ b.faults) where
  image_later : (f : ImageFault) → OpenOutcome o (Err f) (trace_of y failed b c) → OpenOutcome o (Err f) (trace_of y failed a c)
  image_later (images.Failed faults) q = failed_later (IsNextCall o y) a b c [] y failed faults le q
  image_later (images.Short asked got) q = (q.0, short_later a b c [] y failed asked got q.1)
  image_later images.Magic q = q
  image_later (images.Version found) q = q
  image_later (images.NotZero sector) q = q
  image_later images.SaltMismatch q = q
  image_later (images.Header sector) q = q
  image_later (images.TooMany sector) q = q
  image_later images.Memory q = q

-- ---- the image in a part

module _ (tables : List TableOn) (disk : ℕ) (part salt : List ℕ) (new : List TableOn) where
  no_part : (why : BootCause) (t : Trace) → FindFails tables disk (one_part part) why t → ImageFails tables disk part salt why t
  no_part (Gpt f) t h = h
  no_part (NoPart name) t h = h
  no_part (Apk f) t h = absurd h.1
  no_part (File f) t h = absurd h.1
  no_part (Image f) t h = absurd h.1
  no_part (Get f) t h = absurd h.1
  no_part (Put f) t h = absurd h.1
  no_part (NoEntropy left) t h = absurd h.1
  no_part MeasureText t h = absurd h.1
  no_part (Failed faults) t h = h
  no_part (Short asked got) t h = h
  no_part Memory t h = (h.0, inl h.1)

  pub image_no_part : (a b : Told) (why : BootCause) → Did (IsTableCall disk) 3 a b (FindOutcome tables disk (one_part part) new (Err why)) → Did (IsForImage disk) 261 a b (ImageOutcome tables disk part salt new (Err why))
  image_no_part a b why d = did_so _ _ 3 261 a b _ _ d (λ call is. inl is) (omega arith) (no_part why)

  module _ (a b c : Told) (span : Span) (d : Did (IsTableCall disk) 3 a b (FindOutcome tables disk (one_part part) new (Ok span))) where
    abbrev o : Opening
    o = opening disk span salt

    for_sector : (call : Call) → IsImageCall o call → IsForImage disk call
    for_sector call is = inr (span.first + is.at, is.call_is)

    both : (P R : Trace → Type 0) → Did (IsImageCall o) 258 b c P
        → ((x y : Exchanges) (failed : ℕ) → a.faults ≤ b.faults → Finds tables disk (one_part part) x new span → P (trace_of y failed b c) → R (trace_of (x ++ y) failed a c))
        → Did (IsForImage disk) 261 a c R
    both P R e f = did_then (IsForImage disk) 3 258 a b c _ P R (did_so _ _ 3 3 a b _ _ d (λ call is. inl is) (omega arith) (λ t p. p)) (did_so _ _ 258 258 b c _ _ e for_sector (omega arith) (λ t p. p)) (λ t p. p.0) (λ x y failed le p q. f x y failed le p.1 q)

    pub image_boots : (image : Kept) → Did (IsImageCall o) 258 b c (OpenOutcome o (Ok image)) → Did (IsForImage disk) 261 a c (ImageOutcome tables disk part salt new (Ok image))
    image_boots image e = both _ _ e (λ x y failed le p q. (q.0, record { first = x; rest = y; cut = refl; span = span; found = p; opened = q.1 }))

    named : (f : ImageFault) (t : Trace) → ImageIsRefused tables disk part salt f t → ImageFails tables disk part salt (image_cause f) t
    named (images.Failed faults) t h = h
    named (images.Short asked got) t h = h
    named images.Magic t h = h
    named (images.Version found) t h = h
    named (images.NotZero sector) t h = h
    named images.SaltMismatch t h = h
    named (images.Header sector) t h = h
    named (images.TooMany sector) t h = h
    named images.Memory t h = (h.outcome.0, inr h)

    pub image_refused : (f : ImageFault) → Did (IsImageCall o) 258 b c (OpenOutcome o (Err f)) → Did (IsForImage disk) 261 a c (ImageOutcome tables disk part salt new (Err (image_cause f)))
    image_refused f e = both _ _ e (λ x y failed le p q. named f _ (record { first = x; rest = y; cut = refl; new = new; span = span; found = p; outcome = image_later o a b c y failed le f q }))

-- ---- the instance line among the lines

pub found_from : (n : ℕ) (lines : List PlanLine) (i : InstanceLine) → instance_from n lines ≡ Some i → (k : ℕ) × (i.at ≡ n + k) × (slice_get lines k ≡ Some (line.Instance i.disk i.part))
unfolding instance_from
found_from n [] i e = absurd cc
found_from n (line.Instance disk part ∷ lines) i e =
    let same : record { at = n; disk = disk; part = part } ≡ i = cc in
    subst (λ (z : InstanceLine). (k : ℕ) × (z.at ≡ n + k) × (slice_get (line.Instance disk part ∷ lines) k ≡ Some (line.Instance z.disk z.part))) same (0, omega arith, refl)
found_from n (line.Blob file m ∷ lines) i e = let r = found_from (n + 1) lines i e in (suc r.0, omega (arith, r.1), r.2)
found_from n (line.Apk disk apk idsig how ∷ lines) i e = let r = found_from (n + 1) lines i e in (suc r.0, omega (arith, r.1), r.2)
found_from n (line.File name file digest ∷ lines) i e = let r = found_from (n + 1) lines i e in (suc r.0, omega (arith, r.1), r.2)
found_from n (line.Write name file ∷ lines) i e = let r = found_from (n + 1) lines i e in (suc r.0, omega (arith, r.1), r.2)
found_from n (line.WriteDir name file ∷ lines) i e = let r = found_from (n + 1) lines i e in (suc r.0, omega (arith, r.1), r.2)

pub stands : InstanceStands
stands lines i e =
    let r = found_from 0 lines i e in
    let at : r.0 ≡ i.at = omega (arith, r.1) in
    subst (λ (k : ℕ). slice_get lines k ≡ Some (line.Instance i.disk i.part)) at r.2

pub get_within : {A : Type 0} (xs : List A) (k : ℕ) (x : A) → slice_get xs k ≡ Some x → k < length xs
get_within [] k x e = absurd cc
get_within (y ∷ xs) zero x e = omega arith
get_within (y ∷ xs) (suc k) x e = omega (arith, get_within xs k x e)

-- it has a number in the text
pub is_numbered : (text : List ℕ) (plan : Known) (i : InstanceLine) → IsPlan text plan → instance_in plan.lines ≡ Some i → i.at < length plan.numbers
is_numbered text plan i p e = omega (arith, plan_numbered text plan p, get_within plan.lines i.at _ (stands plan.lines i e))

-- and the plan has a salt
pub not_unsalted : (text : List ℕ) (plan : Known) (i : InstanceLine) → IsPlan text plan → instance_in plan.lines ≡ Some i → plan.salt ≡ None → ⊥
not_unsalted text plan i p e none =
    subst (λ (s : Option (List ℕ)). IsSalted (Some i) s) none (subst (λ (o : Option InstanceLine). IsSalted o plan.salt) e (plan_salted text plan p))

-- ---- the search for it

instance_here : (n disk : ℕ) (part : List ℕ) (lines : List PlanLine) → instance_from n (line.Instance disk part ∷ lines) ≡ Some (record { at = n; disk = disk; part = part })
unfolding instance_from
instance_here n disk part lines = refl

pub instance_at : (lines : List PlanLine) (k disk : ℕ) (part : List ℕ) (l : PlanLine) → k < length lines → l ≡ get_or lines k l → l ≡ line.Instance disk part
    → instance_from k (drop k lines) ≡ instance_in lines → instance_in lines ≡ Some (record { at = k; disk = disk; part = part })
instance_at lines k disk part l lt is are e =
    sym e ∙ ap (λ (z : List PlanLine). instance_from k z) (drop_at lines k l lt is) ∙ ap (λ (z : PlanLine). instance_from k (z ∷ drop (suc k) lines)) are ∙ instance_here k disk part (drop (suc k) lines)

-- ---- what it makes, before all lines

module _ (salt : Option (List ℕ)) (lines : List PlanLine) (numbers : List ℕ) where
  module _ (i : InstanceLine) (is : instance_in lines ≡ Some i) (bytes : List ℕ) (salt_is : salt ≡ Some bytes) (a b : Told) (new : List TableOn) where
    for_lines : (call : Call) → IsForImage i.disk call → IsForLines lines call
    for_lines call f = record { at = i.at; line = line.Instance i.disk i.part; stands = stands lines i is; for = f }

    few : 261 ≤ most_of_instance (instance_in lines)
    few = subst (λ (o : Option InstanceLine). 261 ≤ most_of_instance o) (sym is) (omega arith)

    with_salt : (own : Exchanges) (image : Kept) (s : Option (List ℕ)) → s ≡ Some bytes → ImageBoots [] i.disk i.part bytes own new image → InstanceBoots (Some i) s own new (Some image)
    with_salt own image s e m = subst (λ (z : Option (List ℕ)). InstanceBoots (Some i) z own new (Some image)) (sym e) (image, refl, m)

    pub instance_boots : (image : Kept) → Did (IsForImage i.disk) 261 a b (ImageOutcome [] i.disk i.part bytes new (Ok image))
        → Did (IsForLines lines) (most_of_instance (instance_in lines)) a b (InstanceOutcome salt lines numbers new (Ok (Some image)))
    instance_boots image d = did_so _ _ 261 _ a b _ _ d for_lines few (λ t h. (h.0, subst (λ (o : Option InstanceLine). InstanceBoots o salt t.own new (Some image)) (sym is) (with_salt t.own image salt salt_is h.1)))

    pub instance_fails : (n : ℕ) (why : BootCause) → slice_get numbers i.at ≡ Some n → Did (IsForImage i.disk) 261 a b (ImageOutcome [] i.disk i.part bytes new (Err why))
        → Did (IsForLines lines) (most_of_instance (instance_in lines)) a b (InstanceOutcome salt lines numbers new (Err (record { line = n; why = why })))
    instance_fails n why at d = did_so _ _ 261 _ a b _ _ d for_lines few (λ t h. record { instance = i; is = is; number = at; bytes = bytes; salt_is = salt_is; fails = h })

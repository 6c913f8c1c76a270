-- The calls of boot: they change nothing that is held, and where no count rose or the host is honest none fails that what is held
-- can serve.
use Rattle.std.proofs.Common.{◌≡◌, ◌<◌, ◌+◌, ◌-◌, ◌∙◌, ℕ, zero, suc, Bool, true, List, [], ◌∷◌, Option, Some, None, refl, ap, sym, subst, inl, inr, arith}
use Rattle.std.specs.Prelude.{min}
use Rattle.host_traits.specs.declared.calls.Call.{Call}
use Rattle.host_traits.specs.declared.calls.Call.TheVariants.{BlockSize, BlockRead, Descriptor}
use Rattle.host_traits.specs.declared.calls.Said.{Said}
use Rattle.host_traits.specs.Held.{Held, serve, found}
use Rattle.host_traits.specs.Told.{Told, Calm, Exchanges, Made, Talked, Serves, ServesAll, HeldAfter, exchange_of, heard_of, failures_of, one_failure, last_after, failed_by}
use Rattle.host_traits.specs.Did.{IsIn, Each, reads}
use Rattle.host_traits.proofs.Doing.{in_both}
use Rattle.guest_plan.specs.declared.plan.PlanLine.{PlanLine}
use Rattle.guest_plan.specs.declared.plan.PlanLine.TheVariants as line
use Rattle.guest_plan.specs.declared.plan.How.TheVariants as measures
use Rattle.guest_boot.specs.Booting.{IsForApk, IsForLine, OnlyReads}
use Rattle.guest_rules.proofs.Holding.{pair_is, when_is}

pub data IsBootCall : Call → Type 0 where
  of_size : (disk : ℕ) → IsBootCall (BlockSize disk)
  of_sectors : (disk sector count : ℕ) → IsBootCall (BlockRead disk sector count)
  of_descriptor : (file : ℕ) → IsBootCall (Descriptor file)

found_keeps : {A : Type 0} (o : Option A) (f : A → Option (Said × Held)) (h k : Held) (said : Said) → ((a : A) → f a ≡ Some (said, k) → k ≡ h) → found o f ≡ Some (said, k) → k ≡ h
found_keeps None f h k said all e = absurd cc
found_keeps (Some a) f h k said all e = all a e

call_keeps : (h k : Held) (call : Call) (given : List ℕ) (said : Said) → IsBootCall call → serve h call given ≡ Some (said, k) → k ≡ h
unfolding serve
call_keeps h k call given said (of_size disk) e = found_keeps (h.disk disk) _ h k said (λ d is. sym (pair_is _ (said, k) is).1) e
call_keeps h k call given said (of_sectors disk sector count) e =
    found_keeps (h.disk disk) _ h k said (λ d is. sym (pair_is _ (said, k) (when_is _ _ (said, k) is).1).1) e
call_keeps h k call given said (of_descriptor file) e = found_keeps (h.file file) _ h k said (λ f is. sym (pair_is _ (said, k) is).1) e

-- nor does it matter what they give
call_bare : (h : Held) (call : Call) (given : List ℕ) (said : Said) → IsBootCall call → serve h call given ≡ Some (said, h) → serve h call [] ≡ Some (said, h)
unfolding serve
call_bare h call given said (of_size disk) e = e
call_bare h call given said (of_sectors disk sector count) e = e
call_bare h call given said (of_descriptor file) e = e

same_said : (p q : Call × Said) → p ≡ q → (p.0 ≡ q.0) × (p.1 ≡ q.1)
same_said p q e = (ap (λ x. x.0) e, ap (λ x. x.1) e)

abbrev pub AreHeld : Held → Exchanges → Type 0
AreHeld h own = (call : Call) (said : Said) → IsIn call said own → serve h call [] ≡ Some (said, h)

pub boot_keeps : (honest : Bool) (h k : Held) (call : Call) (given : List ℕ) (came : Option Said) → IsBootCall call → Serves honest h call given came k → k ≡ h
boot_keeps honest h k call given None boot s = s.0
boot_keeps honest h k call given (Some said) boot s = call_keeps h k call given said boot s

held_one : (honest : Bool) (h : Held) (c : Call) (given : List ℕ) (came : Option Said) → IsBootCall c → Serves honest h c given came h
    → (call : Call) (said : Said) → IsIn call said (exchange_of c came) → serve h call [] ≡ Some (said, h)
held_one honest h c given None boot s call said i = absurd i
held_one honest h c given (Some x) boot s call said (inl e) = rw ((same_said (call, said) (c, x) e).0, (same_said (call, said) (c, x) e).1) (call_bare h c given x boot s)
held_one honest h c given (Some x) boot s call said (inr i) = absurd i

pub boot_held : (honest : Bool) (own : List Made) (h k : Held) → ServesAll honest h own k → Each (reads IsBootCall) own → (k ≡ h) × AreHeld h (heard_of own)
boot_held honest [] h k s calls = (s, λ call said i. absurd i)
boot_held honest (m ∷ own) h k s calls =
    let same = boot_keeps honest h s.0 m.call m.given m.came calls.0.0 s.1 in
    let rest = boot_held honest own h k (subst (λ z. ServesAll honest z own k) same s.2) calls.1 in (
      rest.0,
      in_both (λ call said. serve h call [] ≡ Some (said, h)) (exchange_of m.call m.came) (heard_of own)
          (held_one honest h m.call m.given m.came calls.0.0 (subst (λ z. Serves honest h m.call m.given m.came z) same s.1)) rest.1,
    )

apk_call : (disk : ℕ) (call : Call) → IsForApk disk call → IsBootCall call
apk_call disk call (inl (inl e)) = subst IsBootCall (sym e) (of_size disk)
apk_call disk call (inl (inr (inl e))) = subst IsBootCall (sym e) (of_sectors disk 0 40)
apk_call disk call (inl (inr (inr t))) = subst IsBootCall (sym t.2) (of_sectors disk (t.0 - 40) 40)
apk_call disk call (inr p) = subst IsBootCall (sym p.1) (of_sectors disk p.0.first (min p.0.sectors 136))

pub boot_call : (image : Option ℕ) (l : PlanLine) (call : Call) → OnlyReads l → IsForLine image l call → IsBootCall call
boot_call image (line.Apk disk apk idsig (measures.Fixed m)) call only f = apk_call disk call f
boot_call image (line.Apk disk apk idsig measures.First) call only f = apk_call disk call f
boot_call image (line.Apk disk apk idsig (measures.Kept uuid)) call only f = absurd only
boot_call image (line.File name file digest) call only e = subst IsBootCall (sym e) (of_descriptor file)
boot_call image (line.Instance disk part) call only (inl (inl e)) = subst IsBootCall (sym e) (of_size disk)
boot_call image (line.Instance disk part) call only (inl (inr (inl e))) = subst IsBootCall (sym e) (of_sectors disk 0 40)
boot_call image (line.Instance disk part) call only (inl (inr (inr t))) = subst IsBootCall (sym t.2) (of_sectors disk (t.0 - 40) 40)
boot_call image (line.Instance disk part) call only (inr p) = subst IsBootCall (sym p.1) (of_sectors disk p.0 1)
boot_call image (line.Blob file m) call only e = absurd e
boot_call image (line.Write name file) call only e = absurd only
boot_call image (line.WriteDir name file) call only e = absurd e

-- ---- the last call that failed

-- where none failed, the last that did is the one before
none_failed : (before : Option Call) (call : Call) (came : Option Said) (own : List Made) → one_failure came + failures_of own ≡ 0
    → ((b : Option Call) → failures_of own ≡ 0 → last_after b own ≡ b) → last_after (failed_by before call came) own ≡ before
none_failed before call None own e later = absurd (omega (arith, e))
none_failed before call (Some said) own e later = later before (omega (arith, e))

last_before : (before : Option Call) (own : List Made) → failures_of own ≡ 0 → last_after before own ≡ before
last_before before [] e = refl
last_before before (m ∷ own) e = none_failed before m.call m.came own e (λ b none. last_before b own none)

same_call : (a b : Call) → Some a ≡ Some b → a ≡ b
same_call a b e = cc

first_refused : (h k : Held) (before : Option Call) (c : Call) (given : List ℕ) (came : Option Said) (own : List Made) (call : Call) → Serves true h c given came k → given ≡ []
    → 0 < one_failure came + failures_of own → failures_of own ≡ 0 → last_after (failed_by before c came) own ≡ Some call → serve h call [] ≡ None
first_refused h k before c given None own call s bare some none last =
    let this : c ≡ call = same_call c call (sym (last_before (Some c) own none) ∙ last) in
    subst (λ (z : Call). serve h z [] ≡ None) this (subst (λ (g : List ℕ). serve h c g ≡ None) bare (s.1 refl))
first_refused h k before c given (Some said) own call s bare some none last = absurd (omega (arith, some, none))

-- the last call that failed is the first one, or one of the later ones
first_or_later : (n : ℕ) (h k : Held) (before : Option Call) (c : Call) (given : List ℕ) (came : Option Said) (own : List Made) (call : Call) → failures_of own ≡ n → Serves true h c given came k
    → given ≡ [] → 0 < one_failure came + failures_of own → last_after (failed_by before c came) own ≡ Some call → (0 < failures_of own → serve h call [] ≡ None) → serve h call [] ≡ None
first_or_later zero h k before c given came own call e s bare some last later = first_refused h k before c given came own call s bare some e last
first_or_later (suc n) h k before c given came own call e s bare some last later = later (omega (arith, e))

-- over an honest host, the last call that failed can't be served by what is held
refused_last : (own : List Made) (h k : Held) (before : Option Call) (call : Call) → ServesAll true h own k → Each (reads IsBootCall) own → 0 < failures_of own → last_after before own ≡ Some call
    → serve h call [] ≡ None
refused_last [] h k before call s each some last = absurd (omega (arith, some))
refused_last (m ∷ own) h k before call s each some last =
    let same : s.0 ≡ h = boot_keeps true h s.0 m.call m.given m.came each.0.0 s.1 in
    first_or_later (failures_of own) h s.0 before m.call m.given m.came own call refl s.1 each.0.1 some last
    (λ more. refused_last own h k (failed_by before m.call m.came) call (subst (λ (z : Held). ServesAll true z own k) same s.2) each.1 more last)

not_both : (a : Said × Held) (o : Option (Said × Held)) → o ≡ None → o ≡ Some a → ⊥
not_both a o e f = cc

-- a call that what is held can serve is not the last that failed, where one did
pub not_failed : (a b : Told) (own : List Made) (h : Held) (call : Call) (said : Said) → Talked a b own → a.held ≡ Some h → Calm a b → Each (reads IsBootCall) own
    → failures_of own ≡ 1 → b.last_failed ≡ Some call → serve h call [] ≡ Some (said, h) → ⊥
not_failed a b own h call said talked told (inl quiet) each one last serves = quiet (omega (arith, one, talked.counted))
not_failed a b own h call said talked told (inr honest) each one last serves =
    let held = subst (λ (z : Bool). HeldAfter z a.held own b.held) honest talked.held in
    let after = subst (λ (o : Option Held). HeldAfter true o own b.held) told held in
    let some : 0 < failures_of own = omega (arith, one) in
    not_both (said, h) (serve h call []) (refused_last own h after.0 a.last_failed call after.2 each some (sym talked.last_failed ∙ last)) serves

-- The first line that lacks something, one line after another.
use Rattle.std.proofs.Common.{◌≡◌, ◌<◌, ℕ, zero, suc, List, [], ◌∷◌, length, drop, get_or, Bool, true, false, Some, None, refl, sym, ap, subst, ◌∙◌, arith, min, inl, inr}
use Rattle.std.proofs.lemmas.Bool.{cases_lt}
use Rattle.std.proofs.lemmas.List.{drop_all}
use Rattle.guest_plan.specs.declared.plan.PlanLine.{PlanLine}
use Rattle.guest_plan.specs.Plans.{lacks, first_lacking}

pub lacking_next : (keyed there : Bool) (lines : List PlanLine) (numbers : List ℕ) (i j : ℕ) (d l : PlanLine) → j ≡ suc i → i < length lines → i < length numbers → get_or lines i d ≡ l → lacks keyed there l ≡ false →
    first_lacking keyed there (drop i lines) (drop i numbers) ≡ first_lacking keyed there (drop j lines) (drop j numbers)
lacking_next keyed there lines numbers i j d l is a b at no_lack = subst (λ (k : ℕ). first_lacking keyed there (drop i lines) (drop i numbers) ≡ first_lacking keyed there (drop k lines) (drop k numbers)) (sym is) (next lines numbers i a b at)
  where
    next : (lines : List PlanLine) (numbers : List ℕ) (i : ℕ) → i < length lines → i < length numbers → get_or lines i d ≡ l → first_lacking keyed there (drop i lines) (drop i numbers) ≡ first_lacking keyed there (drop (suc i) lines) (drop (suc i) numbers)
    next [] numbers i a b at = absurd (omega arith)
    next (x ∷ lines) [] i a b at = absurd (omega arith)
    next (x ∷ lines) (n ∷ numbers) zero a b at = let t : lacks keyed there x ≡ false = ap (lacks keyed there) at ∙ no_lack in rw t refl
    next (x ∷ lines) (n ∷ numbers) (suc i) a b at = next lines numbers i (omega arith) (omega arith) at

pub lacking_here : (keyed there : Bool) (lines : List PlanLine) (numbers : List ℕ) (i : ℕ) (d l : PlanLine) (e n : ℕ) → i < length lines → i < length numbers → get_or lines i d ≡ l → lacks keyed there l ≡ true → get_or numbers i e ≡ n →
    first_lacking keyed there (drop i lines) (drop i numbers) ≡ Some n
lacking_here keyed there [] numbers i d l e n a b at lack is = absurd (omega arith)
lacking_here keyed there (x ∷ lines) [] i d l e n a b at lack is = absurd (omega arith)
lacking_here keyed there (x ∷ lines) (m ∷ numbers) zero d l e n a b at lack is = let t : lacks keyed there x ≡ true = ap (lacks keyed there) at ∙ lack in rw t (ap (λ (k : ℕ). Some k) is)
lacking_here keyed there (x ∷ lines) (m ∷ numbers) (suc i) d l e n a b at lack is = lacking_here keyed there lines numbers i d l e n (omega arith) (omega arith) at lack is

no_lines : (keyed there : Bool) (lines : List PlanLine) (numbers : List ℕ) → lines ≡ [] → first_lacking keyed there lines numbers ≡ None
no_lines keyed there lines numbers e = ap (λ (x : List PlanLine). first_lacking keyed there x numbers) e

no_numbers : (keyed there : Bool) (lines : List PlanLine) (numbers : List ℕ) → numbers ≡ [] → first_lacking keyed there lines numbers ≡ None
no_numbers keyed there [] numbers e = refl
no_numbers keyed there (l ∷ lines) numbers e = ap (first_lacking keyed there (l ∷ lines)) e

-- behind the shorter list's end there is nothing
pub lacking_none : (keyed there : Bool) (lines : List PlanLine) (numbers : List ℕ) (i : ℕ) → i ≡ min (length lines) (length numbers) → first_lacking keyed there (drop i lines) (drop i numbers) ≡ None
lacking_none keyed there lines numbers i e =
    elim (cases_lt (length numbers) (length lines)) [
      | inl lt ↦ no_numbers keyed there (drop i lines) (drop i numbers) (drop_all i numbers (omega arith))
      | inr ge ↦ no_lines keyed there (drop i lines) (drop i numbers) (drop_all i lines (omega arith))
    ]

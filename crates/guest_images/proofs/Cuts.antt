-- A list cut at the place of one of its elements.
use Rattle.std.proofs.Common.{◌≡◌, ℕ, suc, ◌+◌, ◌<◌, List, ◌∷◌, length, drop, get_or, ap, sym, subst, ◌∙◌, arith}
use Rattle.std.proofs.Math.Seq.{drop-cons}

pub drop_here : {A : Type 0} (xs : List A) (i : ℕ) (x : A) → i < length xs → x ≡ get_or xs i x → drop i xs ≡ x ∷ drop (i + 1) xs
drop_here xs i x low is = let next : suc i ≡ i + 1 = omega arith in subst (λ (n : ℕ). drop i xs ≡ x ∷ drop n xs) next (drop-cons xs i x low ∙ ap (λ z. z ∷ drop (suc i) xs) (sym is))

-- What was written before stays in front.
use Rattle.std.proofs.Common.{◌≡◌, ℕ, List, Result, Ok, Err, ◌++◌, length, take, drop, refl, sym, ap, ◌∙◌, append_assoc}
use Rattle.std.specs.Prelude.{OnOk}
use Rattle.std.proofs.lemmas.List.{take-append-drop, take_at}

pub kept_on : (a b c more : List ℕ) → b ≡ a ++ more → take (length b) c ≡ b → take (length a) c ≡ a
kept_on a b c more e kept =
    ap (take (length a)) (sym (take-append-drop (length b) c) ∙ ap (λ (x : List ℕ). x ++ drop (length b) c) (kept ∙ e) ∙ append_assoc a more (drop (length b) c))
    ∙ take_at a (more ++ drop (length b) c) (length a) refl

-- one piece behind another
pub behind_on : {T E : Type 0} (r : Result T E) (old mid new a b : List ℕ) → mid ≡ old ++ a → OnOk r (new ≡ mid ++ b) → OnOk r (new ≡ old ++ (a ++ b))
behind_on (Ok x) old mid new a b first second = second ∙ ap (λ (x : List ℕ). x ++ b) first ∙ append_assoc old a b
behind_on (Err e) old mid new a b first second = tt

-- What was written before stays in front, and what is written behind it.
use Rattle.std.proofs.Common.{◌≡◌, ◌<◌, ℕ, zero, suc, List, [], ◌∷◌, Result, Ok, Err, ◌++◌, length, map, get_or, take, drop, refl, sym, ap, ◌∙◌, append_assoc, arith}
use Rattle.std.specs.Prelude.{OnOk}
use Rattle.std.specs.List.{AllByRecursion}
use Rattle.std.proofs.lemmas.List.{take-append-drop, take_at}
use Rattle.composite_spec.specs.declared.kinds.Component.{Component}
use Rattle.composite_spec.specs.Said.{Placed, IsPath, placed}

pub kept_on : (a b c more : List ℕ) → b ≡ a ++ more → take (length b) c ≡ b → take (length a) c ≡ a
kept_on a b c more e kept =
    ap (take (length a)) (sym (take-append-drop (length b) c) ∙ ap (λ (x : List ℕ). x ++ drop (length b) c) (kept ∙ e) ∙ append_assoc a more (drop (length b) c))
    ∙ take_at a (more ++ drop (length b) c) (length a) refl

-- one piece behind another
pub behind_on : {T E : Type 0} (r : Result T E) (old mid new a b : List ℕ) → mid ≡ old ++ a → OnOk r (new ≡ mid ++ b) → OnOk r (new ≡ old ++ (a ++ b))
behind_on (Ok x) old mid new a b first second = second ∙ ap (λ (x : List ℕ). x ++ b) first ∙ append_assoc old a b
behind_on (Err e) old mid new a b first second = tt

-- what stands in front of a list stands in front of a longer one
pub front_kept : (a b more : List ℕ) → take (length a) b ≡ a → take (length a) (b ++ more) ≡ a
front_kept a b more kept =
    ap (λ (x : List ℕ). take (length a) (x ++ more)) (sym (take-append-drop (length a) b) ∙ ap (λ (x : List ℕ). x ++ drop (length a) b) kept)
    ∙ ap (take (length a)) (append_assoc a (drop (length a) b) more) ∙ take_at a (drop (length a) b ++ more) (length a) refl

-- ---- components

pub path_at : (cs : List Component) (i : ℕ) (c : Component) → AllByRecursion (λ (p : Placed). IsPath p.path) (map placed cs) → i < length cs → IsPath (placed (get_or cs i c)).path
path_at [] i c each lt = absurd (omega arith)
path_at (x ∷ cs) zero c each lt = each.0
path_at (x ∷ cs) (suc i) c each lt = path_at cs i c each.1 (omega arith)

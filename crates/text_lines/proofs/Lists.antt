-- Lists whose items do not clash, and texts of which no line lacks something.
use Rattle.std.proofs.Common.{◌≡◌, ◌+◌, ℕ, List, [], ◌∷◌, ◌++◌, Bool, true, false, Option, Some, None, Result, Ok, Err, refl, sym, ap, subst, ◌∙◌, append_assoc, append-nil}
use Rattle.std.specs.Prelude.{if◌then◌else◌}
use Rattle.std.specs.List.{list_any}
use Rattle.text_lines.specs.declared.kinds.PlanKind.{PlanKind}
use Rattle.text_lines.specs.Spelling.{collect}
use Rattle.text_lines.specs.Lists.{add_apart, complete_by, completed}
use Rattle.text_lines.proofs.Numbers.{bind_ok}

-- no item clashes with one of these, or with one before it
abbrev pub Apart : {I : Type 0} → (I → I → Bool) → List I → List I → Type 0
Apart clash k [] = Unit {0}
Apart clash k (item ∷ items) = (list_any (clash item) k ≡ false) × Apart clash (k ++ item ∷ []) items

allowed : {K : Type 0} (b : Bool) (fault : PlanKind) (x later : K) → (if b then Err fault else Ok x) ≡ Ok later → (b ≡ false) × (later ≡ x)
allowed true fault x later e = absurd cc
allowed false fault x later e = (refl, cc)

added : {I : Type 0} (clash : I → I → Bool) (k mid : List I) (n : ℕ) (item : I) → add_apart clash k n item ≡ Ok mid → (list_any (clash item) k ≡ false) × (mid ≡ k ++ item ∷ [])
unfolding add_apart
added clash k mid n item e = allowed _ _ _ _ e

-- the items are those that were collected, and none clashes
pub collected : {I : Type 0} (clash : I → I → Bool) (items : List I) (n : ℕ) (k later : List I) → collect (add_apart clash) n k items ≡ Ok later → (later ≡ k ++ items) × Apart clash k items
unfolding collect
collected clash [] n k later e = let same : k ≡ later = cc in (sym same ∙ sym (append-nil k), tt)
collected {I} clash (item ∷ items) n k later e =
    let b = bind_ok (add_apart clash k n item) (λ mid. collect (add_apart clash) (n + 1) mid items) later e in
    let one = added clash k b.0 n item b.1 in
    let more = collected clash items (n + 1) b.0 later b.2 in (
      more.0 ∙ ap (λ (z : List I). z ++ items) one.1 ∙ append_assoc k (item ∷ []) items,
      (one.0, subst (λ (z : List I). Apart clash z items) one.1 more.1),
    )

pub apart_at : {I : Type 0} (clash : I → I → Bool) (k front : List I) (item : I) (rest : List I) → Apart clash k (front ++ item ∷ rest) → list_any (clash item) (k ++ front) ≡ false
apart_at {I} clash k [] item rest a = subst (λ (z : List I). list_any (clash item) z ≡ false) (sym (append-nil k)) a.0
apart_at {I} clash k (x ∷ front) item rest a = subst (λ (z : List I). list_any (clash item) z ≡ false) (append_assoc k (x ∷ []) front) (apart_at clash (k ++ x ∷ []) front item rest a.1)

-- ---- whole texts

complete_ok : {K : Type 0} (j : K) (o : Option ℕ) (k : K) → complete_by j o ≡ Ok k → (o ≡ None) × (j ≡ k)
complete_ok j None k e = (refl, cc)
complete_ok j (Some n) k e = absurd cc

pub completed_ok : {K : Type 0} (missing : K → Option ℕ) (r : Result K (ℕ × PlanKind)) (k : K) → completed missing r ≡ Ok k → (r ≡ Ok k) × (missing k ≡ None)
completed_ok {K} missing (Ok j) k e = let c = complete_ok j (missing j) k e in (ap (λ (x : K). let t : Result K (ℕ × PlanKind) = Ok x in t) c.1, ap missing (sym c.1) ∙ c.0)
completed_ok missing (Err fault) k e = absurd cc

-- The place of a name among files, and what is found there.
use Rattle.std.proofs.Common.{if◌then◌else◌, ◌≡◌, ℕ, zero, suc, ◌+◌, ◌<◌, ◌≤◌, Bool, true, false, List, [], ◌∷◌, ◌++◌, length, get_or, set, add-one, refl, sym, ◌∙◌, ap, subst, arith, Some, None}
use Rattle.std.proofs.Common.{not, ◌||◌, leb}
use Rattle.host_traits.specs.Folders.{is_name, with_named}
use Rattle.host_traits.specs.Held.{is_there}
use Rattle.host_traits.specs.Mem.{Named, found_in, place_in}
use Rattle.std.specs.Cmp.Lexicographic.{pointwise_decides}
use Rattle.std.proofs.lemmas.Bool.Decides.{Decides-eqb}
use Rattle.std.proofs.Math.Dec.{leb-suc-zero, leb-suc-suc}

pub name_is : (a b : List ℕ) → is_name a b ≡ true → a ≡ b
name_is a b e = (pointwise_decides Decides-eqb a b).0 e

pub name_same : (a b : List ℕ) → a ≡ b → is_name a b ≡ true
name_same a b e = (pointwise_decides Decides-eqb a b).1 e

pub place_most : (files : List Named) (name : List ℕ) → place_in files name ≤ length files
place_most [] name = omega arith
place_most (f ∷ files) name = let h = place_most files name in grind (arith, h)

pub place_hit : (files : List Named) (at : ℕ) (f : Named) (name : List ℕ) → at < length files → f ≡ get_or files at f → is_name f.name name ≡ true → place_in files name ≤ at
place_hit [] at f name lt is hit = absurd (omega arith)
place_hit (g ∷ files) zero f name lt is hit = grind (arith, is, hit)
place_hit (g ∷ files) (suc at) f name lt is hit = let h = place_hit files at f name (omega (arith, lt)) is hit in grind (arith, h)

pub place_miss : (files : List Named) (at : ℕ) (f : Named) (name : List ℕ) → at < length files → f ≡ get_or files at f → is_name f.name name ≡ false → at ≤ place_in files name → at + 1 ≤ place_in files name
place_miss [] at f name lt is miss le = absurd (omega arith)
place_miss (g ∷ files) zero f name lt is miss le = grind (arith, is, miss)
place_miss (g ∷ files) (suc at) f name lt is miss le =
    elim (is_name g.name name) as (λ b. suc at ≤ (if b then 0 else place_in files name + 1) → suc at + 1 ≤ (if b then 0 else place_in files name + 1))
    [ true ↦ λ h. absurd (omega (arith, h)) | false ↦ λ h. let low : at ≤ place_in files name = omega (arith, h) in let more = place_miss files at f name (omega (arith, lt)) is miss low in omega (arith, more) ] le

-- what stands at the place of a name is found
pub found_there : (files : List Named) (name : List ℕ) (at : ℕ) (f : Named) → at ≡ place_in files name → at < length files → f ≡ get_or files at f → found_in files name ≡ Some f.bytes
found_there [] name at f is lt there = absurd (omega (arith, lt))
found_there (g ∷ files) name at f is lt there =
    elim (is_name g.name name) as (λ b. at ≡ (if b then 0 else place_in files name + 1) → (if b then Some g.bytes else found_in files name) ≡ Some f.bytes) [
      | true ↦ λ e. let first : f ≡ g = subst (λ n. f ≡ get_or (g ∷ files) n f) e there in ap (λ (h : Named). Some h.bytes) (sym first)
      | false ↦ λ e. let next : f ≡ get_or (g ∷ files) (place_in files name + 1) f = subst (λ n. f ≡ get_or (g ∷ files) n f) e there in found_there files name (place_in files name) f refl (omega (arith, lt, e)) (rw add-one at next)
    ] is

-- past the end nothing is found
pub found_not : (files : List Named) (name : List ℕ) → length files ≤ place_in files name → found_in files name ≡ None
found_not [] name le = refl
found_not (g ∷ files) name le =
    elim (is_name g.name name) as (λ b. length (g ∷ files) ≤ (if b then 0 else place_in files name + 1) → (if b then Some g.bytes else found_in files name) ≡ None)
    [ true ↦ λ h. absurd (omega (arith, h)) | false ↦ λ h. found_not files name (omega (arith, h)) ] le

-- two names that are one, and a third that is not the first
apart : (a b c : List ℕ) → is_name a b ≡ false → is_name a c ≡ true → is_name b c ≡ true → ⊥
apart a b c not_same e f = let same : is_name a b ≡ true = name_same a b (name_is a c e ∙ sym (name_is b c f)) in let both : true ≡ false = sym same ∙ not_same in cc

choose_two : {A : Type 0} (b c : Bool) (x y u v : A) → (b ≡ true → c ≡ true → ⊥) → u ≡ (if c then y else v) → (if b then x else u) ≡ (if c then y else (if b then x else v))
choose_two true true x y u v never e = absurd (never refl refl)
choose_two true false x y u v never e = refl
choose_two false true x y u v never e = e
choose_two false false x y u v never e = e

place_head : (b : Bool) (n : ℕ) → 0 ≡ (if b then 0 else n + 1) → b ≡ true
place_head true n e = refl
place_head false n e = absurd (omega (arith, e))

place_tail : (b : Bool) (at n : ℕ) → suc at ≡ (if b then 0 else n + 1) → (b ≡ false) × (at ≡ n)
place_tail true at n e = absurd (omega (arith, e))
place_tail false at n e = (refl, omega (arith, e))

place_past : (b : Bool) (len n : ℕ) → suc len ≤ (if b then 0 else n + 1) → (b ≡ false) × (len ≤ n)
place_past true len n e = absurd (omega (arith, e))
place_past false len n e = (refl, omega (arith, e))

twice : {A : Type 0} (b : Bool) (x y u : A) → (if b then x else u) ≡ (if b then x else (if b then y else u))
twice true x y u = refl
twice false x y u = refl

-- one put in the place of another of its name
pub found_set : (files : List Named) (name : List ℕ) (at : ℕ) (f g : Named) → at ≡ place_in files name → at < length files → f ≡ get_or files at f → g.name ≡ f.name
    → (other : List ℕ) → found_in (set files at g) other ≡ with_named (found_in files) name g.bytes other
found_set [] name at f g is lt there same other = absurd (omega (arith, lt))
found_set (x ∷ files) name zero f g is lt there same other =
    let x_is : x.name ≡ name = name_is x.name name (place_head (is_name x.name name) (place_in files name) is) in
    let g_is : g.name ≡ name = same ∙ ap (λ (h : Named). h.name) there ∙ x_is in
    rw (x_is, g_is) (twice (is_name name other) (Some g.bytes) (Some x.bytes) (found_in files other))
found_set (x ∷ files) name (suc at) f g is lt there same other =
    let tail = place_tail (is_name x.name name) at (place_in files name) is in
    choose_two (is_name x.name other) (is_name name other) (Some x.bytes) (Some g.bytes) _ _ (apart x.name name other tail.0)
    (found_set files name at f g tail.1 (omega (arith, lt)) there same other)

-- one added at the end
pub found_push : (files : List Named) (f : Named) → length files ≤ place_in files f.name → (other : List ℕ) → found_in (files ++ f ∷ []) other ≡ with_named (found_in files) f.name f.bytes other
found_push [] f le other = refl
found_push (x ∷ files) f le other =
    let past = place_past (is_name x.name f.name) (length files) (place_in files f.name) (omega (arith, le)) in
    choose_two (is_name x.name other) (is_name f.name other) (Some x.bytes) (Some f.bytes) _ _ (apart x.name f.name other past.0) (found_push files f past.1 other)

-- nothing is found exactly where the place is past the end
pub past_end : (files : List Named) (name : List ℕ) → leb (length files) (place_in files name) ≡ not (is_there (found_in files name))
past_end [] name = refl
past_end (f ∷ files) name =
    elim (is_name f.name name) as (λ b. leb (suc (length files)) (if b then 0 else place_in files name + 1) ≡ not (is_there (if b then Some f.bytes else found_in files name)))
    [ true ↦ leb-suc-zero (length files) | false ↦ rw (add-one, leb-suc-suc) (past_end files name) ]

negated : (a b listed answer : Bool) → a ≡ b → answer ≡ not (a || listed) → (b || listed) ≡ not answer
negated true true listed answer same is = rw is refl
negated true false listed answer same is = cc
negated false true listed answer same is = cc
negated false false true answer same is = rw is refl
negated false false false answer same is = rw is refl

-- whether a load fails, from what was counted
pub load_fails : (files : List Named) (name : List ℕ) (len at : ℕ) (listed answer : Bool) → at ≡ place_in files name → len ≡ length files → answer ≡ not (leb len at || listed) →
    (not (is_there (found_in files name)) || listed) ≡ not answer
load_fails files name len at listed answer at_is len_is is =
    let same : leb len at ≡ not (is_there (found_in files name)) = rw (at_is, len_is) (past_end files name) in
    negated _ _ _ _ same is

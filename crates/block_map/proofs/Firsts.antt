-- The first component of each path, and what it says of aliases.
use Rattle.std.proofs.Common.{◌≡◌, ◌<◌, ◌+◌, ℕ, List, true, false, ◌||◌, Option, Some, None, refl, sym, ap, subst, ◌∙◌, arith, inl, inr}
use Rattle.std.specs.Borrow.{Bor}
use Rattle.std.specs.BTreeMap.{BTreeMap, get_by}
use Rattle.std.specs.Cmp.Lexicographic.{slice_cmp}
use Rattle.std.specs.Map.{update}
use Rattle.std.specs.Ordering.{nat_cmp}
use Rattle.std.specs.Str.{bytes_eq}
use Rattle.std.proofs.lemmas.Bool.{cases_eq, cases_order, and_right, or_parts, or_from, false_from_ne_true, cases_Bool, both_ways}
use Rattle.std.proofs.lemmas.Slice.Eq.{bytes_eq-Decides}
use Rattle.composite_spec.specs.Said.{Composite}
use Rattle.block_map.specs.Disk.{path_at, is_writable, is_path_of, is_alias, NoAliasBelow}

same_path : (x y : List ℕ) → x ≡ y → bytes_eq x y ≡ true
same_path x y e = (bytes_eq-Decides x y).1 e

other_path : (x y : List ℕ) → (x ≡ y → ⊥) → bytes_eq x y ≡ false
other_path x y h = false_from_ne_true (bytes_eq x y) (λ e. h ((bytes_eq-Decides x y).0 e))

-- ---- aliases

alias_by : (s : Composite) (a b : ℕ) → path_at s a ≡ path_at s b → (is_writable s a || is_writable s b) ≡ true → is_alias s a b ≡ true
unfolding is_alias
alias_by s a b e w = rw (same_path (path_at s a) (path_at s b) e) w

apart : (s : Composite) (a b : ℕ) → (path_at s a ≡ path_at s b → ⊥) → is_alias s a b ≡ false
unfolding is_alias
apart s a b h = rw (other_path (path_at s a) (path_at s b) h) refl

both_read : (s : Composite) (a b : ℕ) → is_writable s a ≡ false → is_writable s b ≡ false → is_alias s a b ≡ false
unfolding is_alias
both_read s a b g h = and_right (is_path_of s a b) (is_writable s a || is_writable s b) (or_from (is_writable s a) (is_writable s b) g h)

-- two of one path that are no aliases are both read only
read_both : (s : Composite) (a b : ℕ) → path_at s a ≡ path_at s b → is_alias s a b ≡ false → (is_writable s a ≡ false) × (is_writable s b ≡ false)
unfolding is_alias
read_both s a b e h = or_parts (is_writable s a) (is_writable s b) (rw (same_path (path_at s a) (path_at s b) e) at h)

-- ---- the first component of a path, among those below b

abbrev pub IsFirst : Composite → ℕ → List ℕ → Option ℕ → Type 0
IsFirst s b q None = (c : ℕ) → c < b → path_at s c ≡ q → ⊥
IsFirst s b q (Some a) = (a < b) × (path_at s a ≡ q) × ((c : ℕ) → c < a → path_at s c ≡ q → ⊥)

abbrev pub found : BTreeMap (Bor (List ℕ)) ℕ → List ℕ → Option ℕ
found m q = get_by (λ (k : Bor (List ℕ)). slice_cmp nat_cmp q k.now) m

abbrev pub Knows : Composite → ℕ → BTreeMap (Bor (List ℕ)) ℕ → Type 0
Knows s b m = (q : List ℕ) → IsFirst s b q (found m q)

first_kept : (s : Composite) (b : ℕ) (q : List ℕ) (o : Option ℕ) → (path_at s b ≡ q → o ≡ None → ⊥) → IsFirst s b q o → IsFirst s (b + 1) q o
first_kept s b q None h is = λ c lt e. elim (cases_eq c b) [
  | inl same ↦ h (ap (path_at s) (sym same) ∙ e) refl
  | inr other ↦ let less : c < b = grind (arith, other) in is c less e
]
first_kept s b q (Some a) h is = (omega (arith, is.0), is.1, is.2)

first_new : (s : Composite) (b : ℕ) → IsFirst s b (path_at s b) None → IsFirst s (b + 1) (path_at s b) (Some b)
first_new s b is = (omega arith, refl, is)

some_none : (a : ℕ) (o : Option ℕ) → o ≡ Some a → o ≡ None → ⊥
some_none a o e f = cc

pub known_kept : (s : Composite) (b a : ℕ) (m : BTreeMap (Bor (List ℕ)) ℕ) → Knows s b m → found m (path_at s b) ≡ Some a → Knows s (b + 1) m
known_kept s b a m h e = λ q. first_kept s b q (found m q) (λ same none. some_none a (found m (path_at s b)) e (ap (found m) same ∙ none)) (h q)

pub known_new : (s : Composite) (b : ℕ) (m n : BTreeMap (Bor (List ℕ)) ℕ) → Knows s b m → found m (path_at s b) ≡ None → ((q : List ℕ) → found n q ≡ update bytes_eq (found m) (path_at s b) (Some b) q) → Knows s (b + 1) n
known_new s b m n h none after = λ q. elim (cases_Bool (bytes_eq (path_at s b) q)) [
  | inl same ↦
      let is : path_at s b ≡ q = (bytes_eq-Decides (path_at s b) q).0 same in
      let here : found n q ≡ Some b = after q ∙ rw same refl in
      let first : IsFirst s (b + 1) q (Some b) = subst (λ (x : List ℕ). IsFirst s (b + 1) x (Some b)) is (first_new s b (subst (IsFirst s b (path_at s b)) none (h (path_at s b)))) in
      subst (IsFirst s (b + 1) q) (sym here) first
  | inr other ↦
      let here : found n q ≡ found m q = after q ∙ rw other refl in
      let not_same : path_at s b ≡ q → ⊥ = λ e. both_ways (bytes_eq (path_at s b) q) other (same_path (path_at s b) q e) in
      subst (IsFirst s (b + 1) q) (sym here) (first_kept s b q (found m q) (λ e x. not_same e) (h q))
]

-- ---- no alias so far

below_next : (s : Composite) (b : ℕ) → NoAliasBelow s b → ((c : ℕ) → c < b → is_alias s c b ≡ false) → NoAliasBelow s (b + 1)
below_next s b h here = λ a c less lt. elim (cases_eq c b) [
  | inl same ↦ subst (λ (x : ℕ). is_alias s a x ≡ false) (sym same) (here a (omega arith))
  | inr other ↦ let low : c < b = grind (arith, other) in h a c less low
]

pub clear_new : (s : Composite) (b : ℕ) → NoAliasBelow s b → IsFirst s b (path_at s b) None → NoAliasBelow s (b + 1)
clear_new s b h none = below_next s b h (λ c lt. apart s c b (λ e. none c lt e))

no_later : (s : Composite) (b a c : ℕ) → NoAliasBelow s b → path_at s a ≡ path_at s b → is_writable s b ≡ false → a < c → c < b → path_at s c ≡ path_at s b → is_alias s c b ≡ false
no_later s b a c h first read_b less lt e = both_read s c b (read_both s a c (first ∙ sym e) (h a c less lt)).1 read_b

no_alias : (s : Composite) (b a c : ℕ) → NoAliasBelow s b → IsFirst s b (path_at s b) (Some a) → is_writable s a ≡ false → is_writable s b ≡ false → c < b → is_alias s c b ≡ false
no_alias s b a c h first read_a read_b lt =
    elim (cases_Bool (bytes_eq (path_at s c) (path_at s b))) [
      | inr other ↦ apart s c b (λ e. both_ways (bytes_eq (path_at s c) (path_at s b)) other (same_path (path_at s c) (path_at s b) e))
      | inl same ↦
          let e : path_at s c ≡ path_at s b = (bytes_eq-Decides (path_at s c) (path_at s b)).0 same in
          elim (cases_order c a) [
            | inl is ↦ subst (λ (x : ℕ). is_alias s x b ≡ false) (sym is) (both_read s a b read_a read_b)
            | inr (inl before) ↦ absurd (first.2 c before e)
            | inr (inr after) ↦ no_later s b a c h first.1 read_b after lt e
          ]
    ]

pub clear_kept : (s : Composite) (b a : ℕ) → NoAliasBelow s b → IsFirst s b (path_at s b) (Some a) → (is_writable s a || is_writable s b) ≡ false → NoAliasBelow s (b + 1)
clear_kept s b a h first read = let r = or_parts (is_writable s a) (is_writable s b) read in below_next s b h (λ c lt. no_alias s b a c h first r.0 r.1 lt)

-- the first pair
pub record IsAliasPair (s : Composite) (a b : ℕ) : Type 0 where
  pub pair : is_alias s a b ≡ true
  pub least : (c : ℕ) → c < a → is_alias s c b ≡ false

pub alias_pair : (s : Composite) (b a : ℕ) → IsFirst s b (path_at s b) (Some a) → (is_writable s a || is_writable s b) ≡ true → IsAliasPair s a b
alias_pair s b a first w = record { pair = alias_by s a b first.1 w; least = λ c lt. apart s c b (λ e. first.2 c lt e) }

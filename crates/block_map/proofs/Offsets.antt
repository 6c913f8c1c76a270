-- Where components begin and end, and which of them holds a byte.
use Rattle.std.proofs.Common.{◌≡◌, ◌<◌, ◌≤◌, ◌+◌, ◌-◌, ℕ, zero, suc, List, [], ◌∷◌, length, map, get_or, cond, ltb, Option, Some, None, refl, sym, ◌∙◌, subst, arith, inl, inr}
use Rattle.std.proofs.lemmas.Bool.{lt-ltb, le-ltb, cases_lt}
use Rattle.std.proofs.lemmas.List.{length-map}
use Rattle.composite_spec.specs.Said.{Placed, Composite, IsComposite, Rise, offset_of}
use Rattle.block_map.specs.Disk.{byte_at, begin_of, end_of}

rise_above : (before : ℕ) (os : List ℕ) (i : ℕ) → Rise (Some before) os → i < length os → before < get_or os i 0
rise_above before [] i r lt = absurd (omega arith)
rise_above before (o ∷ os) zero r lt = r.0
rise_above before (o ∷ os) (suc i) r lt = let a : before < o = r.0 in let b : o < get_or os i 0 = rise_above o os i r.1 (omega arith) in omega arith

rise_lt : (before : Option ℕ) (os : List ℕ) (i j : ℕ) → Rise before os → i < j → j < length os → get_or os i 0 < get_or os j 0
rise_lt before [] i j r lt le = absurd (omega arith)
rise_lt before (o ∷ os) i zero r lt le = absurd (omega arith)
rise_lt before (o ∷ os) zero (suc j) r lt le = rise_above o os j r.1 (omega arith)
rise_lt before (o ∷ os) (suc i) (suc j) r lt le = rise_lt (Some o) os i j r.1 (omega arith) (omega arith)

rise_first : (os : List ℕ) → Rise None os → 0 < length os → get_or os 0 0 ≡ 0
rise_first [] r lt = absurd (omega arith)
rise_first (o ∷ os) r lt = r.0

pub begin_lt : (s : Composite) (i j : ℕ) → IsComposite s → i < j → j < length s.components → begin_of s i < begin_of s j
begin_lt s i j h lt le = rise_lt None (map offset_of s.components) i j h.rise lt (omega (arith, length-map s.components offset_of))

pub begins_first : (s : Composite) → IsComposite s → begin_of s 0 ≡ 0
begins_first s h = rise_first (map offset_of s.components) h.rise h.length_is.some

pub some_component : (s : Composite) → IsComposite s → 0 < length s.components
some_component s h = let k = h.length_is.some in omega (arith, length-map s.components offset_of)

-- the end of a component is where the next one begins, or the disk's
pub end_next : (s : Composite) (i : ℕ) → i + 1 < length s.components → end_of s i ≡ begin_of s (i + 1)
end_next s i lt = rw (lt-ltb _ _ lt) refl

pub end_last : (s : Composite) (i : ℕ) → length s.components ≤ i + 1 → end_of s i ≡ s.length
end_last s i le = rw (le-ltb _ _ le) refl

pub begin_below_length : (s : Composite) (i : ℕ) → IsComposite s → i < length s.components → begin_of s i < s.length
begin_below_length s i h lt =
    let n : ℕ = length (map offset_of s.components) in
    let same : n ≡ length s.components = length-map s.components offset_of in
    let last : get_or (map offset_of s.components) (n - 1) 0 < s.length = h.length_is.beyond in
    elim (cases_lt i (n - 1)) [
      | inl less ↦ let k : begin_of s i < get_or (map offset_of s.components) (n - 1) 0 = rise_lt None (map offset_of s.components) i (n - 1) h.rise less (omega arith) in omega arith
      | inr more ↦ let is : i ≡ n - 1 = omega arith in subst (λ (k : ℕ). get_or (map offset_of s.components) k 0 < s.length) (sym is) last
    ]

pub begin_end : (s : Composite) (i : ℕ) → IsComposite s → i < length s.components → begin_of s i < end_of s i
begin_end s i h lt =
    elim (cases_lt (i + 1) (length s.components)) [
      | inl less ↦ subst (λ (e : ℕ). begin_of s i < e) (sym (end_next s i less)) (begin_lt s i (i + 1) h (omega arith) less)
      | inr more ↦ subst (λ (e : ℕ). begin_of s i < e) (sym (end_last s i more)) (begin_below_length s i h lt)
    ]

pub end_before : (s : Composite) (i j : ℕ) → IsComposite s → i < j → j < length s.components → end_of s i ≤ begin_of s j
end_before s i j h lt le =
    let next = end_next s i (omega arith) in
    elim (cases_lt (i + 1) j) [
      | inl less ↦ let k = begin_lt s (i + 1) j h less le in subst (λ (e : ℕ). e ≤ begin_of s j) (sym next) (omega arith)
      | inr more ↦ let is : i + 1 ≡ j = omega arith in subst (λ (e : ℕ). e ≤ begin_of s j) (sym next) (subst (λ (k : ℕ). begin_of s (i + 1) ≤ begin_of s k) is (omega arith))
    ]

-- ---- the byte of a place

byte_skip : (x byte : ℕ) (cs : List Placed) (fs : List (List ℕ)) → ((j : ℕ) → j < length cs → x < get_or (map offset_of cs) j 0) → byte_at x byte cs fs ≡ byte
byte_skip x byte [] fs h = refl
byte_skip x byte (c ∷ cs) [] h = refl
byte_skip x byte (c ∷ cs) (f ∷ fs) h =
    let first : x < c.offset = h 0 (omega arith) in
    rw (lt-ltb _ _ first) (byte_skip x byte cs fs (λ j lt. h (suc j) (omega arith)))

byte_hit : (x byte i : ℕ) (cs : List Placed) (fs : List (List ℕ)) → i < length cs → length fs ≡ length cs → get_or (map offset_of cs) i 0 ≤ x
    → ((j : ℕ) → i < j → j < length cs → x < get_or (map offset_of cs) j 0) → byte_at x byte cs fs ≡ get_or (get_or fs i []) (x - get_or (map offset_of cs) i 0) 0
byte_hit x byte i [] fs lt same low later = absurd (omega arith)
byte_hit x byte i (c ∷ cs) [] lt same low later = absurd (omega arith)
byte_hit x byte zero (c ∷ cs) (f ∷ fs) lt same low later =
    let is : c.offset ≤ x = low in
    rw (le-ltb _ _ is) (byte_skip x (get_or f (x - c.offset) 0) cs fs (λ j le. later (suc j) (omega arith) (omega arith)))
byte_hit x byte (suc i) (c ∷ cs) (f ∷ fs) lt same low later =
    byte_hit x (cond (ltb x c.offset) byte (get_or f (x - c.offset) 0)) i cs fs (omega arith) (omega arith) low (λ j le few. later (suc j) (omega arith) (omega arith))

pub byte_in : (s : Composite) (files : List (List ℕ)) (x i : ℕ) → IsComposite s → length files ≡ length s.components → i < length s.components → begin_of s i ≤ x → x < end_of s i
    → byte_at x 0 s.components files ≡ get_or (get_or files i []) (x - begin_of s i) 0
byte_in s files x i h same lt low high =
    byte_hit x 0 i s.components files lt same low (λ j more few. let k = end_before s i j h more few in omega arith)

-- each byte of the disk is in some component
pub record Holds (s : Composite) (x i : ℕ) : Type 0 where
  pub is : i < length s.components
  pub begins : begin_of s i ≤ x
  pub ends : x < end_of s i

pub holds_by : (s : Composite) (x i : ℕ) → i < length s.components → begin_of s i ≤ x → (i + 1 < length s.components → x < begin_of s (i + 1)) → x < s.length → Holds s x i
holds_by s x i lt low later few =
    elim (cases_lt (i + 1) (length s.components)) [
      | inl less ↦ record { is = lt; begins = low; ends = subst (λ (e : ℕ). x < e) (sym (end_next s i less)) (later less) }
      | inr more ↦ record { is = lt; begins = low; ends = subst (λ (e : ℕ). x < e) (sym (end_last s i more)) few }
    ]

-- the next component's bytes begin where those of this one end
pub holds_next : (s : Composite) (x i : ℕ) → IsComposite s → i < length s.components → x ≡ end_of s i → x < s.length → Holds s x (i + 1)
holds_next s x i h lt is few =
    elim (cases_lt (i + 1) (length s.components)) [
      | inl less ↦ let at = is ∙ end_next s i less in let k = begin_end s (i + 1) h less in record { is = less; begins = omega arith; ends = omega arith }
      | inr more ↦ let at = is ∙ end_last s i more in absurd (omega arith)
    ]

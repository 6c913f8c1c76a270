-- The look-ups at each byte, computed.
use Rattle.std.proofs.Common.{◌≡◌, ℕ, ◌+◌, ◌*◌, ◌/◌, ◌%◌, ◌<◌, ◌==◌, Bool, true, List, [], ◌∷◌, map, length, replicate, slice_index, bit_xor, refl, sym, ap, subst, ◌∙◌, arith, w8, eqb→eq, T}
use Rattle.std.specs.List.{range_with_len}
use Rattle.std.proofs.lemmas.Nat.{xor_mod, xor_shr, xor_comm}
use Rattle.std.specs.Int.Bits.{xor_assoc}
use Rattle.std.proofs.lemmas.Simd.{swz_l}
use lib.Lanes.{zip2}
use Rattle.aes_core.specs.Field.{affine_bits, inverse, product_bits, sbox}
use Rattle.aes_core.proofs.Words.{quads}
use Rattle.aes_core.specs.Inner.{both, first_place, first_root, high, inner_byte, inner_double, inner_entry, is_place, last_entry, low, outer, outer_byte, second_place, second_root, twice}
use Rattle.aes_core.specs.declared.lanes.TheConstants.{OUT_LOW, OUT_HIGH, OWN, NEXT, THIRD, FOURTH}
use Rattle.aes_core.proofs.Looks.{every}

pub low_places : map (λ b. is_place (low b)) (range_with_len 0 256) ≡ replicate 256 true
low_places = refl

pub high_places : map (λ b. is_place (high b)) (range_with_len 0 256) ≡ replicate 256 true
high_places = refl

pub both_places : map (λ b. is_place (both b)) (range_with_len 0 256) ≡ replicate 256 true
both_places = refl

pub first_place_places : map (λ b. is_place (first_place b)) (range_with_len 0 256) ≡ replicate 256 true
first_place_places = refl

pub second_place_places : map (λ b. is_place (second_place b)) (range_with_len 0 256) ≡ replicate 256 true
second_place_places = refl

pub first_root_places : map (λ b. is_place (first_root b)) (range_with_len 0 256) ≡ replicate 256 true
first_root_places = refl

pub second_root_places : map (λ b. is_place (second_root b)) (range_with_len 0 256) ≡ replicate 256 true
second_root_places = refl

pub inner_entry-all : map (λ b. outer_byte (inner_entry b)) (range_with_len 0 256) ≡ map (λ b. sbox (outer_byte b)) (range_with_len 0 256)
unfolding product_bits inverse affine_bits sbox
inner_entry-all = refl

pub inner_double-all : map (λ b. outer_byte (inner_double b)) (range_with_len 0 256) ≡ map (λ b. twice (outer_byte b)) (range_with_len 0 256)
unfolding product_bits inverse affine_bits sbox
inner_double-all = refl

pub last_entry-all : map last_entry (range_with_len 0 256) ≡ map (λ b. sbox (outer_byte b)) (range_with_len 0 256)
unfolding product_bits inverse affine_bits sbox
last_entry-all = refl

pub inner_byte-all : map (λ b. outer_byte (inner_byte b)) (range_with_len 0 256) ≡ map (λ b. b) (range_with_len 0 256)
inner_byte-all = refl

-- a table of sixteen is linear
abbrev linear_at : List ℕ → ℕ → Bool
linear_at t p = slice_index t (bit_xor (p / 16) (p % 16)) == bit_xor (slice_index t (p / 16)) (slice_index t (p % 16))

linear : (t : List ℕ) → map (linear_at t) (range_with_len 0 256) ≡ replicate 256 true → (u v : ℕ) → u < 16 → v < 16
    → slice_index t (bit_xor u v) ≡ bit_xor (slice_index t u) (slice_index t v)
linear t all u v lu lv =
    let p : ℕ = u * 16 + v in
    let eu : p / 16 ≡ u = omega arith in
    let ev : p % 16 ≡ v = omega arith in
    let test = every (linear_at t) all p (omega arith) in
    let at = eqb→eq (slice_index t (bit_xor (p / 16) (p % 16))) (bit_xor (slice_index t (p / 16)) (slice_index t (p % 16))) (subst T (sym test) tt) in
    (λ i. slice_index t (bit_xor (sym eu i) (sym ev i))) ∙ at ∙ (λ i. bit_xor (slice_index t (eu i)) (slice_index t (ev i)))

out_low-all : map (linear_at OUT_LOW) (range_with_len 0 256) ≡ replicate 256 true
out_low-all = refl

out_high-all : map (linear_at OUT_HIGH) (range_with_len 0 256) ≡ replicate 256 true
out_high-all = refl

xor_swap : (a b c d : ℕ) → bit_xor (bit_xor a b) (bit_xor c d) ≡ bit_xor (bit_xor a c) (bit_xor b d)
xor_swap a b c d =
    xor_assoc a b (bit_xor c d)
    ∙ ap (bit_xor a) (sym (xor_assoc b c d) ∙ ap (λ (x : ℕ). bit_xor x d) (xor_comm b c) ∙ xor_assoc c b d)
    ∙ sym (xor_assoc a c (bit_xor b d))

pub outer_byte-xor : (a b : ℕ) → outer_byte (bit_xor a b) ≡ bit_xor (outer_byte a) (outer_byte b)
outer_byte-xor a b =
    let low4 : bit_xor a b % 16 ≡ bit_xor (a % 16) (b % 16) = xor_mod a b 4 in
    let high4 : bit_xor a b / 16 % 16 ≡ bit_xor (a / 16 % 16) (b / 16 % 16) = ap (λ (x : ℕ). x % 16) (xor_shr a b 4) ∙ xor_mod (a / 16) (b / 16) 4 in
    let l : slice_index OUT_LOW (bit_xor a b % 16) ≡ bit_xor (slice_index OUT_LOW (a % 16)) (slice_index OUT_LOW (b % 16)) =
    ap (slice_index OUT_LOW) low4 ∙ linear OUT_LOW out_low-all (a % 16) (b % 16) (omega arith) (omega arith) in
    let h : slice_index OUT_HIGH (bit_xor a b / 16 % 16) ≡ bit_xor (slice_index OUT_HIGH (a / 16 % 16)) (slice_index OUT_HIGH (b / 16 % 16)) =
    ap (slice_index OUT_HIGH) high4 ∙ linear OUT_HIGH out_high-all (a / 16 % 16) (b / 16 % 16) (omega arith) (omega arith) in
    (λ i. bit_xor (l i) (h i))
    ∙ xor_swap (slice_index OUT_LOW (a % 16)) (slice_index OUT_LOW (b % 16)) (slice_index OUT_HIGH (a / 16 % 16)) (slice_index OUT_HIGH (b / 16 % 16))

pub outer-zip2 : (xs ys : List ℕ) → outer (zip2 bit_xor xs ys) ≡ zip2 bit_xor (outer xs) (outer ys)
outer-zip2 [] ys = refl
outer-zip2 (x ∷ xs) [] = refl
outer-zip2 (x ∷ xs) (y ∷ ys) = λ i. outer_byte-xor x y i ∷ outer-zip2 xs ys i

pub outer-own : (v : List ℕ) → length v ≡ 16 → outer (swz_l w8 16 v 0 OWN) ≡ swz_l w8 16 (outer v) 0 OWN
outer-own v long =
    let P : List ℕ → Type 0 = λ l. outer (swz_l w8 16 l 0 OWN) ≡ swz_l w8 16 (outer l) 0 OWN in
    subst P (sym (quads v long)) refl

pub outer-next : (v : List ℕ) → length v ≡ 16 → outer (swz_l w8 16 v 0 NEXT) ≡ swz_l w8 16 (outer v) 0 NEXT
outer-next v long =
    let P : List ℕ → Type 0 = λ l. outer (swz_l w8 16 l 0 NEXT) ≡ swz_l w8 16 (outer l) 0 NEXT in
    subst P (sym (quads v long)) refl

pub outer-third : (v : List ℕ) → length v ≡ 16 → outer (swz_l w8 16 v 0 THIRD) ≡ swz_l w8 16 (outer v) 0 THIRD
outer-third v long =
    let P : List ℕ → Type 0 = λ l. outer (swz_l w8 16 l 0 THIRD) ≡ swz_l w8 16 (outer l) 0 THIRD in
    subst P (sym (quads v long)) refl

pub outer-fourth : (v : List ℕ) → length v ≡ 16 → outer (swz_l w8 16 v 0 FOURTH) ≡ swz_l w8 16 (outer v) 0 FOURTH
outer-fourth v long =
    let P : List ℕ → Type 0 = λ l. outer (swz_l w8 16 l 0 FOURTH) ≡ swz_l w8 16 (outer l) 0 FOURTH in
    subst P (sym (quads v long)) refl

-- MixColumns by moves of lanes.
use Rattle.std.proofs.Common.{◌≡◌, ℕ, zero, suc, ◌+◌, ◌*◌, take, drop, List, [], ◌∷◌, ◌++◌, map, length, slice_index, bit_xor, refl, sym, ap, ◌∙◌, arith, w8}
use Rattle.std.specs.Int.Bits.{xor_assoc}
use Rattle.std.proofs.lemmas.Nat.{xor_comm}
use Rattle.std.proofs.lemmas.Simd.{length-zip2, swz_l}
use lib.Lanes.{zip2}
use Rattle.aes_core.specs.Field.{product, product_bits, sbox}
use Rattle.aes_core.specs.Aes.{cipher_with, mix_column, mix_columns, quad, round_key, rounds, shift_rows, sub_bytes, xor_bytes}
use Rattle.aes_core.proofs.Words.{cipher_done, quads, rounds_more}
use Rattle.aes_core.specs.Inner.{outer, outer_byte, twice}
use Rattle.std.proofs.lemmas.List.{map-append, take-map}
use Rattle.std.proofs.Math.Seq.{take-add}
use Rattle.aes_core.proofs.Scalars.{outer-fourth, outer-next, outer-own, outer-third, outer-zip2}
use Rattle.aes_core.specs.declared.lanes.TheConstants.{OWN, NEXT, THIRD, FOURTH}

turned : (p q r s : ℕ) → bit_xor (bit_xor (bit_xor p q) r) s ≡ bit_xor (bit_xor (bit_xor s p) q) r
turned p q r s =
    xor_comm (bit_xor (bit_xor p q) r) s
    ∙ sym (xor_assoc s (bit_xor p q) r) ∙ ap (λ (y : ℕ). bit_xor y r) (sym (xor_assoc s p q))

thrice : (b : ℕ) → bit_xor b (product 2 b) ≡ product 3 b
unfolding product_bits
thrice b = refl

-- a byte of a mixed column, its own double first
byte : ℕ → ℕ → ℕ → ℕ → ℕ
byte a b c d = bit_xor (bit_xor (bit_xor (product 2 a) (bit_xor b (product 2 b))) c) d

column : (a b c d : ℕ) → (byte a b c d ∷ byte b c d a ∷ byte c d a b ∷ byte d a b c ∷ []) ≡ mix_column a b c d
unfolding byte
column a b c d =
    let r0 = ap (λ (y : ℕ). bit_xor (bit_xor (bit_xor (product 2 a) y) c) d) (thrice b) in
    let r1 = ap (λ (y : ℕ). bit_xor (bit_xor (bit_xor (product 2 b) y) d) a) (thrice c) ∙ turned (product 2 b) (product 3 c) d a in
    let r2 = ap (λ (y : ℕ). bit_xor (bit_xor (bit_xor (product 2 c) y) a) b) (thrice d) ∙ turned (product 2 c) (product 3 d) a b ∙ turned b (product 2 c) (product 3 d) a in
    let r3 = ap (λ (y : ℕ). bit_xor (bit_xor (bit_xor (product 2 d) y) b) c) (thrice a) ∙ turned (product 2 d) (product 3 a) b c ∙ turned c (product 2 d) (product 3 a) b ∙ turned b c (product 2 d) (product 3 a) in
    λ i. r0 i ∷ r1 i ∷ r2 i ∷ r3 i ∷ []

abbrev mixed_form : List ℕ → List ℕ → List ℕ
mixed_form en tw =
    zip2 bit_xor (zip2 bit_xor (zip2 bit_xor (swz_l w8 16 tw 0 OWN) (swz_l w8 16 (zip2 bit_xor en tw) 0 NEXT)) (swz_l w8 16 en 0 THIRD)) (swz_l w8 16 en 0 FOURTH)

mixed_explicit : (x : List ℕ) → let y = quad x 0 ++ quad x 4 ++ quad x 8 ++ quad x 12 in
    mixed_form (map sbox y) (map twice y) ≡ mix_columns (shift_rows (sub_bytes y))
unfolding byte
mixed_explicit x =
    let s : ℕ → ℕ = λ k. sbox (slice_index x k) in
    let c0 = column (s 0) (s 5) (s 10) (s 15) in
    let c1 = column (s 4) (s 9) (s 14) (s 3) in
    let c2 = column (s 8) (s 13) (s 2) (s 7) in
    let c3 = column (s 12) (s 1) (s 6) (s 11) in
    λ i. c0 i ++ c1 i ++ c2 i ++ c3 i

pub mixed_is : (x en tw : List ℕ) → length x ≡ 16 → en ≡ map sbox x → tw ≡ map twice x
    → mixed_form en tw ≡ mix_columns (shift_rows (sub_bytes x))
mixed_is x en tw long ee ed =
    (λ i. mixed_form (ee i) (ed i))
    ∙ ap (λ (l : List ℕ). mixed_form (map sbox l) (map twice l)) (quads x long)
    ∙ mixed_explicit x
    ∙ sym (ap (λ (l : List ℕ). mix_columns (shift_rows (sub_bytes l))) (quads x long))

pub zip2_is : (xs ys : List ℕ) → zip2 bit_xor xs ys ≡ xor_bytes xs ys
zip2_is [] ys = refl
zip2_is (x ∷ xs) [] = refl
zip2_is (x ∷ xs) (y ∷ ys) = ap (λ (l : List ℕ). bit_xor x y ∷ l) (zip2_is xs ys)

-- the key of a round, out of its inner form
drop-outer : (n : ℕ) (xs : List ℕ) → outer (drop n xs) ≡ drop n (outer xs)
drop-outer zero xs = refl
drop-outer (suc n) [] = refl
drop-outer (suc n) (x ∷ xs) = drop-outer n xs

pub outer_key : (keys v : List ℕ) (r : ℕ) → v ≡ round_key keys r → outer v ≡ round_key (outer keys) r
outer_key keys v r e =
    ap outer e ∙ sym (take-map outer_byte 16 (drop (16 * r) keys)) ∙ ap (take 16) (drop-outer (16 * r) keys)

-- the first state, one round more, and the last
pub first_state : (ks b k t : List ℕ) → k ≡ round_key ks 0 → t ≡ xor_bytes b k → t ≡ rounds ks b 0
unfolding rounds
first_state ks b k t e h = h ∙ ap (xor_bytes b) e

pub more : (ks b s t k : List ℕ) (r : ℕ) → s ≡ rounds ks b r → k ≡ round_key ks (r + 1)
    → t ≡ xor_bytes (mix_columns (shift_rows (sub_bytes s))) k → t ≡ rounds ks b (r + 1)
more ks b s t k r hs ek ht = rounds_more ks b s t r hs (ht ∙ ap (xor_bytes (mix_columns (shift_rows (sub_bytes s)))) ek)

pub last : (ks b s t k : List ℕ) (r : ℕ) → r ≡ 13 → s ≡ rounds ks b r → k ≡ round_key ks 14
    → t ≡ xor_bytes (shift_rows (sub_bytes s)) k → t ≡ cipher_with ks b
last ks b s t k r er hs ek ht = cipher_done ks b s t r er hs (ht ∙ ap (xor_bytes (shift_rows (sub_bytes s))) ek)

pub mixed_inner : (x en tw : List ℕ) → length x ≡ 16 → length en ≡ 16 → length tw ≡ 16 → outer en ≡ map sbox x → outer tw ≡ map twice x
    → outer (mixed_form en tw) ≡ mix_columns (shift_rows (sub_bytes x))
mixed_inner x en tw long le lt ee et =
    let m0 = swz_l w8 16 tw 0 OWN in
    let m1 = swz_l w8 16 (zip2 bit_xor en tw) 0 NEXT in
    let m2 = swz_l w8 16 en 0 THIRD in
    let m3 = swz_l w8 16 en 0 FOURTH in
    let both : length (zip2 bit_xor en tw) ≡ 16 = length-zip2 bit_xor en tw (le ∙ sym lt) ∙ le in
    let e1 = outer-next (zip2 bit_xor en tw) both ∙ ap (λ (l : List ℕ). swz_l w8 16 l 0 NEXT) (outer-zip2 en tw) in
    outer-zip2 (zip2 bit_xor (zip2 bit_xor m0 m1) m2) m3
    ∙ ap (λ (l : List ℕ). zip2 bit_xor l (outer m3)) (outer-zip2 (zip2 bit_xor m0 m1) m2)
    ∙ ap (λ (l : List ℕ). zip2 bit_xor (zip2 bit_xor l (outer m2)) (outer m3)) (outer-zip2 m0 m1)
    ∙ (λ i. zip2 bit_xor (zip2 bit_xor (zip2 bit_xor (outer-own tw lt i) (e1 i)) (outer-third en le i)) (outer-fourth en le i))
    ∙ mixed_is x (outer en) (outer tw) long ee et

-- one key more
pub keys_more : (keys all v : List ℕ) (r : ℕ) → outer (take (16 * r) all) ≡ take (16 * r) keys → outer v ≡ round_key keys r
    → outer (take (16 * r) all ++ v) ≡ take (16 * (r + 1)) keys
keys_more keys all v r before is =
    let e : 16 * r + 16 ≡ 16 * (r + 1) = omega arith in
    map-append outer_byte (take (16 * r) all) v ∙ (λ i. before i ++ is i)
    ∙ sym (take-add (16 * r) 16 keys) ∙ ap (λ (j : ℕ). take j keys) e

-- Eight bits are divided at once, by the table.
use Rattle.std.proofs.Common.{add-zero, take, length, append-nil, ◌≡◌, ℕ, zero, suc, ◌+◌, ◌*◌, ◌/◌, ◌%◌, ◌^◌, ◌<◌, List, [], ◌∷◌, ◌++◌, get_or, map, bit_and, bit_xor, refl, ap, sym, ◌∙◌, arith, inl, inr, ◌⊎◌}
use Rattle.std.specs.List.{range_with_len}
use Rattle.std.specs.Int.Bits.{xor_assoc, xor_zero_l, xor_zero_r}
use Rattle.std.proofs.lemmas.List.FromFn.{get_or-map-range_with_len}
use Rattle.std.proofs.lemmas.Nat.{xor_comm, xor_shr, xor_block, shr_split, and_mask}
use Rattle.std.proofs.Math.Nat.{pow-suc}
use Rattle.std.proofs.lemmas.List.{take_more}
use Rattle.std.proofs.lemmas.List.Concat.{flat_map-append}
use Rattle.std.proofs.lemmas.Nat.Bits.{bit_at_lowest, bit_at_xor}
use Rattle.guid_crc.specs.Remainder.{multiple, times_x, remainder, bits, message_bits}
use Rattle.guid_crc.specs.declared.table.TheConstants.{TABLE}

-- the sum of two sums, by their first and their second parts
xor_swap : (a b c d : ℕ) → bit_xor (bit_xor a b) (bit_xor c d) ≡ bit_xor (bit_xor a c) (bit_xor b d)
xor_swap a b c d =
    xor_assoc a b (bit_xor c d)
    ∙ ap (bit_xor a) (sym (xor_assoc b c d) ∙ ap (λ (x : ℕ). bit_xor x d) (xor_comm b c) ∙ xor_assoc c b d)
    ∙ sym (xor_assoc a c (bit_xor b d))

bit_cases : (b : ℕ) → b < 2 → (b ≡ 0) ⊎ (b ≡ 1)
bit_cases zero lt = inl refl
bit_cases (suc zero) lt = inr refl
bit_cases (suc (suc b)) lt = absurd (omega arith)

multiple-sum : (a b : ℕ) → a < 2 → b < 2 → multiple ((a + b) % 2) ≡ bit_xor (multiple a) (multiple b)
multiple-sum a b la lb = elim (bit_cases a la) [
  | inl ea ↦ elim (bit_cases b lb) [
    | inl eb ↦ rw (ea, eb) refl
    | inr eb ↦ rw (ea, eb) refl
  ]
  | inr ea ↦ elim (bit_cases b lb) [
    | inl eb ↦ rw (ea, eb) refl
    | inr eb ↦ rw (ea, eb) refl
  ]
]

low_bit_xor : (a b : ℕ) → bit_xor a b % 2 ≡ (a % 2 + b % 2) % 2
low_bit_xor a b = sym (bit_at_lowest (bit_xor a b)) ∙ bit_at_xor a b 0 ∙ (λ i. (bit_at_lowest a i + bit_at_lowest b i) % 2)

times_x-xor : (a b : ℕ) → times_x (bit_xor a b) ≡ bit_xor (times_x a) (times_x b)
unfolding times_x
times_x-xor a b =
    (λ i. bit_xor (xor_shr a b 1 i) (multiple (low_bit_xor a b i)))
    ∙ ap (bit_xor (bit_xor (a / 2) (b / 2))) (multiple-sum (a % 2) (b % 2) (omega arith) (omega arith))
    ∙ xor_swap (a / 2) (b / 2) (multiple (a % 2)) (multiple (b % 2))

-- times x, n times
unfoldable pub powers : ℕ → ℕ → ℕ
powers zero r = r
powers (suc n) r = powers n (times_x r)

powers-xor : (n a b : ℕ) → powers n (bit_xor a b) ≡ bit_xor (powers n a) (powers n b)
unfolding powers
powers-xor zero a b = refl
powers-xor (suc n) a b = ap (powers n) (times_x-xor a b) ∙ powers-xor n (times_x a) (times_x b)

-- a number whose low bit is 0 loses it
times_x-double : (u : ℕ) → times_x (2 * u) ≡ u
unfolding times_x
times_x-double u =
    let half : 2 * u / 2 ≡ u = omega arith in
    let even : 2 * u % 2 ≡ 0 = omega arith in
    rw (half, even) (xor_zero_r u)

powers-high : (u : ℕ) → powers 8 (u * 256) ≡ u
unfolding powers
powers-high u =
    let d7 : u * 256 ≡ 2 * (u * 128) = omega arith in
    let d6 : u * 128 ≡ 2 * (u * 64) = omega arith in
    let d5 : u * 64 ≡ 2 * (u * 32) = omega arith in
    let d4 : u * 32 ≡ 2 * (u * 16) = omega arith in
    let d3 : u * 16 ≡ 2 * (u * 8) = omega arith in
    let d2 : u * 8 ≡ 2 * (u * 4) = omega arith in
    let d1 : u * 4 ≡ 2 * (u * 2) = omega arith in
    let d0 : u * 2 ≡ 2 * u = omega arith in
    ap (powers 7) (ap times_x d7 ∙ times_x-double (u * 128))
    ∙ ap (powers 6) (ap times_x d6 ∙ times_x-double (u * 64))
    ∙ ap (powers 5) (ap times_x d5 ∙ times_x-double (u * 32))
    ∙ ap (powers 4) (ap times_x d4 ∙ times_x-double (u * 16))
    ∙ ap (powers 3) (ap times_x d3 ∙ times_x-double (u * 8))
    ∙ ap (powers 2) (ap times_x d2 ∙ times_x-double (u * 4))
    ∙ ap (powers 1) (ap times_x d1 ∙ times_x-double (u * 2))
    ∙ (ap times_x d0 ∙ times_x-double u)

-- the test of the whole table, which the checker computes, and the rule at each entry
table_all : map (powers 8) (range_with_len 0 256) ≡ TABLE
unfolding powers times_x
table_all = refl

table_entry : (x : ℕ) → x < 256 → get_or TABLE x 0 ≡ powers 8 x
table_entry x lt = ap (λ (t : List ℕ). get_or t x 0) (sym table_all) ∙ get_or-map-range_with_len (powers 8) 0 256 x x 0 lt (omega arith)

low : (z : ℕ) → z % 256 ≡ 0 * 2 ^ 8 + z % 256
low z = omega arith

powers-table : (z : ℕ) → powers 8 z ≡ bit_xor (z / 256) (get_or TABLE (bit_and z 255) 0)
powers-table z =
    let whole : bit_xor (z / 256 * 256) (z % 256) ≡ z =
    (λ i. bit_xor (sym (add-zero (z / 256 * 256)) i) (low z i))
    ∙ xor_block 8 (z / 256) 0 0 (z % 256) (omega arith) (omega arith)
    ∙ (λ i. xor_zero_r (z / 256) i * 2 ^ 8 + z % 256)
    ∙ shr_split z 8 in
    ap (powers 8) (sym whole)
    ∙ powers-xor 8 (z / 256 * 256) (z % 256)
    ∙ (λ i. bit_xor (powers-high (z / 256) i) ((sym (table_entry (z % 256) (omega arith)) ∙ ap (λ (k : ℕ). get_or TABLE k 0) (sym (and_mask z 8))) i))

low_bit : (b : ℕ) → bit_xor (b % 2) (2 * (b / 2)) ≡ b
low_bit b =
    let h : b % 2 ≡ 0 * 2 ^ 1 + b % 2 = omega arith in
    let k : 2 * (b / 2) ≡ b / 2 * 2 ^ 1 + 0 = omega arith in
    (λ i. bit_xor (h i) (k i)) ∙ xor_block 1 0 (b / 2) (b % 2) 0 (omega arith) (omega arith)
    ∙ (λ i. xor_zero_l (b / 2) i * 2 ^ 1 + xor_zero_r (b % 2) i) ∙ shr_split b 1

-- bits that are added one by one are added at once
remainder-bits : (n b r : ℕ) → b < 2 ^ n → remainder r (bits n b) ≡ powers n (bit_xor r b)
unfolding remainder bits powers
remainder-bits zero b r lt = let none : b ≡ 0 = omega arith in rw none (sym (xor_zero_r r))
remainder-bits (suc n) b r lt =
    let less : b / 2 < 2 ^ n = half_lt n b lt in
    remainder-bits n (b / 2) (times_x (bit_xor r (b % 2))) less
    ∙ ap (powers n)
    (ap (bit_xor (times_x (bit_xor r (b % 2)))) (sym (times_x-double (b / 2)))
    ∙ sym (times_x-xor (bit_xor r (b % 2)) (2 * (b / 2)))
    ∙ ap times_x (xor_assoc r (b % 2) (2 * (b / 2)) ∙ ap (bit_xor r) (low_bit b)))
  where
    half_lt : (n b : ℕ) → b < 2 ^ suc n → b / 2 < 2 ^ n
    half_lt n b h = let p : 2 ^ suc n ≡ 2 ^ n * 2 = pow-suc 2 n in omega (arith, p)

-- eight bits
pub remainder-byte : (r b : ℕ) → b < 256 → remainder r (bits 8 b) ≡ bit_xor (bit_xor r b / 256) (get_or TABLE (bit_and (bit_xor r b) 255) 0)
remainder-byte r b lt = remainder-bits 8 b r lt ∙ powers-table (bit_xor r b)

pub remainder-append : (r : ℕ) (xs ys : List ℕ) → remainder r (xs ++ ys) ≡ remainder (remainder r xs) ys
unfolding remainder
remainder-append r [] ys = refl
remainder-append r (x ∷ xs) ys = remainder-append (times_x (bit_xor r x)) xs ys

pub remainder-none : (r : ℕ) → r ≡ remainder r []
unfolding remainder
remainder-none r = refl

-- one byte more
pub remainder-more : (r now next i : ℕ) (xs : List ℕ) → i < length xs → now ≡ remainder r (message_bits (take i xs))
    → next ≡ remainder now (bits 8 (get_or xs i 0)) → next ≡ remainder r (message_bits (take (i + 1) xs))
remainder-more r now next i xs lt before step =
    let byte = bits 8 (get_or xs i 0) in
    step ∙ ap (λ (n : ℕ). remainder n byte) before ∙ sym (remainder-append r (message_bits (take i xs)) byte)
    ∙ ap (remainder r)
    (ap (◌++◌ (message_bits (take i xs))) (sym (append-nil byte))
    ∙ sym (flat_map-append (bits 8) (take i xs) (get_or xs i 0 ∷ []))
    ∙ ap message_bits (sym (take_more xs i 0 lt)))

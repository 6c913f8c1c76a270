-- Bytes stay bytes.
use Rattle.std.proofs.Common.{inl, inr, zero, suc, ◌++◌, take, drop, map, slice_index, ◌≡◌, ℕ, ◌+◌, ◌-◌, ◌*◌, ◌/◌, ◌%◌, ◌==◌, ◌^◌, ◌<◌, List, [], ◌∷◌, bit_xor, nat_lt, ap, sym, subst, ◌∙◌, arith, false}
use Rattle.std.specs.List.{All}
use Rattle.std.proofs.Math.Nat.{two-pow-succ}
use Rattle.std.proofs.lemmas.Bool.{cases_Bool, cases_lt, le-ltb, lt-ltb}
use Rattle.std.proofs.lemmas.Nat.{xor_block, xor_lt}
use Rattle.std.proofs.lemmas.List.Elements.{All-cons, All-nil}
use Rattle.aes_core.specs.Field.{affine_bit, affine_bits, inverse, sbox, times_x}
use Rattle.aes_core.specs.Aes.{changed_word, cipher, cipher_with, key_schedule, key_words, next_word, quad, rot_word, round_key, rounds, shift_rows, sub_bytes, word_at, x_power, xor_bytes}

abbrev pub HasBytes : List ℕ → Type 0
HasBytes [] = Unit {0}
HasBytes (x ∷ xs) = (x < 256) × HasBytes xs

pub HasBytes-from : (xs : List ℕ) → All (λ b. b < 256) xs → HasBytes xs
HasBytes-from [] h = tt
HasBytes-from (x ∷ xs) h = (h zero zero (omega arith), HasBytes-from xs (λ k d lt. h (suc k) d (omega arith)))

pub All-from : (xs : List ℕ) → HasBytes xs → All (λ b. b < 256) xs
All-from [] h = All-nil (λ b. b < 256)
All-from (x ∷ xs) h = All-cons (λ b. b < 256) x xs h.0 (All-from xs h.1)

pub HasBytes-append : (xs ys : List ℕ) → HasBytes xs → HasBytes ys → HasBytes (xs ++ ys)
HasBytes-append [] ys h k = k
HasBytes-append (x ∷ xs) ys h k = (h.0, HasBytes-append xs ys h.1 k)

HasBytes-take : (n : ℕ) (xs : List ℕ) → HasBytes xs → HasBytes (take n xs)
HasBytes-take zero xs h = tt
HasBytes-take (suc n) [] h = tt
HasBytes-take (suc n) (x ∷ xs) h = (h.0, HasBytes-take n xs h.1)

HasBytes-drop : (n : ℕ) (xs : List ℕ) → HasBytes xs → HasBytes (drop n xs)
HasBytes-drop zero xs h = h
HasBytes-drop (suc n) [] h = tt
HasBytes-drop (suc n) (x ∷ xs) h = HasBytes-drop n xs h.1

byte_at : (xs : List ℕ) (i : ℕ) → HasBytes xs → slice_index xs i < 256
byte_at [] i h = omega arith
byte_at (x ∷ xs) zero h = h.0
byte_at (x ∷ xs) (suc i) h = byte_at xs i h.1

pub HasBytes-xor_bytes : (xs ys : List ℕ) → HasBytes xs → HasBytes ys → HasBytes (xor_bytes xs ys)
HasBytes-xor_bytes [] ys h k = tt
HasBytes-xor_bytes (x ∷ xs) [] h k = tt
HasBytes-xor_bytes (x ∷ xs) (y ∷ ys) h k = (xor_lt 8 x y h.0 k.0, HasBytes-xor_bytes xs ys h.1 k.1)

with_bit : (bit x p : ℕ) → bit < 2 → x < p → x + bit * p < p + p
with_bit zero x p lb lx = omega arith
with_bit (suc zero) x p lb lx = omega arith
with_bit (suc (suc bit)) x p lb lx = absurd (omega arith)

affine_bits-lt : (n b : ℕ) → affine_bits n b < 2 ^ n
unfolding affine_bits
affine_bits-lt zero b = omega arith
affine_bits-lt (suc n) b =
    let double : 2 ^ suc n ≡ 2 ^ n + 2 ^ n = two-pow-succ n in
    let sum = with_bit (affine_bit b n) (affine_bits n b) (2 ^ n) (omega arith) (affine_bits-lt n b) in
    omega (arith, double, sum)

sbox-lt : (a : ℕ) → sbox a < 256
unfolding sbox
sbox-lt a = affine_bits-lt 8 (inverse a)

HasBytes-sbox : (xs : List ℕ) → HasBytes (map sbox xs)
HasBytes-sbox [] = tt
HasBytes-sbox (x ∷ xs) = (sbox-lt x, HasBytes-sbox xs)

reduced-lt : (r : ℕ) → r < 256 → bit_xor (256 + r) 0x11B < 256
reduced-lt r lt =
    let high : bit_xor (1 * 2 ^ 8 + r) (1 * 2 ^ 8 + 0x1B) ≡ bit_xor 1 1 * 2 ^ 8 + bit_xor r 0x1B = xor_block 8 1 1 r 0x1B lt (omega arith) in
    let low = xor_lt 8 r 0x1B lt (omega arith) in
    let left : 1 * 2 ^ 8 + r ≡ 256 + r = omega arith in
    let none : bit_xor 1 1 * 2 ^ 8 + bit_xor r 0x1B ≡ bit_xor r 0x1B = omega arith in
    let same : bit_xor (256 + r) 0x11B ≡ bit_xor r 0x1B = ap (λ (x : ℕ). bit_xor x 0x11B) (sym left) ∙ high ∙ none in
    subst (λ (x : ℕ). x < 256) (sym same) low

times_x-lt : (b : ℕ) → b < 256 → times_x b < 256
times_x-lt b lt = elim (cases_lt b 128) [
  | inl small ↦ rw (lt-ltb b 128 small) (omega (arith, small))
  | inr large ↦
      let test : nat_lt b 128 ≡ false = le-ltb b 128 large in
      let e : 256 + (2 * b - 256) ≡ 2 * b = omega (arith, large) in
      let at = reduced-lt (2 * b - 256) (omega (arith, large)) in
      rw test (subst (λ (x : ℕ). bit_xor x 0x11B < 256) e at)
]

x_power-lt : (n : ℕ) → x_power n < 256
unfolding x_power
x_power-lt zero = omega arith
x_power-lt (suc n) = times_x-lt (x_power n) (x_power-lt n)

HasBytes-quad : (xs : List ℕ) (n : ℕ) → HasBytes xs → HasBytes (quad xs n)
HasBytes-quad xs n h = (byte_at xs n h, (byte_at xs (n + 1) h, (byte_at xs (n + 2) h, (byte_at xs (n + 3) h, tt))))

HasBytes-changed_word : (w : List ℕ) (i : ℕ) → HasBytes w → HasBytes (changed_word w i)
HasBytes-changed_word w i h = elim (cases_Bool (i % 8 == 0)) [
  | inl t ↦ rw t (HasBytes-xor_bytes (map sbox (rot_word w)) (x_power (i / 8 - 1) ∷ 0 ∷ 0 ∷ 0 ∷ []) (HasBytes-sbox (rot_word w)) (x_power-lt (i / 8 - 1), (omega arith, (omega arith, (omega arith, tt)))))
  | inr f ↦ elim (cases_Bool (i % 8 == 4)) [
    | inl t ↦ rw (f, t) (HasBytes-sbox w)
    | inr u ↦ rw (f, u) h
  ]
]

HasBytes-key_words : (key : List ℕ) (n : ℕ) → HasBytes key → HasBytes (key_words key n)
unfolding key_words next_word
HasBytes-key_words key zero h = h
HasBytes-key_words key (suc n) h =
    let ks = key_words key n in
    let all = HasBytes-key_words key n h in
    let near = HasBytes-quad ks (4 * (n + 8 - 1)) all in
    HasBytes-append ks (next_word ks (n + 8)) all
    (HasBytes-xor_bytes (word_at ks (n + 8 - 8)) (changed_word (word_at ks (n + 8 - 1)) (n + 8)) (HasBytes-quad ks (4 * (n + 8 - 8)) all) (HasBytes-changed_word (word_at ks (n + 8 - 1)) (n + 8) near))

HasBytes-shift_rows : (s : List ℕ) → HasBytes s → HasBytes (shift_rows s)
HasBytes-shift_rows s h =
    (byte_at s 0 h, (byte_at s 5 h, (byte_at s 10 h, (byte_at s 15 h, (byte_at s 4 h, (byte_at s 9 h, (byte_at s 14 h, (byte_at s 3 h, (byte_at s 8 h, (byte_at s 13 h, (byte_at s 2 h, (byte_at s 7 h, (byte_at s 12 h, (byte_at s 1 h, (byte_at s 6 h, (byte_at s 11 h, tt))))))))))))))))

-- what is encrypted under a key of bytes has bytes
pub HasBytes-cipher : (key b : List ℕ) → HasBytes key → HasBytes (cipher key b)
unfolding cipher cipher_with
HasBytes-cipher key b h =
    let ks = key_schedule key in
    let s = sub_bytes (rounds ks b 13) in
    HasBytes-xor_bytes (shift_rows s) (round_key ks 14) (HasBytes-shift_rows s (HasBytes-sbox (rounds ks b 13)))
    (HasBytes-take 16 (drop (16 * 14) ks) (HasBytes-drop (16 * 14) ks (HasBytes-key_words key 52 h)))

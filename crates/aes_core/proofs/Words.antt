-- Words of four bytes, rounds, and lengths.
use Rattle.std.proofs.Common.{min, inl, inr, ◌≤◌, ◌-◌, zero, suc, ◌++◌, length, take, drop, slice_index, ◌≡◌, ℕ, ◌+◌, ◌*◌, ◌%◌, ◌==◌, ◌<◌, List, [], ◌∷◌, get_or, refl, ap, sym, ◌∙◌, arith}
use Rattle.std.proofs.lemmas.List.{drop_more, drop-drop, take_all, length-append, length-take-le, length-drop, take-append-le, length-map, get_or-take}
use Rattle.std.proofs.Math.Seq.{take-add}
use Rattle.std.proofs.lemmas.Bool.{cases_Bool}
use Rattle.aes_core.specs.Field.{sbox}
use Rattle.aes_core.specs.Aes.{quad, next_word, changed_word, x_power, rounds, cipher, cipher_with, key_schedule, key_words, mix_columns, round_key, shift_rows, sub_bytes, xor_bytes}

-- four elements cut from a list
pub take-quad : (xs : List ℕ) (n : ℕ) → n + 4 ≤ length xs → take 4 (drop n xs) ≡ quad xs n
take-quad xs n le =
    let e2 : n + 1 + 1 ≡ n + 2 = omega arith in
    let e3 : n + 2 + 1 ≡ n + 3 = omega arith in
    let d0 : drop n xs ≡ get_or xs n 0 ∷ drop (n + 1) xs = drop_more xs n 0 (omega arith) in
    let d1 : drop (n + 1) xs ≡ get_or xs (n + 1) 0 ∷ drop (n + 2) xs = drop_more xs (n + 1) 0 (omega arith) ∙ ap (λ (k : ℕ). get_or xs (n + 1) 0 ∷ drop k xs) e2 in
    let d2 : drop (n + 2) xs ≡ get_or xs (n + 2) 0 ∷ drop (n + 3) xs = drop_more xs (n + 2) 0 (omega arith) ∙ ap (λ (k : ℕ). get_or xs (n + 2) 0 ∷ drop k xs) e3 in
    let d3 = drop_more xs (n + 3) 0 (omega arith) in
    ap (take 4) (d0 ∙ ap (λ (l : List ℕ). get_or xs n 0 ∷ l) (d1 ∙ ap (λ (l : List ℕ). get_or xs (n + 1) 0 ∷ l) (d2 ∙ ap (λ (l : List ℕ). get_or xs (n + 2) 0 ∷ l) d3)))

-- sixteen elements cut from a list
pub take-quads : (xs : List ℕ) (n : ℕ) → n + 16 ≤ length xs
    → take 16 (drop n xs) ≡ quad xs n ++ quad xs (n + 4) ++ quad xs (n + 8) ++ quad xs (n + 12)
take-quads xs n le =
    let s1 : take 16 (drop n xs) ≡ take 4 (drop n xs) ++ take 12 (drop (n + 4) xs) = take-add 4 12 (drop n xs) ∙ ap (λ (l : List ℕ). take 4 (drop n xs) ++ take 12 l) (drop-drop 4 n xs) in
    let s2 : take 12 (drop (n + 4) xs) ≡ take 4 (drop (n + 4) xs) ++ take 8 (drop (n + 8) xs) =
    take-add 4 8 (drop (n + 4) xs) ∙ ap (λ (l : List ℕ). take 4 (drop (n + 4) xs) ++ take 8 l) (drop-drop 4 (n + 4) xs ∙ ap (λ (k : ℕ). drop k xs) (omega arith)) in
    let s3 : take 8 (drop (n + 8) xs) ≡ take 4 (drop (n + 8) xs) ++ take 4 (drop (n + 12) xs) =
    take-add 4 4 (drop (n + 8) xs) ∙ ap (λ (l : List ℕ). take 4 (drop (n + 8) xs) ++ take 4 l) (drop-drop 4 (n + 8) xs ∙ ap (λ (k : ℕ). drop k xs) (omega arith)) in
    let q0 = take-quad xs n (omega arith) in
    let q1 = take-quad xs (n + 4) (omega arith) in
    let q2 = take-quad xs (n + 8) (omega arith) in
    let q3 = take-quad xs (n + 12) (omega arith) in
    s1 ∙ (λ i. q0 i ++ (s2 ∙ (λ j. q1 j ++ (s3 ∙ (λ k. q2 k ++ q3 k)) j)) i)

-- a list of sixteen elements
pub quads : (xs : List ℕ) → length xs ≡ 16 → xs ≡ quad xs 0 ++ quad xs 4 ++ quad xs 8 ++ quad xs 12
quads xs e = sym (take_all 16 xs (omega arith)) ∙ take-quads xs 0 (omega arith)

quad-take : (xs : List ℕ) (m n : ℕ) → n + 4 ≤ m → quad (take m xs) n ≡ quad xs n
quad-take xs m n le =
    let e0 = get_or-take m xs n 0 (omega arith) in
    let e1 = get_or-take m xs (n + 1) 0 (omega arith) in
    let e2 = get_or-take m xs (n + 2) 0 (omega arith) in
    let e3 = get_or-take m xs (n + 3) 0 (omega arith) in
    λ i. e0 i ∷ e1 i ∷ e2 i ∷ e3 i ∷ []

-- a word of the schedule reads only the bytes before it
pub next_word-take : (ks : List ℕ) (i : ℕ) → 8 ≤ i → next_word (take (4 * i) ks) i ≡ next_word ks i
unfolding next_word
next_word-take ks i low =
    let near = quad-take ks (4 * i) (4 * (i - 1)) (omega arith) in
    let far = quad-take ks (4 * i) (4 * (i - 8)) (omega arith) in
    λ j. xor_bytes (far j) (changed_word (near j) i)

pub power_entry : (n : ℕ) → n < 7 → slice_index (1 ∷ 2 ∷ 4 ∷ 8 ∷ 16 ∷ 32 ∷ 64 ∷ []) n ≡ x_power n
unfolding x_power
power_entry zero lt = refl
power_entry (suc zero) lt = refl
power_entry (suc (suc zero)) lt = refl
power_entry (suc (suc (suc zero))) lt = refl
power_entry (suc (suc (suc (suc zero)))) lt = refl
power_entry (suc (suc (suc (suc (suc zero))))) lt = refl
power_entry (suc (suc (suc (suc (suc (suc zero)))))) lt = refl
power_entry (suc (suc (suc (suc (suc (suc (suc n))))))) lt = absurd (omega arith)

pub quad_of : (xs ys : List ℕ) → xs ≡ ys → length xs ≡ 4 → quad xs 0 ≡ ys
quad_of xs ys e len = sym (take-quad xs 0 (omega arith)) ∙ take_all 4 xs (omega arith) ∙ e

-- one round more
pub rounds_more : (ks b s t : List ℕ) (r : ℕ) → s ≡ rounds ks b r
    → t ≡ xor_bytes (mix_columns (shift_rows (sub_bytes s))) (round_key ks (r + 1)) → t ≡ rounds ks b (r + 1)
unfolding rounds
rounds_more ks b s t r hs ht =
    let e : r + 1 ≡ suc r = omega arith in
    ht ∙ (λ i. xor_bytes (mix_columns (shift_rows (sub_bytes (hs i)))) (round_key ks (e i))) ∙ ap (rounds ks b) (sym e)

pub cipher_done : (ks b s t : List ℕ) (r : ℕ) → r ≡ 13 → s ≡ rounds ks b r
    → t ≡ xor_bytes (shift_rows (sub_bytes s)) (round_key ks 14) → t ≡ cipher_with ks b
unfolding cipher_with
cipher_done ks b s t r e hs ht = ht ∙ (λ i. xor_bytes (shift_rows (sub_bytes ((hs ∙ ap (rounds ks b) e) i))) (round_key ks 14))

-- one word of the schedule more
pub key_words_more : (key ks w : List ℕ) (n : ℕ) → take (4 * (n + 8)) ks ≡ key_words key n → w ≡ next_word ks (n + 8)
    → take (4 * (n + 8)) ks ++ w ≡ key_words key (n + 1)
unfolding key_words
key_words_more key ks w n before is =
    let e : n + 1 ≡ suc n = omega arith in
    let word : w ≡ next_word (key_words key n) (n + 8) =
    is ∙ sym (next_word-take ks (n + 8) (omega arith)) ∙ ap (λ (l : List ℕ). next_word l (n + 8)) before in
    (λ i. before i ++ word i) ∙ ap (key_words key) (sym e)

pub length-xor_bytes : (xs ys : List ℕ) → length (xor_bytes xs ys) ≡ min (length xs) (length ys)
length-xor_bytes [] ys = omega arith
length-xor_bytes (x ∷ xs) [] = omega arith
length-xor_bytes (x ∷ xs) (y ∷ ys) = let rest = length-xor_bytes xs ys in omega (arith, rest)

length-changed_word : (w : List ℕ) (i : ℕ) → length w ≡ 4 → length (changed_word w i) ≡ 4
length-changed_word w i e = elim (cases_Bool (i % 8 == 0)) [
  | inl t ↦ rw t refl
  | inr f ↦ elim (cases_Bool (i % 8 == 4)) [
    | inl t ↦ rw (f, t) (length-map w sbox ∙ e)
    | inr u ↦ rw (f, u) e
  ]
]

pub length-next_word : (ks : List ℕ) (i : ℕ) → length (next_word ks i) ≡ 4
unfolding next_word
length-next_word ks i =
    let w = changed_word (quad ks (4 * (i - 1))) i in
    let four : length w ≡ 4 = length-changed_word (quad ks (4 * (i - 1))) i refl in
    length-xor_bytes (quad ks (4 * (i - 8))) w ∙ ap (min 4) four

-- the key itself begins the schedule
pub take-key_words : (key : List ℕ) (n : ℕ) → length key ≡ 32 → (length (key_words key n) ≡ 4 * (n + 8)) × (take 32 (key_words key n) ≡ key)
unfolding key_words next_word
take-key_words key zero e = (omega arith, take_all 32 key (omega arith))
take-key_words key (suc n) e =
    let before = take-key_words key n e in
    let k = key_words key n in
    let w = next_word k (n + 8) in
    let four : length w ≡ 4 = length-next_word k (n + 8) in
    (omega (arith, length-append k w), take-append-le 32 k w (omega arith) ∙ before.1)

pub length-key_schedule : (key : List ℕ) → length key ≡ 32 → length (key_schedule key) ≡ 240
length-key_schedule key e = (take-key_words key 52 e).0

-- a block under the cipher is a block
pub length-cipher : (key b : List ℕ) → length key ≡ 32 → length (cipher key b) ≡ 16
unfolding cipher cipher_with
length-cipher key b e =
    let ks = key_schedule key in
    let all = length-key_schedule key e in
    let part : length (round_key ks 14) ≡ 16 = length-take-le 16 (drop 224 ks) (omega (arith, all, length-drop 224 ks)) in
    length-xor_bytes (shift_rows (sub_bytes (rounds ks b 13))) (round_key ks 14) ∙ ap (min 16) part

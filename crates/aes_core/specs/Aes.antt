-- AES-256 (FIPS 197) as functions on lists of bytes. A state is the list of its 16 bytes, column by
-- column, as a block is: the byte in row r and column c stands at r + 4 * c (3.4).
use Rattle.std.specs.Prelude.{ℕ, zero, suc, ◌+◌, ◌-◌, ◌*◌, ◌/◌, ◌%◌, ◌==◌, List, [], ◌∷◌, ◌++◌, map, take, drop, bit_xor, slice_index, if◌then◌else◌}
use Rattle.aes_core.specs.Field.{times_x, product, sbox}

-- the sums of the bytes of two lists, as far as both go
abbrev pub xor_bytes : List ℕ → List ℕ → List ℕ
xor_bytes [] ys = []
xor_bytes (x ∷ xs) [] = []
xor_bytes (x ∷ xs) (y ∷ ys) = bit_xor x y ∷ xor_bytes xs ys

-- SubBytes (5.1.1)
abbrev pub sub_bytes : List ℕ → List ℕ
sub_bytes s = map sbox s

-- ShiftRows (5.1.2): row r moves r places to the left
abbrev pub shift_rows : List ℕ → List ℕ
shift_rows s =
    slice_index s 0 ∷ slice_index s 5 ∷ slice_index s 10 ∷ slice_index s 15
    ∷ slice_index s 4 ∷ slice_index s 9 ∷ slice_index s 14 ∷ slice_index s 3
    ∷ slice_index s 8 ∷ slice_index s 13 ∷ slice_index s 2 ∷ slice_index s 7
    ∷ slice_index s 12 ∷ slice_index s 1 ∷ slice_index s 6 ∷ slice_index s 11 ∷ []

-- one column under MixColumns (5.1.3)
abbrev pub mix_column : ℕ → ℕ → ℕ → ℕ → List ℕ
mix_column a b c d =
    bit_xor (bit_xor (bit_xor (product 2 a) (product 3 b)) c) d
    ∷ bit_xor (bit_xor (bit_xor a (product 2 b)) (product 3 c)) d
    ∷ bit_xor (bit_xor (bit_xor a b) (product 2 c)) (product 3 d)
    ∷ bit_xor (bit_xor (bit_xor (product 3 a) b) c) (product 2 d) ∷ []

-- MixColumns (5.1.3)
abbrev pub mix_columns : List ℕ → List ℕ
mix_columns s =
    mix_column (slice_index s 0) (slice_index s 1) (slice_index s 2) (slice_index s 3)
    ++ mix_column (slice_index s 4) (slice_index s 5) (slice_index s 6) (slice_index s 7)
    ++ mix_column (slice_index s 8) (slice_index s 9) (slice_index s 10) (slice_index s 11)
    ++ mix_column (slice_index s 12) (slice_index s 13) (slice_index s 14) (slice_index s 15)

-- four bytes of a list, from place n on
abbrev pub quad : List ℕ → ℕ → List ℕ
quad xs n = slice_index xs n ∷ slice_index xs (n + 1) ∷ slice_index xs (n + 2) ∷ slice_index xs (n + 3) ∷ []

-- the power of x that begins the round constant n + 1 (5.2)
unfoldable pub x_power : ℕ → ℕ
x_power zero = 1
x_power (suc n) = times_x (x_power n)

-- word i of a key schedule
abbrev pub word_at : List ℕ → ℕ → List ℕ
word_at ks i = quad ks (4 * i)

-- RotWord (5.2)
abbrev pub rot_word : List ℕ → List ℕ
rot_word w = slice_index w 1 ∷ slice_index w 2 ∷ slice_index w 3 ∷ slice_index w 0 ∷ []

-- what is added to word i - 8 for word i, where w is word i - 1 (5.2)
abbrev pub changed_word : List ℕ → ℕ → List ℕ
changed_word w i =
    if i % 8 == 0 then xor_bytes (map sbox (rot_word w)) (x_power (i / 8 - 1) ∷ 0 ∷ 0 ∷ 0 ∷ [])
    else (if i % 8 == 4 then map sbox w else w)

-- word i from the words before it (5.2)
unfoldable pub next_word : List ℕ → ℕ → List ℕ
next_word ks i = xor_bytes (word_at ks (i - 8)) (changed_word (word_at ks (i - 1)) i)

-- the first 8 + n words of the key schedule
unfoldable pub key_words : List ℕ → ℕ → List ℕ
key_words key zero = key
key_words key (suc n) = key_words key n ++ next_word (key_words key n) (n + 8)

-- the key schedule of a key of 32 bytes: 60 words (5.2)
abbrev pub key_schedule : List ℕ → List ℕ
key_schedule key = key_words key 52

-- the key of round r
abbrev pub round_key : List ℕ → ℕ → List ℕ
round_key ks r = take 16 (drop (16 * r) ks)

-- the state after the first AddRoundKey and r rounds of block b, under the key schedule ks (5.1)
unfoldable pub rounds : List ℕ → List ℕ → ℕ → List ℕ
rounds ks b zero = xor_bytes b (round_key ks 0)
rounds ks b (suc r) = xor_bytes (mix_columns (shift_rows (sub_bytes (rounds ks b r)))) (round_key ks (suc r))

-- Cipher (5.1), under a key schedule of 14 rounds; the last one mixes no columns
unfoldable pub cipher_with : List ℕ → List ℕ → List ℕ
cipher_with ks b = xor_bytes (shift_rows (sub_bytes (rounds ks b 13))) (round_key ks 14)

-- the block b under AES-256 with this key
unfoldable pub cipher : List ℕ → List ℕ → List ℕ
cipher key b = cipher_with (key_schedule key) b

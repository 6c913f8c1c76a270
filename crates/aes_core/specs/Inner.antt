-- The form in which the code keeps bytes: two halves of four bits, on which an inverse is a few
-- look-ups in tables of sixteen. Private parts alone are stated by it; what callers see is AES.
use Rattle.std.specs.Prelude.{ℕ, ◌/◌, ◌%◌, ◌^◌, ◌||◌, Bool, List, [], ◌∷◌, IsTrue, map, bit_and, bit_xor, nat_le, nat_lt, slice_index, if◌then◌else◌}
use Rattle.aes_core.specs.Field.{product, sbox}
use Rattle.aes_core.specs.declared.lanes.TheConstants.{INVERSE, SCALED, FIRST, SECOND, IN_LOW, IN_HIGH, OUT_LOW, OUT_HIGH, FIRST_INNER, SECOND_INNER, FIRST_TWICE_INNER, SECOND_TWICE_INNER}

-- the entry of a table of sixteen at j, and 0 from 128 on
abbrev pub entry : List ℕ → ℕ → ℕ
entry t j = if nat_le 128 j then 0 else slice_index t j

-- a place in the table, or one from 128 on
abbrev pub is_place : ℕ → Bool
is_place j = nat_le 128 j || nat_lt j 16

abbrev pub ArePlaces : List ℕ → Type 0
ArePlaces [] = Unit {0}
ArePlaces (j ∷ js) = IsTrue (is_place j) × ArePlaces js

-- the product of 2 and an entry of the S-box
abbrev pub twice : ℕ → ℕ
twice b = product 2 (sbox b)

-- the byte whose inner form is b
abbrev pub outer_byte : ℕ → ℕ
outer_byte b = bit_xor (slice_index OUT_LOW (b % 16)) (slice_index OUT_HIGH (b / 16 % 16))

-- the bytes whose inner forms these are
abbrev pub outer : List ℕ → List ℕ
outer xs = map outer_byte xs

-- the halves of a byte
abbrev pub low : ℕ → ℕ
low b = bit_and b 15

abbrev pub high : ℕ → ℕ
high b = b / 2 ^ 4

-- the steps to an inverse
abbrev pub both : ℕ → ℕ
both b = bit_xor (high b) (low b)

abbrev pub scaled : ℕ → ℕ
scaled b = entry SCALED (low b)

abbrev pub of_high : ℕ → ℕ
of_high b = entry INVERSE (high b)

abbrev pub of_both : ℕ → ℕ
of_both b = entry INVERSE (both b)

abbrev pub first_place : ℕ → ℕ
first_place b = bit_xor (of_high b) (scaled b)

abbrev pub second_place : ℕ → ℕ
second_place b = bit_xor (of_both b) (scaled b)

abbrev pub first_inverse : ℕ → ℕ
first_inverse b = entry INVERSE (first_place b)

abbrev pub second_inverse : ℕ → ℕ
second_inverse b = entry INVERSE (second_place b)

abbrev pub first_root : ℕ → ℕ
first_root b = bit_xor (first_inverse b) (both b)

abbrev pub second_root : ℕ → ℕ
second_root b = bit_xor (second_inverse b) (high b)

-- the entry of the S-box in inner form, its double in inner form, and the entry itself
abbrev pub inner_entry : ℕ → ℕ
inner_entry b = bit_xor (bit_xor (entry FIRST_INNER (first_root b)) (entry SECOND_INNER (second_root b))) 120

abbrev pub inner_double : ℕ → ℕ
inner_double b = bit_xor (bit_xor (entry FIRST_TWICE_INNER (first_root b)) (entry SECOND_TWICE_INNER (second_root b))) 19

abbrev pub last_entry : ℕ → ℕ
last_entry b = bit_xor (bit_xor (entry FIRST (first_root b)) (entry SECOND (second_root b))) 0x63

-- the inner form of a byte
abbrev pub inner_byte : ℕ → ℕ
inner_byte b = bit_xor (entry IN_LOW (low b)) (entry IN_HIGH (high b))

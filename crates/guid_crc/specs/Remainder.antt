-- CRC-32 (ITU-T V.42, 8.1.1.6.2; IEEE 802.3, 3.2.9): the remainder of the message by a polynomial over
-- the field of two elements, bit by bit. The lowest bit of a number is the coefficient of the highest power.
use Rattle.std.specs.Prelude.{ℕ, zero, suc, ◌/◌, ◌%◌, ◌==◌, List, [], ◌∷◌, bit_xor, if◌then◌else◌}
use Rattle.std.specs.List.{flat_map}

-- x^32 + x^26 + x^23 + x^22 + x^16 + x^12 + x^11 + x^10 + x^8 + x^7 + x^5 + x^4 + x^2 + x + 1 without x^32
abbrev pub polynomial : ℕ
polynomial = 0xEDB88320

-- the polynomial where the coefficient is 1, and nothing where it is 0
abbrev pub multiple : ℕ → ℕ
multiple coefficient = if coefficient == 1 then polynomial else 0

-- times x, less the multiple of the polynomial that the coefficient of x^31 asks for
unfoldable pub times_x : ℕ → ℕ
times_x r = bit_xor (r / 2) (multiple (r % 2))

-- the remainder once these coefficients of the message, the highest first, are divided too
unfoldable pub remainder : ℕ → List ℕ → ℕ
remainder r [] = r
remainder r (bit ∷ bits) = remainder (times_x (bit_xor r bit)) bits

-- the n low bits, the lowest first
unfoldable pub bits : ℕ → ℕ → List ℕ
bits zero b = []
bits (suc n) b = b % 2 ∷ bits n (b / 2)

-- the message's coefficients: each byte's bits, the lowest first
abbrev pub message_bits : List ℕ → List ℕ
message_bits bytes = flat_map (bits 8) bytes

-- the first value, and what is added to the remainder at the end
abbrev pub ones : ℕ
ones = 0xFFFFFFFF

abbrev pub crc32 : List ℕ → ℕ
crc32 bytes = bit_xor (remainder ones (message_bits bytes)) ones

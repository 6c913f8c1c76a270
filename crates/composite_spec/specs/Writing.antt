-- The composite file that is written for a description: shortest varints, the fields in the order of their numbers,
-- and numbers that are 0 left out.
use Rattle.std.specs.Prelude.{ℕ, zero, suc, ◌+◌, ◌*◌, ◌/◌, ◌%◌, List, [], ◌∷◌, ◌++◌, length, ◌==◌, nat_lt, if◌then◌else◌}
use Rattle.std.specs.List.{flat_map}
use Rattle.composite_spec.specs.Said.{Placed, Composite, magic, capability_of}

-- The digits of n in base 128, the least significant first, and 128 more in each but the last. No more than `most`
-- stand before the last.
unfoldable pub digits_within : ℕ → ℕ → List ℕ
digits_within zero n = n ∷ []
digits_within (suc most) n = if nat_lt n 128 then n ∷ [] else (128 + n % 128) ∷ digits_within most (n / 128)

-- the shortest varint; a number has no more digits than itself and one
abbrev pub varint_bytes : ℕ → List ℕ
varint_bytes n = digits_within n n

-- a field of wire type 0, whose number stands in its tag eightfold; a value that is 0 is left out
unfoldable pub number_field : ℕ → ℕ → List ℕ
number_field number value = if value == 0 then [] else (varint_bytes (8 * number) ++ varint_bytes value)

-- a field of wire type 2
unfoldable pub bytes_field : ℕ → List ℕ → List ℕ
bytes_field number bytes = varint_bytes (8 * number + 2) ++ (varint_bytes (length bytes) ++ bytes)

unfoldable pub component_bytes : Placed → List ℕ
component_bytes c = bytes_field 1 c.path ++ (number_field 2 c.offset ++ number_field 3 (capability_of c))

abbrev pub components_bytes : List Placed → List ℕ
components_bytes cs = flat_map (λ (c : Placed). bytes_field 2 (component_bytes c)) cs

unfoldable pub file_bytes : Composite → List ℕ
file_bytes c = magic ++ (number_field 1 2 ++ (components_bytes c.components ++ number_field 3 c.length))

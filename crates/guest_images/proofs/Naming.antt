-- The field of a name.
use Rattle.std.proofs.Common.{◌≡◌, ◌≤◌, ◌-◌, ◌*◌, ℕ, List, [], ◌∷◌, ◌++◌, length, take, refl, arith}
use Rattle.std.specs.Prelude.{replicate}
use Rattle.std.specs.List.{flat_map}
use Rattle.std.proofs.lemmas.List.{take_all}
use Rattle.guest_images.specs.Composing.{unit_of, name_field}

units_length : (name : List ℕ) → length (flat_map unit_of name) ≡ 2 * length name
units_length [] = refl
units_length (b ∷ name) = let more = units_length name in omega (arith, more)

pub field_is : (name units : List ℕ) (n : ℕ) → units ≡ flat_map unit_of name → n ≡ 2 * length name → length name ≤ 36 → take 72 units ++ replicate (72 - n) 0 ≡ name_field name
field_is name units n is len few =
    rw (is, len, take_all 72 (flat_map unit_of name) (omega (arith, units_length name))) refl

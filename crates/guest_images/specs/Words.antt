-- The forms of the words.
use Rattle.std.specs.Prelude.{ℕ, List, [], ◌∷◌, length, ◌&&◌, nat_le, Option, Some, None, Result, Ok, Err, codes, if◌then◌else◌}
use Rattle.std.specs.Str.{bytes_eq}
use Rattle.text_lines.specs.declared.kinds.PlanKind.{PlanKind}
use Rattle.text_lines.specs.Values.{page_salt}

-- what the words ask for: the idsig of a file under a salt, stored under a name; a file's measure under a salt; the composite
-- disk of a list, stored under a name; or the instance image of a list, stored under a name
pub data Wish : Type 0 where
  idsig_of : List ℕ → List ℕ → List ℕ → Wish
  measure_of : List ℕ → List ℕ → Wish
  composite_of : List ℕ → List ℕ → Wish
  instance_of : List ℕ → List ℕ → Wish

-- `-` is no salt, and 2 to 64 hexadecimal digits in lower case, an even number of them, are one
abbrev pub salted : (List ℕ → Wish) → Result (List ℕ) PlanKind → Option Wish
salted wish (Ok salt) = Some (wish salt)
salted wish (Err kind) = None

-- idsig FILE SALT OUT, measure FILE SALT, composite LIST OUT where OUT has at most 250 bytes, or instance LIST OUT
abbrev pub wish_of : List (List ℕ) → Option Wish
wish_of (word ∷ file ∷ other ∷ []) =
    if bytes_eq word (codes "measure") then salted (measure_of file) (page_salt other)
    else if bytes_eq word (codes "composite") && nat_le (length other) 250 then Some (composite_of file other)
    else if bytes_eq word (codes "instance") then Some (instance_of file other)
    else None
wish_of (word ∷ file ∷ salt ∷ out ∷ []) =
    if bytes_eq word (codes "idsig") then salted (λ s. idsig_of file s out) (page_salt salt) else None
wish_of other = None

-- What a composite file says, with lists in place of what the program holds.
use Rattle.std.specs.Prelude.{◌≡◌, ℕ, ◌<◌, ◌≤◌, ◌%◌, ◌-◌, ◌^◌, Bool, List, [], ◌∷◌, ◌++◌, length, map, slice_index, Option, Some, None, string_bytes, codes, true, if◌then◌else◌}
use Rattle.std.specs.List.{AllByRecursion}
use Rattle.std.specs.Str.{is_utf8}
use Rattle.composite_spec.specs.declared.kinds.Component.{Component}
use Rattle.composite_spec.specs.declared.kinds.Spec.{Spec}

-- a component: the path of its file, where it begins on the disk, and whether it may be written
pub record Placed : Type 0 where
  pub path : List ℕ
  pub offset : ℕ
  pub write : Bool

-- the components in order, and the bytes of the disk
pub record Composite : Type 0 where
  pub components : List Placed
  pub length : ℕ

abbrev pub placed : Component → Placed
placed c = record { path = string_bytes c.path; offset = c.offset; write = c.write }

abbrev pub composite : Spec → Composite
composite s = record { components = map placed s.components.items; length = s.length }

abbrev pub offset_of : Placed → ℕ
offset_of c = c.offset

-- the number that says whether it may be written
abbrev pub capability_of : Placed → ℕ
capability_of c = if c.write then 1 else 0

-- what a composite file begins with
abbrev pub magic : List ℕ
magic = codes "composite_disk" ++ 29 ∷ []

-- a path: 1 to 255 bytes of UTF-8
pub record IsPath (path : List ℕ) : Type 0 where
  pub some : 0 < length path
  pub few : length path < 256
  pub text : is_utf8 path ≡ true

-- the first offset is 0, and each later one is above the one before it
abbrev pub Follows : Option ℕ → ℕ → Type 0
Follows None offset = offset ≡ 0
Follows (Some before) offset = before < offset

abbrev pub Rise : Option ℕ → List ℕ → Type 0
Rise before [] = Unit {0}
Rise before (offset ∷ offsets) = Follows before offset × Rise (Some offset) offsets

-- the length of a disk whose components begin so: above the last offset, whole sectors, at most 2^40 bytes
pub record IsLength (n : ℕ) (offsets : List ℕ) : Type 0 where
  pub some : 0 < length offsets
  pub beyond : slice_index offsets (length offsets - 1) < n
  pub sectors : n % 512 ≡ 0
  pub bound : n ≤ 2 ^ 40

-- a description that a composite file can give
pub record IsComposite (s : Composite) : Type 0 where
  pub paths : AllByRecursion (λ (c : Placed). IsPath c.path) s.components
  pub rise : Rise None (map offset_of s.components)
  pub few : length s.components ≤ 1024
  pub length_is : IsLength s.length (map offset_of s.components)

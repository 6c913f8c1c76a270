-- The bytes of a tape: its header, and its records one after another.
use Rattle.std.specs.Prelude.{◌≡◌, ℕ, ◌<◌, ◌≤◌, ◌^◌, List, [], ◌∷◌, ◌++◌, length, ◌⊎◌, codes}
use Rattle.std.specs.List.{flat_map, AllByRecursion}
use Rattle.std.specs.Int.{w32, w64, to_le_bytes}
use Rattle.host_traits.specs.declared.calls.TapeItem.{TapeItem}
use Rattle.host_traits.specs.declared.calls.TapeItem.TheVariants.{Failed, Done, Number, Bytes}

-- a record that a tape can have
abbrev pub IsItem : TapeItem → Type 0
IsItem Failed = Unit {0}
IsItem Done = Unit {0}
IsItem (Number n) = n < 2 ^ 64
IsItem (Bytes bytes) = length bytes ≤ 69632

-- a record: the byte of its kind; then a number's eight bytes, or four bytes of length and the bytes
unfoldable pub item_bytes : TapeItem → List ℕ
item_bytes Failed = 0 ∷ []
item_bytes Done = 1 ∷ []
item_bytes (Number n) = 2 ∷ to_le_bytes w64 n
item_bytes (Bytes bytes) = 3 ∷ (to_le_bytes w32 (length bytes) ++ bytes)

abbrev pub header : List ℕ
header = codes "guest-tape 1\n"

abbrev pub items_bytes : List TapeItem → List ℕ
items_bytes items = flat_map item_bytes items

-- a tape of these records
abbrev pub tape_bytes : List TapeItem → List ℕ
tape_bytes items = header ++ items_bytes items

-- the bytes are a tape's, and these are its records
abbrev pub IsTape : List ℕ → List TapeItem → Type 0
IsTape bytes items = AllByRecursion IsItem items × (bytes ≡ tape_bytes items)

-- no record begins the bytes, whole
abbrev pub BeginsNone : List ℕ → Type 0
BeginsNone rest = (item : TapeItem) (more : List ℕ) → IsItem item → rest ≡ item_bytes item ++ more → ⊥

-- behind these records, at this place, bytes are left that begin no whole record
pub record IsBroken (bytes : List ℕ) (at : ℕ) : Type 0 where
  pub items : List TapeItem
  pub rest : List ℕ
  pub each : AllByRecursion IsItem items
  pub front : bytes ≡ tape_bytes items ++ rest
  pub place : at ≡ length (tape_bytes items)
  pub some : 0 < length rest
  pub none : BeginsNone rest

-- the bytes are no tape: they begin with another header, or from this place on with no whole record
abbrev pub Breaks : List ℕ → ℕ → Type 0
Breaks bytes at = ((at ≡ 0) × ((rest : List ℕ) → bytes ≡ header ++ rest → ⊥)) ⊎ IsBroken bytes at

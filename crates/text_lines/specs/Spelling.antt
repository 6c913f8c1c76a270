-- How values are spelled, and texts of items: the grammar, apart from how it is read.
use Rattle.std.specs.Prelude.{◌≡◌, ℕ, ◌+◌, ◌<◌, List, [], ◌∷◌, ◌++◌, length, map, Result, Ok, codes}
use Rattle.std.specs.Fmt.{decimal}
use Rattle.std.specs.Int.{w32, to_be_bytes}
use Rattle.std.specs.List.{flat_map, AllByRecursion}
use Rattle.mg_base.specs.declared.values.Digest.{Digest}
use Rattle.hex.specs.Hex.{IsBytes, encode_lower}
use Rattle.text_lines.specs.declared.kinds.PlanKind.{PlanKind}
use Rattle.text_lines.specs.Fields.{◌>>=◌}

-- n bytes, as hexadecimal digits spell them
abbrev pub IsHexed : ℕ → List ℕ → Type 0
IsHexed n bytes = (length bytes ≡ n) × IsBytes bytes

-- at most 32 bytes
abbrev pub IsSalt : List ℕ → Type 0
IsSalt salt = (length salt < 33) × IsBytes salt

-- a further field, behind a space
infixr 10 ◌then◌
abbrev pub ◌then◌ : List ℕ → List ℕ → List ℕ
field then others = field ++ 32 ∷ others

abbrev pub salt_text : List ℕ → List ℕ
salt_text [] = codes "-"
salt_text (b ∷ bytes) = encode_lower (b ∷ bytes)

-- two numbers
abbrev pub pair_text : ℕ → ℕ → List ℕ
pair_text a b = decimal a ++ codes " " ++ decimal b

-- the eight digits of a CRC-32
abbrev pub crc_text : ℕ → List ℕ
crc_text crc = encode_lower (to_be_bytes w32 crc)

-- two digests, 64 digits each
abbrev pub digests_text : Digest → Digest → List ℕ
digests_text a b = encode_lower a.0 ++ codes " " ++ encode_lower b.0

-- a line with its line feed
abbrev pub ended : List ℕ → List ℕ
ended line = line ++ 10 ∷ []

-- a header and a line for each item
abbrev pub spelled : {I : Type 0} → List ℕ → (I → List ℕ) → List I → List ℕ
spelled header item_text items = flat_map ended (header ∷ map item_text items)

-- what items say together, the first of them on the line n
unfoldable pub collect : {I K : Type 0} → (K → ℕ → I → Result K PlanKind) → ℕ → K → List I → Result K PlanKind
collect add n k [] = Ok k
collect add n k (item ∷ items) = add k n item >>= λ later. collect add (n + 1) later items

-- a text of at most 4,095 items, each well formed, that together say k
pub record IsText {I K : Type 0} (header : List ℕ) (IsItem : I → Type 0) (item_text : I → List ℕ) (add : K → ℕ → I → Result K PlanKind) (start : K) (text : List ℕ) (k : K) : Type 0 where
  pub items : List I
  pub each : AllByRecursion IsItem items
  pub few : length items < 4096
  pub text_is : text ≡ spelled header item_text items
  pub says : collect add 2 start items ≡ Ok k

-- Names of partitions: units of UTF-16, little-endian, up to the first zero (UEFI 2.10, table 5.6).
use Rattle.std.specs.Prelude.{◌≡◌, ◌<◌, ◌≤◌, ℕ, ◌+◌, ◌-◌, Bool, true, not, ◌&&◌, List, [], ◌∷◌, Option, Some, None, ◌==◌, if◌then◌else◌}
use Rattle.std.specs.List.{flat_map}
use Rattle.std.specs.Int.{w16, from_le_bytes}
use Rattle.std.specs.Str.{bytes_eq, chars}
use Rattle.std.specs.Char.Escape.{encode_utf16}
use Rattle.mg_base.specs.declared.values.Span as spans
use Rattle.gpt.specs.declared.values.Entry.{Entry}
use Rattle.gpt.specs.Entries.{is_used}

-- the units of bytes
abbrev pub units : List ℕ → List ℕ
units [] = []
units (low ∷ []) = []
units (low ∷ high ∷ bytes) = from_le_bytes w16 (low ∷ high ∷ []) ∷ units bytes

-- those before the first zero
abbrev pub before_zero : List ℕ → List ℕ
before_zero [] = []
before_zero (unit ∷ more) = if unit == 0 then [] else unit ∷ before_zero more

-- the units of a name's field that are its name
abbrev pub name_units : List ℕ → List ℕ
name_units field = before_zero (units field)

-- the units of a text's characters
abbrev pub text_units : List ℕ → List ℕ
text_units text = flat_map encode_utf16 (chars text)

-- the entry is used, and this is its name
abbrev pub is_called : List ℕ → Entry → Bool
is_called text e = is_used e && bytes_eq (name_units e.name) (text_units text)

abbrev pub span_of : Entry → spans.Span
span_of e = record { first = e.first; sectors = e.last - e.first + 1 }

-- the span of the first entry of that name
unfoldable pub part : List ℕ → List Entry → Option spans.Span
part text [] = None
part text (e ∷ es) = if is_called text e then Some (span_of e) else part text es

-- a used entry has a sector, and ends below 2^40
pub record IsBounded (e : Entry) : Type 0 where
  pub order : e.first ≤ e.last
  pub last : e.last < 1099511627776

abbrev pub UsedIsBounded : Entry → Type 0
UsedIsBounded e = is_used e ≡ true → IsBounded e

-- ---- a name's field compared unit by unit

-- what is left behind this unit
abbrev pub after_unit : ℕ → List ℕ → Option (List ℕ)
after_unit unit [] = None
after_unit unit (low ∷ []) = None
after_unit unit (low ∷ high ∷ bytes) = if not (unit == 0) && (from_le_bytes w16 (low ∷ high ∷ []) == unit) then Some bytes else None

abbrev pub and_then : Option (List ℕ) → (List ℕ → Option (List ℕ)) → Option (List ℕ)
and_then None f = None
and_then (Some bytes) f = f bytes

-- what is left behind these units
unfoldable pub after_units : List ℕ → List ℕ → Option (List ℕ)
after_units [] field = Some field
after_units (unit ∷ more) field = and_then (after_unit unit field) (after_units more)

-- no unit of the name is left
abbrev pub is_end : List ℕ → Bool
is_end [] = true
is_end (low ∷ []) = true
is_end (low ∷ high ∷ bytes) = from_le_bytes w16 (low ∷ high ∷ []) == 0

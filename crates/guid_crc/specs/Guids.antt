-- GUIDs: sixteen bytes, their text and their form on disk.
use Rattle.std.specs.Prelude.{◌≡◌, ◌<◌, ℕ, ◌+◌, ◌-◌, ◌/◌, ◌%◌, nat_lt, List, [], ◌∷◌, ◌++◌, take, drop, reverse, length, Option, Some, None, All, if◌then◌else◌}
use Rattle.std.specs.Str.{bytes_eq}
use Rattle.mg_base.specs.declared.values.Guid as declared
use Rattle.uuid.specs.Text.{parsed}

abbrev pub Guid : Type 0
Guid = declared.Guid

-- sixteen bytes
abbrev pub IsGuid : Guid → Type 0
IsGuid g = (length g.0 ≡ 16) × All (λ b. b < 256) g.0

-- on disk the first three fields, of 4, 2 and 2 bytes, are little-endian (UEFI 2.10, appendix A)
abbrev pub disk_form : List ℕ → List ℕ
disk_form g = reverse (take 4 g) ++ reverse (take 2 (drop 4 g)) ++ reverse (take 2 (drop 6 g)) ++ drop 8 g

-- a digit of 0123456789abcdef
abbrev pub digit : ℕ → ℕ
digit d = if nat_lt d 10 then 48 + d else 97 + d - 10

-- two digits a byte, its high half first
abbrev pub digits : List ℕ → List ℕ
digits [] = []
digits (b ∷ bytes) = digit (b / 16 % 16) ∷ digit (b % 16) ∷ digits bytes

abbrev pub hyphen : ℕ
hyphen = 45

-- the text of a GUID's bytes: fields of 4, 2, 2, 2 and 6 bytes, joined by hyphens (RFC 4122, section 3)
abbrev pub guid_text : List ℕ → List ℕ
guid_text g =
    digits (take 4 g) ++ hyphen ∷ digits (take 2 (drop 4 g)) ++ hyphen ∷ digits (take 2 (drop 6 g))
    ++ hyphen ∷ digits (take 2 (drop 8 g)) ++ hyphen ∷ digits (drop 10 g)

-- the bytes as a GUID, where this is their text
abbrev pub guid_spelled : List ℕ → Option (List ℕ) → Option Guid
guid_spelled text None = None
guid_spelled text (Some bytes) = if bytes_eq (guid_text bytes) text then Some (record { 0 = bytes }) else None

-- the GUID of a text
unfoldable pub guid_of : List ℕ → Option Guid
guid_of text = guid_spelled text (parsed text)

-- The values that fields spell. Form is tested before range.
use Rattle.std.specs.Prelude.{ℕ, ◌/◌, List, [], length, slice_index, Bool, not, ◌&&◌, ◌||◌, Result, Ok, Err, ◌==◌, nat_lt, if◌then◌else◌, codes}
use Rattle.std.specs.List.{list_all}
use Rattle.std.specs.Str.{bytes_eq, all_ascii_digits}
use Rattle.std.specs.Str.Parse.{digits_value}
use Rattle.hex.specs.declared.error.FromHexError.{FromHexError}
use Rattle.hex.specs.Hex.{decode_sized, encode_lower}
use Rattle.text_lines.specs.declared.kinds.PlanKind.{PlanKind}
use Rattle.text_lines.specs.declared.kinds.PlanKind.TheVariants as kinds
use Rattle.text_lines.specs.Fields.{◌>>=◌}

abbrev pub check : {A : Type 0} → Bool → PlanKind → A → Result A PlanKind
check holds kind x = if holds then Ok x else Err kind

-- digits, without a leading zero but for 0 itself
abbrev pub is_number : List ℕ → Bool
is_number text = all_ascii_digits text && nat_lt 0 (length text) && (not (slice_index text 0 == 48) || (length text == 1))

unfoldable pub number_in : ℕ → ℕ → List ℕ → Result ℕ PlanKind
number_in low limit text = do
  n ← check (is_number text) kinds.Number (digits_value 10 text)
  check (not (nat_lt n low) && nat_lt n limit) kinds.Range n

-- the digits of n bytes, in lower case
abbrev pub again_from : List ℕ → Result (List ℕ) FromHexError → Result (List ℕ) PlanKind
again_from text (Ok bytes) = check (bytes_eq (encode_lower bytes) text) kinds.Hex bytes
again_from text (Err e) = Err kinds.Hex

unfoldable pub hex_of : ℕ → List ℕ → Result (List ℕ) PlanKind
hex_of n text = again_from text (decode_sized text n)

-- `-` for none, or the digits of 1 to 32 bytes
unfoldable pub page_salt : List ℕ → Result (List ℕ) PlanKind
page_salt text =
    if bytes_eq text (codes "-") then Ok []
    else if nat_lt 1 (length text) && nat_lt (length text) 65 then hex_of (length text / 2) text
    else Err kinds.Hex

-- 0x21 to 0x7E
abbrev pub is_printed : ℕ → Bool
is_printed b = nat_lt 32 b && nat_lt b 127

-- these without `/`
abbrev pub is_name_byte : ℕ → Bool
is_name_byte b = is_printed b && not (b == 47)

-- a name of a directory's entry: 1 to 255 such bytes, and neither `.` nor `..`
abbrev pub is_name : List ℕ → Bool
is_name text = nat_lt 0 (length text) && nat_lt (length text) 256 && list_all is_name_byte text && not (bytes_eq text (codes ".")) && not (bytes_eq text (codes ".."))

unfoldable pub name_of : List ℕ → Result (List ℕ) PlanKind
name_of text = check (is_name text) kinds.Name text

-- a name of a partition: 1 to 36 such bytes
abbrev pub is_part : List ℕ → Bool
is_part text = nat_lt 0 (length text) && nat_lt (length text) 37 && list_all is_name_byte text

unfoldable pub part_of : List ℕ → Result (List ℕ) PlanKind
part_of text = check (is_part text) kinds.Name text

-- a name of a file in the folder: 1 to 255 printed bytes
abbrev pub is_folder_name : List ℕ → Bool
is_folder_name text = nat_lt 0 (length text) && nat_lt (length text) 256 && list_all is_printed text

unfoldable pub folder_name_of : List ℕ → Result (List ℕ) PlanKind
folder_name_of text = check (is_folder_name text) kinds.Name text

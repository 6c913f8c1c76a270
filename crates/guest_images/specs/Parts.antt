-- Lists of parts: the grammar of a list, and what a text of it says, or the first bad line with the first thing wrong with it.
use Rattle.std.specs.Prelude.{◌≡◌, ◌<◌, ℕ, List, [], Bool, true, false, length, nat_lt, Result, Ok, Err, if◌then◌else◌, codes}
use Rattle.std.specs.Str.{bytes_eq}
use Rattle.text_lines.specs.declared.kinds.PlanKind.{PlanKind}
use Rattle.text_lines.specs.declared.kinds.PlanKind.TheVariants as kinds
use Rattle.text_lines.specs.Fields.{◌>>=◌, first_field, four_fields}
use Rattle.text_lines.specs.Values.{is_name, is_folder_name, name_of, folder_name_of}
use Rattle.text_lines.specs.Lists.{add_apart, list_of}
use Rattle.text_lines.specs.Spelling.{◌then◌, IsText}
use Rattle.guest_images.specs.declared.parts.PartLine.{PartLine}

-- ---- a line

-- a name of a directory's entry that a partition table has room for, and a name of a file in the folder
pub record IsPartLine (p : PartLine) : Type 0 where
  pub name : is_name p.name ≡ true
  pub short : length p.name < 37
  pub file : is_folder_name p.file ≡ true

abbrev pub mode_text : Bool → List ℕ
mode_text false = codes "ro"
mode_text true = codes "rw"

abbrev pub part_text : PartLine → List ℕ
part_text p = codes "part" then p.name then mode_text p.write then p.file

-- ---- reading a line

unfoldable pub part_name_of : List ℕ → Result (List ℕ) PlanKind
part_name_of text = if nat_lt 36 (length text) then Err kinds.Name else name_of text

unfoldable pub mode_of : List ℕ → Result Bool PlanKind
mode_of text = if bytes_eq text (codes "ro") then Ok false else if bytes_eq text (codes "rw") then Ok true else Err kinds.Word

abbrev pub made_line : List ℕ → Bool → List ℕ → PartLine
made_line name write file = record { name = name; write = write; file = file }

unfoldable pub part_fields_of : List ℕ → Result PartLine PlanKind
part_fields_of line = do
  f ← four_fields line
  name ← part_name_of f.1
  write ← mode_of f.2
  file ← folder_name_of f.3
  Ok (made_line name write file)

unfoldable pub part_line_of : List ℕ → Result PartLine PlanKind
part_line_of line = if bytes_eq (first_field line) (codes "part") then part_fields_of line else Err kinds.Word

-- ---- lines together

-- two lines that may not stand in one list: each name stands once
abbrev pub same_name : PartLine → PartLine → Bool
same_name a b = bytes_eq a.name b.name

abbrev pub parts_header : List ℕ
parts_header = codes "parts 1"

-- what a text says, or the first bad line with the first thing wrong with it
abbrev pub parts_of : List ℕ → Result (List PartLine) (ℕ × PlanKind)
parts_of bytes = list_of parts_header part_line_of same_name bytes

-- the text is a list of parts, and has these lines
abbrev pub IsParts : List ℕ → List PartLine → Type 0
IsParts text parts = IsText parts_header IsPartLine part_text (add_apart same_name) [] text parts

-- What a line of a store list says, or the first thing wrong with it.
use Rattle.std.specs.Prelude.{ℕ, List, Result, Ok, Err, if◌then◌else◌, codes}
use Rattle.std.specs.Str.{bytes_eq}
use Rattle.text_lines.specs.declared.kinds.PlanKind.{PlanKind}
use Rattle.text_lines.specs.declared.kinds.PlanKind.TheVariants as kinds
use Rattle.text_lines.specs.Fields.{◌>>=◌, first_field, two_fields, three_fields, four_fields}
use Rattle.text_lines.specs.Values.{page_salt, folder_name_of}
use Rattle.guest_plan.specs.declared.store.StoreLine.{StoreLine}
use Rattle.guest_plan.specs.declared.store.StoreLine.TheVariants as stored
use Rattle.guest_plan.specs.Items.{host_number}

-- a number and the name of a file in the folder
unfoldable pub numbered_of : List ℕ → List ℕ → Result (ℕ × List ℕ) PlanKind
numbered_of number name = do
  n ← host_number number
  file ← folder_name_of name
  Ok (n, file)

-- the same behind the word of a line
unfoldable pub numbered_line_of : List ℕ → Result (ℕ × List ℕ) PlanKind
numbered_line_of line = do
  f ← three_fields line
  numbered_of f.1 f.2

unfoldable pub disk_of : List ℕ → Result StoreLine PlanKind
disk_of line = do
  l ← numbered_line_of line
  Ok (stored.Disk l.0 l.1)

unfoldable pub composite_of : List ℕ → Result StoreLine PlanKind
composite_of line = do
  l ← numbered_line_of line
  Ok (stored.Composite l.0 l.1)

unfoldable pub verity_of : List ℕ → Result StoreLine PlanKind
verity_of line = do
  f ← four_fields line
  l ← numbered_of f.1 f.2
  salt ← page_salt f.3
  Ok (stored.Verity l.0 l.1 salt)

unfoldable pub empty_of : List ℕ → Result StoreLine PlanKind
empty_of line = do
  f ← two_fields line
  n ← host_number f.1
  Ok (stored.Empty n)

unfoldable pub dir_of : List ℕ → Result StoreLine PlanKind
dir_of line = do
  f ← two_fields line
  n ← host_number f.1
  Ok (stored.Dir n)

unfoldable pub keep_disk_of : List ℕ → List ℕ → Result StoreLine PlanKind
keep_disk_of number name = do
  l ← numbered_of number name
  Ok (stored.KeepDisk l.0 l.1)

unfoldable pub keep_file_of : List ℕ → List ℕ → Result StoreLine PlanKind
keep_file_of number name = do
  l ← numbered_of number name
  Ok (stored.KeepFile l.0 l.1)

-- the first of the fields says what is kept
unfoldable pub keep_by : (List ℕ × List ℕ × List ℕ × List ℕ) → Result StoreLine PlanKind
keep_by f =
    if bytes_eq f.1 (codes "disk") then keep_disk_of f.2 f.3
    else if bytes_eq f.1 (codes "file") then keep_file_of f.2 f.3
    else Err kinds.Word

unfoldable pub keep_of : List ℕ → Result StoreLine PlanKind
keep_of line = do
  f ← four_fields line
  keep_by f

unfoldable pub store_line_of : List ℕ → Result StoreLine PlanKind
store_line_of line =
    if bytes_eq (first_field line) (codes "disk") then disk_of line
    else if bytes_eq (first_field line) (codes "composite") then composite_of line
    else if bytes_eq (first_field line) (codes "verity") then verity_of line
    else if bytes_eq (first_field line) (codes "empty") then empty_of line
    else if bytes_eq (first_field line) (codes "dir") then dir_of line
    else if bytes_eq (first_field line) (codes "keep") then keep_of line
    else Err kinds.Word

-- What a line of a plan says, or the first thing wrong with it.
use Rattle.std.specs.Prelude.{ℕ, List, Option, Some, None, Result, Ok, Err, if◌then◌else◌, codes}
use Rattle.std.specs.Str.{bytes_eq}
use Rattle.mg_base.specs.declared.values.Guid.{Guid}
use Rattle.sha_tree.specs.declared.measure.Measure.{Measure}
use Rattle.guid_crc.specs.Guids.{guid_of}
use Rattle.text_lines.specs.declared.kinds.PlanKind.{PlanKind}
use Rattle.text_lines.specs.declared.kinds.PlanKind.TheVariants as kinds
use Rattle.text_lines.specs.Fields.{◌>>=◌, first_field, field, last_field, two_fields, three_fields, four_fields, five_fields}
use Rattle.text_lines.specs.Values.{number_in, hex_of, page_salt, name_of, part_of}
use Rattle.guest_plan.specs.declared.plan.How.TheVariants.{Fixed, First, Kept}
use Rattle.guest_plan.specs.declared.plan.PlanLine.TheVariants as planned
use Rattle.guest_plan.specs.declared.plan.Item.{Item}
use Rattle.guest_plan.specs.declared.plan.Item.TheVariants.{Secret, InstanceSalt, Line}

-- files, directories and disks are numbered below 2^31
abbrev pub host_number : List ℕ → Result ℕ PlanKind
host_number text = number_in 0 2147483648 text

abbrev pub guid_from : Option Guid → Result Guid PlanKind
guid_from None = Err kinds.Uuid
guid_from (Some g) = Ok g

-- a UUID: 36 characters, hyphenated, in lower case
unfoldable pub uuid_of : List ℕ → Result Guid PlanKind
uuid_of text = guid_from (guid_of text)

-- a measure, of the fields of its blocks, salt and root
unfoldable pub measure_of : List ℕ → List ℕ → List ℕ → Result Measure PlanKind
measure_of blocks_text salt_text root_text = do
  blocks ← number_in 2 1048577 blocks_text
  salt ← page_salt salt_text
  root ← hex_of 32 root_text
  Ok (record { blocks = blocks; salt = salt; root = record { 0 = root } })

-- a measure, of the text of its three fields
unfoldable pub measure_in : List ℕ → Result Measure PlanKind
measure_in text = do
  f ← three_fields text
  measure_of f.0 f.1 f.2

unfoldable pub secret_of : List ℕ → Result Item PlanKind
secret_of line = do
  f ← two_fields line
  bytes ← hex_of 32 f.1
  Ok (Secret bytes)

unfoldable pub instance_salt_of : List ℕ → Result Item PlanKind
instance_salt_of line = do
  f ← two_fields line
  bytes ← hex_of 64 f.1
  Ok (InstanceSalt bytes)

unfoldable pub instance_of : List ℕ → Result Item PlanKind
instance_of line = do
  f ← three_fields line
  disk ← host_number f.1
  part ← part_of f.2
  Ok (Line (planned.Instance disk part))

unfoldable pub blob_of : List ℕ → Result Item PlanKind
blob_of line = do
  f ← five_fields line
  file ← host_number f.1
  measure ← measure_of f.2 f.3 f.4
  Ok (Line (planned.Blob file measure))

unfoldable pub file_of : List ℕ → Result Item PlanKind
file_of line = do
  f ← four_fields line
  name ← name_of f.1
  file ← host_number f.2
  digest ← hex_of 32 f.3
  Ok (Line (planned.File name file (record { 0 = digest })))

-- a name and a file's number
unfoldable pub named_file_of : List ℕ → Result (List ℕ × ℕ) PlanKind
named_file_of line = do
  f ← three_fields line
  name ← name_of f.1
  file ← host_number f.2
  Ok (name, file)

unfoldable pub write_of : List ℕ → Result Item PlanKind
write_of line = do
  f ← named_file_of line
  Ok (Line (planned.Write f.0 f.1))

unfoldable pub writedir_of : List ℕ → Result Item PlanKind
writedir_of line = do
  f ← named_file_of line
  Ok (Line (planned.WriteDir f.0 f.1))

-- ---- an APK device: four fields and what stands behind them decide how it is measured

-- the first four fields of a line, and what stands behind the fourth
unfoldable pub apk_fields : List ℕ → Result (List ℕ × List ℕ × List ℕ × List ℕ) PlanKind
apk_fields line = do
  word ← field line
  disk ← field word.1
  apk ← field disk.1
  idsig ← field apk.1
  Ok (disk.0, apk.0, idsig.0, idsig.1)

-- the disk and the two partitions
unfoldable pub places_of : List ℕ → List ℕ → List ℕ → Result (ℕ × List ℕ × List ℕ) PlanKind
places_of disk_text apk_text idsig_text = do
  disk ← host_number disk_text
  apk ← part_of apk_text
  idsig ← part_of idsig_text
  Ok (disk, apk, idsig)

unfoldable pub apk_fixed_of : (List ℕ × List ℕ × List ℕ × List ℕ) → Result Item PlanKind
apk_fixed_of f = do
  g ← four_fields f.3
  p ← places_of f.0 f.1 f.2
  measure ← measure_of g.1 g.2 g.3
  Ok (Line (planned.Apk p.0 p.1 p.2 (Fixed measure)))

unfoldable pub apk_first_of : (List ℕ × List ℕ × List ℕ × List ℕ) → Result Item PlanKind
apk_first_of f = do
  g ← last_field f.3
  p ← places_of f.0 f.1 f.2
  Ok (Line (planned.Apk p.0 p.1 p.2 First))

unfoldable pub apk_kept_of : (List ℕ × List ℕ × List ℕ × List ℕ) → Result Item PlanKind
apk_kept_of f = do
  g ← two_fields f.3
  p ← places_of f.0 f.1 f.2
  guid ← uuid_of g.1
  Ok (Line (planned.Apk p.0 p.1 p.2 (Kept guid)))

unfoldable pub apk_by : (List ℕ × List ℕ × List ℕ × List ℕ) → Result Item PlanKind
apk_by f =
    if bytes_eq (first_field f.3) (codes "fixed") then apk_fixed_of f
    else if bytes_eq (first_field f.3) (codes "first") then apk_first_of f
    else if bytes_eq (first_field f.3) (codes "record") then apk_kept_of f
    else Err kinds.Word

unfoldable pub apk_of : List ℕ → Result Item PlanKind
apk_of line = do
  f ← apk_fields line
  apk_by f

-- ---- a line

unfoldable pub item_of : List ℕ → Result Item PlanKind
item_of line =
    if bytes_eq (first_field line) (codes "secret") then secret_of line
    else if bytes_eq (first_field line) (codes "salt") then instance_salt_of line
    else if bytes_eq (first_field line) (codes "instance") then instance_of line
    else if bytes_eq (first_field line) (codes "blob") then blob_of line
    else if bytes_eq (first_field line) (codes "apk") then apk_of line
    else if bytes_eq (first_field line) (codes "file") then file_of line
    else if bytes_eq (first_field line) (codes "write") then write_of line
    else if bytes_eq (first_field line) (codes "writedir") then writedir_of line
    else Err kinds.Word

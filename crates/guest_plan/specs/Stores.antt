-- What the lines of a store list say together: its grammar, and what a text of it says.
use Rattle.std.specs.Prelude.{◌≡◌, ℕ, ◌+◌, ◌<◌, List, [], ◌∷◌, Bool, true, false, not, ◌||◌, Option, Some, None, Result, Ok, Err, if◌then◌else◌, codes}
use Rattle.std.specs.List.{list_any}
use Rattle.std.specs.Fmt.{decimal}
use Rattle.text_lines.specs.declared.kinds.PlanKind.{PlanKind}
use Rattle.text_lines.specs.declared.kinds.PlanFault.{PlanFault}
use Rattle.text_lines.specs.Values.{is_folder_name}
use Rattle.text_lines.specs.Lines.{Refuses}
use Rattle.text_lines.specs.Lists.{add_apart, completed, list_of}
use Rattle.text_lines.specs.Spelling.{IsSalt, ◌then◌, salt_text, IsText}
use Rattle.guest_plan.specs.declared.store.StoreLine.{StoreLine}
use Rattle.guest_plan.specs.declared.store.StoreLine.TheVariants as stored
use Rattle.guest_plan.specs.declared.store.Store.{Store}
use Rattle.guest_plan.specs.Plans.{same_file}
use Rattle.guest_plan.specs.StoreItems.{store_line_of}

-- ---- a line

abbrev pub IsStoreLine : StoreLine → Type 0
IsStoreLine (stored.Disk n file) = (n < 2147483648) × (is_folder_name file ≡ true)
IsStoreLine (stored.Composite n file) = (n < 2147483648) × (is_folder_name file ≡ true)
IsStoreLine (stored.Verity n file salt) = (n < 2147483648) × (is_folder_name file ≡ true) × IsSalt salt
IsStoreLine (stored.Empty n) = n < 2147483648
IsStoreLine (stored.Dir n) = n < 2147483648
IsStoreLine (stored.KeepDisk n file) = (n < 2147483648) × (is_folder_name file ≡ true)
IsStoreLine (stored.KeepFile n file) = (n < 2147483648) × (is_folder_name file ≡ true)

abbrev pub store_text : StoreLine → List ℕ
store_text (stored.Disk n file) = codes "disk" then decimal n then file
store_text (stored.Composite n file) = codes "composite" then decimal n then file
store_text (stored.Verity n file salt) = codes "verity" then decimal n then file then salt_text salt
store_text (stored.Empty n) = codes "empty" then decimal n
store_text (stored.Dir n) = codes "dir" then decimal n
store_text (stored.KeepDisk n file) = codes "keep" then codes "disk" then decimal n then file
store_text (stored.KeepFile n file) = codes "keep" then codes "file" then decimal n then file

-- ---- what may stand once

-- the number of a disk that a line adds
abbrev pub disk_in : StoreLine → Option ℕ
disk_in (stored.Disk n file) = Some n
disk_in (stored.Composite n file) = Some n
disk_in line = None

-- the number of a file or a directory that a line adds
abbrev pub node_in : StoreLine → Option ℕ
node_in (stored.Verity n file salt) = Some n
node_in (stored.Empty n) = Some n
node_in (stored.Dir n) = Some n
node_in line = None

-- the number of a file that a line adds
abbrev pub stored_in : StoreLine → Option ℕ
stored_in (stored.Verity n file salt) = Some n
stored_in (stored.Empty n) = Some n
stored_in line = None

-- two lines that may not stand in one list
abbrev pub store_clash : StoreLine → StoreLine → Bool
store_clash a b = same_file (disk_in a) (disk_in b) || same_file (node_in a) (node_in b)

-- ---- what a line needs

-- the number of a disk, and of a file, that is kept
abbrev pub kept_disk : StoreLine → Option ℕ
kept_disk (stored.KeepDisk n file) = Some n
kept_disk line = None

abbrev pub kept_file : StoreLine → Option ℕ
kept_file (stored.KeepFile n file) = Some n
kept_file line = None

-- the line adds what the other one keeps
abbrev pub adds_kept : StoreLine → StoreLine → Bool
adds_kept keep l = same_file (kept_disk keep) (disk_in l) || same_file (kept_file keep) (stored_in l)

abbrev pub is_keep : StoreLine → Bool
is_keep (stored.KeepDisk n file) = true
is_keep (stored.KeepFile n file) = true
is_keep line = false

-- a kept disk or file that no line adds
abbrev pub store_lacks : List StoreLine → StoreLine → Bool
store_lacks lines l = if is_keep l then not (list_any (adds_kept l) lines) else false

-- the number of the first line that lacks something, the first of these being n
abbrev pub first_lacking_in : List StoreLine → List StoreLine → ℕ → Option ℕ
first_lacking_in all [] n = None
first_lacking_in all (l ∷ lines) n = if store_lacks all l then Some n else first_lacking_in all lines (n + 1)

abbrev pub store_missing : List StoreLine → Option ℕ
store_missing lines = first_lacking_in lines lines 2

-- ---- the whole text

abbrev pub store_header : List ℕ
store_header = codes "store 1"

-- what a text says, or the first bad line with the first thing wrong with it
abbrev pub store_of : List ℕ → Result (List StoreLine) (ℕ × PlanKind)
store_of bytes = completed store_missing (list_of store_header store_line_of store_clash bytes)

-- the text is a store list's, and has these lines
pub record IsStore (text : List ℕ) (lines : List StoreLine) : Type 0 where
  pub items : IsText store_header IsStoreLine store_text (add_apart store_clash) [] text lines
  pub complete : store_missing lines ≡ None

-- what `read_store` returned, unless memory ran out
abbrev pub TellsStore : Result Store PlanFault → Result (List StoreLine) (ℕ × PlanKind) → Type 0
TellsStore (Ok s) read = read ≡ Ok s.lines.items
TellsStore (Err fault) read = Refuses fault read

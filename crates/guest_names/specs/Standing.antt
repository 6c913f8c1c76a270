-- The server that stands after boot, as a function of the plan's lines and of the read-only files that were opened for them.
use Rattle.std.specs.Prelude.{ℕ, false, List, [], ◌∷◌, length, Option, Some, None, ◌==◌, if◌then◌else◌}
use Rattle.std.specs.Ordering.{nat_cmp}
use Rattle.std.specs.BTreeMap.{insert_entry}
use Rattle.mg_base.specs.declared.values.Digest.{Digest}
use Rattle.ro_file.specs.Files.{MeasuredFile}
use Rattle.authfs_dirs.specs.declared.kind.Kind.{Kind}
use Rattle.authfs_dirs.specs.declared.kind.Kind.TheVariants.{ReadOnly, Writable}
use Rattle.authfs_dirs.specs.Names.{Names, at_first, planted}
use Rattle.fuse_server.specs.State.{State, Files, Writables, empty_file}
use Rattle.guest_plan.specs.declared.plan.PlanLine.{PlanLine}
use Rattle.guest_plan.specs.declared.plan.PlanLine.TheVariants as line

-- a file that a plan names: its name in the root directory, its number, and its digest, unless it is written
pub record NamedFile : Type 0 where
  pub name : List ℕ
  pub number : ℕ
  pub digest : Option Digest

abbrev pub kind_by : ℕ → Option Digest → Kind
kind_by number None = Writable number
kind_by number (Some digest) = ReadOnly number

-- what its node is
abbrev pub kind_of : NamedFile → Kind
kind_of f = kind_by f.number f.digest

-- The file that a line names. A device and an instance have no name; and a directory that is written is not planted yet.
abbrev pub file_in : PlanLine → Option NamedFile
file_in (line.File name file digest) = Some (record { name = name; number = file; digest = Some digest })
file_in (line.Instance disk part) = None
file_in (line.Blob file measure) = None
file_in (line.Apk disk apk idsig how) = None
file_in (line.Write name file) = Some (record { name = name; number = file; digest = None })
file_in (line.WriteDir name file) = None

abbrev pub and_files : Option NamedFile → List NamedFile → List NamedFile
and_files None files = files
and_files (Some f) files = f ∷ files

-- the files that lines name, in their order
abbrev pub files_in : List PlanLine → List NamedFile
files_in [] = []
files_in (l ∷ lines) = and_files (file_in l) (files_in lines)

abbrev pub file_count : List PlanLine → ℕ
file_count lines = length (files_in lines)

-- one name after another in the root, each that of a new node
abbrev pub all_planted : Names → List NamedFile → Names
all_planted names [] = names
all_planted names (f ∷ files) = all_planted (planted names f.name (kind_of f)) files

abbrev pub read_if : NamedFile → Option Digest → List NamedFile → List NamedFile
read_if f None files = files
read_if f (Some digest) files = f ∷ files

-- those of some files that are only read
abbrev pub read_only : List NamedFile → List NamedFile
read_only [] = []
read_only (f ∷ files) = read_if f f.digest (read_only files)

-- how many read-only files the lines name: as many are opened
abbrev pub read_count : List PlanLine → ℕ
read_count lines = length (read_only (files_in lines))

abbrev pub emptied_by : Writables → ℕ → Option Digest → Writables
emptied_by files number None = insert_entry nat_cmp files number (empty_file number)
emptied_by files number (Some digest) = files

-- those of some files that are written, each empty, at its number
abbrev pub all_emptied : Writables → List NamedFile → Writables
all_emptied standing [] = standing
all_emptied standing (f ∷ files) = all_emptied (emptied_by standing f.number f.digest) files

-- one opened file after another, each at the number of the file that the plan names
abbrev pub all_standing : Files → List NamedFile → List MeasuredFile → Files
all_standing standing [] opened = standing
all_standing standing (f ∷ files) [] = standing
all_standing standing (f ∷ files) (o ∷ opened) = all_standing (insert_entry nat_cmp standing f.number o) files opened

-- the names and nodes: the root, and below it a node for each file that the lines name
abbrev pub names_at_boot : List PlanLine → Names
names_at_boot lines = all_planted at_first (files_in lines)

-- the read-only files by their numbers
abbrev pub files_at_boot : List PlanLine → List MeasuredFile → Files
files_at_boot lines opened = all_standing [] (read_only (files_in lines)) opened

-- the writable files by their numbers, each empty
abbrev pub writables_at_boot : List PlanLine → Writables
writables_at_boot lines = all_emptied [] (files_in lines)

-- the server: not initialised, without handles
abbrev pub at_boot : List PlanLine → List MeasuredFile → State
at_boot lines opened = record {
  ready = false;
  names = names_at_boot lines;
  open_handles = [];
  given = 0;
  files = files_at_boot lines opened;
  writables = writables_at_boot lines;
}

abbrev pub digest_among : List NamedFile → ℕ → Option Digest
digest_among [] number = None
digest_among (f ∷ files) number = if f.number == number then f.digest else digest_among files number

-- the digest of the first `file` line with this number
abbrev pub digest_in : List PlanLine → ℕ → Option Digest
digest_in lines number = digest_among (read_only (files_in lines)) number

-- What holds of the server that stands after boot: how its files were opened, which names are found, and that it is such as
-- the laws of what it answers ask.
use Rattle.std.specs.Prelude.{◌≡◌, ◌+◌, ℕ, List, ◌∷◌, ◌++◌, length, Option, Some, Ok}
use Rattle.mg_base.specs.declared.values.Digest.{Digest}
use Rattle.host_traits.specs.Told.{Exchanges}
use Rattle.ro_file.specs.Files.{MeasuredFile, IsReadable}
use Rattle.ro_file.specs.Opening.{WasOpened}
use Rattle.authfs_dirs.specs.Names.{kind_at, lookup_check}
use Rattle.authfs_dirs.specs.Tree.{IsSoundTree}
use Rattle.fuse_server.specs.State.{State, WritableFile, file_at, writable_at, empty_file}
use Rattle.fuse_server.specs.Serving.{AreServed, AreNumbered}
use Rattle.fuse_server.specs.Ties.{AreTied}
use Rattle.guest_plan.specs.declared.plan.PlanLine.{PlanLine}
use Rattle.guest_plan.specs.Plans.{Known}
use Rattle.guest_plan.specs.Spelling.{IsPlan}
use Rattle.guest_boot.specs.Booting.{Booted, Means, means_of, PlanBoots}
use Rattle.guest_names.specs.Standing.{NamedFile, kind_of, file_in, file_count, read_count, names_at_boot, files_at_boot, writables_at_boot, at_boot, digest_in}

-- ---- the files

-- a file that stands at a number is the host's of that number, opened by the digest of the plan's line, by an answer that was heard
pub record IsPlannedFile (lines : List PlanLine) (heard : Exchanges) (number : ℕ) (f : MeasuredFile) : Type 0 where
  pub number_is : f.file ≡ number
  pub digest : Digest
  pub planned : digest_in lines number ≡ Some digest
  pub digest_is : f.digest ≡ digest
  pub opened : WasOpened number digest heard f
  pub readable : IsReadable f

-- Law: boot opens one file for each line that names a read-only one.
abbrev pub FilesAreCounted : Type 0
FilesAreCounted = (means : Means) (lines : List PlanLine) (own : Exchanges) (booted : Booted) → PlanBoots means lines own booted → length booted.files ≡ read_count lines

-- Law: each file that stands after boot is such.
abbrev pub FilesAreOpened : Type 0
FilesAreOpened = (text : List ℕ) (plan : Known) (entropy : List ℕ) (own : Exchanges) (booted : Booted) → IsPlan text plan → PlanBoots (means_of plan entropy) plan.lines own booted →
    (number : ℕ) (f : MeasuredFile) → file_at (files_at_boot plan.lines booted.files) number ≡ Some f → IsPlannedFile plan.lines own number f

-- Law: each writable file that stands after boot is empty, and stands at its number.
abbrev pub WritablesAreEmpty : Type 0
WritablesAreEmpty = (lines : List PlanLine) (number : ℕ) (f : WritableFile) → writable_at (writables_at_boot lines) number ≡ Some f → f ≡ empty_file number

-- ---- the names

-- a line that names this file stands among the lines, behind these
pub record IsFileLine (lines before : List PlanLine) (f : NamedFile) : Type 0 where
  pub line : PlanLine
  pub after : List PlanLine
  pub lines_are : lines ≡ before ++ line ∷ after
  pub file : file_in line ≡ Some f

-- Law: each planned name is found in the root: the first one is that of node 2, the next one of node 3, and so on, a file with the
-- line's number, read-only or writable.
abbrev pub NamesAreFound : Type 0
NamesAreFound = (text : List ℕ) (plan : Known) → IsPlan text plan → (before : List PlanLine) (f : NamedFile) → IsFileLine plan.lines before f →
    (lookup_check (names_at_boot plan.lines).nodes 1 f.name ≡ Ok (file_count before + 2)) × (kind_at (names_at_boot plan.lines) (file_count before + 2) ≡ Some (kind_of f))

-- a name is that of a file which a line names
pub record IsPlannedName (lines : List PlanLine) (name : List ℕ) : Type 0 where
  pub before : List PlanLine
  pub file : NamedFile
  pub is : IsFileLine lines before file
  pub name_is : file.name ≡ name

-- Law: no other name is found.
abbrev pub NoOtherName : Type 0
NoOtherName = (lines : List PlanLine) (name : List ℕ) (node : ℕ) → lookup_check (names_at_boot lines).nodes 1 name ≡ Ok node → IsPlannedName lines name

-- ---- the state

-- Each node is a directory that the host doesn't have or a file that is there; writable files stand at their numbers; handles and
-- nodes are tied; the tree of names is sound.
pub record StandsSound (s : State) : Type 0 where
  pub served : AreServed s
  pub numbered : AreNumbered s.writables
  pub tied : AreTied s
  pub sound : IsSoundTree s.names

-- Law: the server that stands after boot is such, where one file was opened for each line that names a read-only one.
abbrev pub BootsSound : Type 0
BootsSound = (text : List ℕ) (plan : Known) (opened : List MeasuredFile) → IsPlan text plan → length opened ≡ read_count plan.lines → StandsSound (at_boot plan.lines opened)

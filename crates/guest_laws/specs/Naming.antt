-- What a run leaves of the names and files that a plan gives.
use Rattle.std.specs.Prelude.{◌≡◌, ◌+◌, ℕ, List, [], ◌∷◌, Some, None, Ok}
use Rattle.host_traits.specs.Told.{Told, Exchanges}
use Rattle.ro_file.specs.Files.{MeasuredFile}
use Rattle.authfs_dirs.specs.Names.{kind_at, lookup_check}
use Rattle.authfs_dirs.specs.Dirents.{Dirent, dot, dot_dot, above, whole, listing}
use Rattle.fuse_server.specs.State.{State as Fuse}
use Rattle.guest_plan.specs.declared.plan.PlanLine.{PlanLine}
use Rattle.guest_plan.specs.Plans.{Known}
use Rattle.guest_plan.specs.Spelling.{IsPlan}
use Rattle.instance_image.specs.Sealings.{Sealing}
use Rattle.guest_names.specs.Standing.{NamedFile, kind_of, files_in, file_count, files_at_boot}
use Rattle.guest_names.specs.Promises.{IsFileLine, IsPlannedName}
use Rattle.guest_rules.specs.Machine.{Setting, World, Moment, moment, Turn}
use Rattle.guest_rules.specs.Run.{Run}
use Rattle.guest_cli.specs.Booted.{Opened, Opens, first_state}

-- the entries of files, from a cookie and a node on
abbrev pub file_dirents : ℕ → ℕ → List NamedFile → List Dirent
file_dirents cookie node [] = []
file_dirents cookie node (f ∷ files) = record { node = node; cookie = cookie; kind = 8; name = f.name } ∷ file_dirents (cookie + 1) (node + 1) files

-- the entries of the root: `.`, `..`, and the files in the order of their lines
abbrev pub root_dirents : List PlanLine → List Dirent
root_dirents lines = dot 1 ∷ dot_dot 1 None ∷ file_dirents 3 2 (files_in lines)

-- In the root the first planned name is that of node 2, the next one of node 3, and so on, each a read-only or a writable file with
-- its line's number; no other name is found; the root lists these names, and no others; and the read-only files are those that boot
-- opened.
pub record IsAsPlanned (lines : List PlanLine) (opened : List MeasuredFile) (s : Fuse) : Type 0 where
  pub names : (before : List PlanLine) (f : NamedFile) → IsFileLine lines before f
      → (lookup_check s.names.nodes 1 f.name ≡ Ok (file_count before + 2)) × (kind_at s.names (file_count before + 2) ≡ Some (kind_of f))
  pub others : (name : List ℕ) (node : ℕ) → lookup_check s.names.nodes 1 name ≡ Ok node → IsPlannedName lines name
  pub listed : (cookie size : ℕ) → listing s.names.nodes 1 cookie size ≡ whole size (above cookie (root_dirents lines))
  pub files : s.files ≡ files_at_boot lines opened

-- Law: they are so behind each run from the state after boot, whatever was asked and whatever the host answered.
abbrev pub NamesStay : Type 0
NamesStay = (text : List ℕ) (plan : Known) (own : Exchanges) (o : Opened) (entropy : List ℕ)
    (g : Setting) (world : World) (told : Told) (heard : Exchanges) (sealings : List Sealing) (turns : List Turn) (new : Moment)
    → IsPlan text plan → Opens plan entropy own o
    → Run g world (moment (first_state plan o) told heard sealings) turns new
    → IsAsPlanned plan.lines o.files new.state.fuse

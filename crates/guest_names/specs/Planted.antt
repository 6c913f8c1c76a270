-- What stands while lines are planted.
use Rattle.std.specs.Prelude.{◌≡◌, ℕ, ◌+◌, ◌≤◌, false, List, [], ◌∷◌, length, Option, Some, None, slice_get, ◌==◌}
use Rattle.std.specs.List.{AllByRecursion}
use Rattle.std.specs.Str.{bytes_eq}
use Rattle.std.specs.Ordering.{nat_cmp}
use Rattle.std.specs.BTreeMap.{insert_entry}
use Rattle.ro_file.specs.Files.{MeasuredFile}
use Rattle.authfs_dirs.specs.Names.{Names, at_first, planted}
use Rattle.mg_base.specs.declared.values.Digest.{Digest}
use Rattle.fuse_server.specs.State.{Files, Writables}
use Rattle.guest_plan.specs.declared.plan.PlanLine.{PlanLine}
use Rattle.guest_names.specs.declared.planting.Planting.{Planting}
use Rattle.guest_names.specs.Standing.{NamedFile, kind_of, file_in, read_only, all_planted, all_standing, emptied_by, all_emptied}

-- names, files, and how many of the opened files stand
pub record Planted : Type 0 where
  pub names : Names
  pub files : Files
  pub writables : Writables
  pub stood : ℕ

abbrev pub planted_of : Planting → Planted
planted_of p = record { names = p.dirs; files = p.files; writables = p.writables; stood = p.stood }

abbrev pub stood_at : Files → ℕ → Option MeasuredFile → Files
stood_at files number None = files
stood_at files number (Some o) = insert_entry nat_cmp files number o

-- a writable file is empty, and the next opened one stands behind a read-only one
abbrev pub with_behind : List MeasuredFile → Planted → ℕ → Option Digest → Planted
with_behind opened p number None = record p { writables = emptied_by p.writables number None }
with_behind opened p number (Some digest) = record p { files = stood_at p.files number (slice_get opened p.stood); stood = p.stood + 1 }

abbrev pub with_file : List MeasuredFile → Planted → Option NamedFile → Planted
with_file opened p None = p
with_file opened p (Some f) = with_behind opened (record p { names = planted p.names f.name (kind_of f) }) f.number f.digest

abbrev pub with_line : List MeasuredFile → Planted → PlanLine → Planted
with_line opened p l = with_file opened p (file_in l)

-- what stands after these files
abbrev pub stood_after : List MeasuredFile → List NamedFile → Planted
stood_after opened files = record { names = all_planted at_first files; files = all_standing [] (read_only files) opened; writables = all_emptied [] files; stood = length (read_only files) }

-- ---- files that may be planted

-- the second has another name and another number
pub record Differs (f g : NamedFile) : Type 0 where
  pub name : bytes_eq g.name f.name ≡ false
  pub number : (g.number == f.number) ≡ false

abbrev pub AreDifferent : List NamedFile → Type 0
AreDifferent [] = Unit {0}
AreDifferent (f ∷ files) = AllByRecursion (Differs f) files × AreDifferent files

abbrev pub AreShort : List NamedFile → Type 0
AreShort files = AllByRecursion (λ (f : NamedFile). length f.name ≤ 255) files

-- no two have one name or one number, the names are short, and there are few
pub record ArePlantable (files : List NamedFile) : Type 0 where
  pub different : AreDifferent files
  pub short : AreShort files
  pub few : length files ≤ 4095

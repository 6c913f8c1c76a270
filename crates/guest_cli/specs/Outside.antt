-- What stands outside of a run, and what was read of it.
use Rattle.std.specs.Prelude.{◌≡◌, ◌+◌, ℕ, List, length, Option, Some, None, Result, Ok, Err}
use Rattle.host_traits.specs.Folders.{Files}
use Rattle.text_lines.specs.declared.kinds.PlanKind.{PlanKind}
use Rattle.guest_plan.specs.Plans.{Known, plan_of}
use Rattle.guest_files.specs.declared.load.Refusal.{Refusal}
use Rattle.guest_files.specs.declared.load.Refusal.TheVariants as refusal
use Rattle.guest_files.specs.Files.{IsLoaded}
use Rattle.guest_cli.specs.declared.session.SessionEnd.{SessionEnd}
use Rattle.guest_cli.specs.declared.session.SessionEnd.TheVariants as end
use Rattle.guest_cli.specs.declared.status.Status.{Status}
use Rattle.guest_cli.specs.declared.status.Status.TheVariants.{Done, FileFault, StoreFault, ReadFault, WriteFault, BadFrame, TooMuch, Memory}
use Rattle.guest_cli.specs.Planned.{first_unbuilt}
use Rattle.guest_cli.specs.Session.{Streams}

-- a file was loaded behind so many bytes of others: it has at most 2 ^ 30 bytes, and at most 2 ^ 31 with those
abbrev pub IsLoadedBehind : ℕ → Option Files → List ℕ → List ℕ → Type 0
IsLoadedBehind before files name bytes = IsLoaded files name before (before + length bytes) bytes

-- nothing was written
pub record Quiet (old new : Streams) : Type 0 where
  pub out : new.out ≡ old.out
  pub log : new.log ≡ old.log

-- the plan was read, and asks for nothing that isn't served yet
pub record PlanRead (files : Option Files) (name : List ℕ) : Type 0 where
  pub text : List ℕ
  pub there : IsLoadedBehind 0 files name text
  pub plan : Known
  pub is : plan_of text ≡ Ok plan
  pub built : first_unbuilt plan ≡ None

-- a line of the plan breaks a rule, and is the first to, with the first rule that it breaks
pub record PlanBroken (files : Option Files) (name : List ℕ) (line : ℕ) (kind : PlanKind) : Type 0 where
  pub text : List ℕ
  pub there : IsLoadedBehind 0 files name text
  pub is : plan_of text ≡ Err (line, kind)

-- a line of the plan asks for what isn't served yet, and is the first to
pub record PlanUnbuilt (files : Option Files) (name : List ℕ) (line : ℕ) : Type 0 where
  pub text : List ℕ
  pub there : IsLoadedBehind 0 files name text
  pub plan : Known
  pub is : plan_of text ≡ Ok plan
  pub line_is : first_unbuilt plan ≡ Some line

-- what a session that ended so is as a status
abbrev pub status_of : Result (Unit {0}) SessionEnd → Status
status_of (Ok _) = Done
status_of (Err end.Read) = ReadFault
status_of (Err end.Write) = WriteFault
status_of (Err (end.BadFrame at)) = BadFrame at
status_of (Err end.TooMuch) = TooMuch

-- what a refusal of a file is as a status
abbrev pub refused : Refusal → Status
refused (refusal.File name) = FileFault name
refused (refusal.Line line kind) = StoreFault line kind
refused refusal.TooMuch = TooMuch
refused refusal.Memory = Memory

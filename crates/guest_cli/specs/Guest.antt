-- A whole run: what the words ask for, how it ends, and what each status says.
use Rattle.std.specs.Prelude.{◌≡◌, ℕ, List, Option, Some, None, ◌⊎◌, string_bytes}
use Rattle.std.specs.Io.KnownBytes.{Appends}
use Rattle.host_traits.specs.Folders.{Files, Errand, load_of, store_of}
use Rattle.host_traits.specs.Streams.{SomePrefix}
use Rattle.host_traits.specs.Told.{Rose}
use Rattle.guest_cli.specs.declared.status.Form.TheVariants.{Command}
use Rattle.guest_cli.specs.declared.status.Status.{Status}
use Rattle.guest_cli.specs.declared.status.Status.TheVariants.{Usage, FileFault, WriteFault, Unbuilt}
use Rattle.guest_cli.specs.Session.{Streams}
use Rattle.guest_cli.specs.Replay.{Replays}
use Rattle.guest_cli.specs.Serve.{ServesList, Untouched}
use Rattle.guest_cli.specs.Statuses.{end_line}
use Rattle.guest_cli.specs.Words.{Command as Asked, replay_of, serve_of, soak}

-- the files of the folder before the run and after it, and the folder's last call that failed
pub record FolderRun : Type 0 where
  pub old : Option Files
  pub new : Option Files
  pub last : Option Errand

-- 3 only where the folder failed in this run, and last at a load of this name
abbrev pub LoadCause : ℕ → ℕ → Option Errand → Status → Type 0
LoadCause before now last (FileFault name) = Rose before now × (last ≡ Some (load_of (string_bytes name)))
LoadCause before now last status = Unit {0}

-- a replay changes no file; where the folder failed, it was at the load of the file that the status names
abbrev pub FailedLoad : Option Errand → Status → Type 0
FailedLoad last (FileFault name) = last ≡ Some (load_of (string_bytes name))
FailedLoad last status = Unit {0}

pub record ReplaysTape (folder : FolderRun) (plan tape entropy : List ℕ) (old new : Streams) (status : Status) : Type 0 where
  pub replays : Replays folder.old plan tape entropy old new status
  pub unchanged : folder.new ≡ folder.old
  pub load : FailedLoad folder.last status

-- what each status of the words says, before the end line
abbrev pub Serves : Option Asked → FolderRun → Streams → Streams → Status → Type 0
Serves None folder old new status = (status ≡ Usage) × Untouched folder.old folder.new old new
Serves (Some soak) folder old new status = (status ≡ Unbuilt Command 0) × Untouched folder.old folder.new old new
Serves (Some (replay_of plan tape entropy)) folder old new status = ReplaysTape folder plan tape entropy old new status
Serves (Some (serve_of plan store entropy out)) folder old new status = ServesList folder.old folder.new folder.last plan store entropy out old new status

-- The end line was written after a status that has one, and else nothing; or its writing failed, which is the status 6.
abbrev pub Finishes : Option (List ℕ) → Option (List ℕ) → Status → Status → Type 0
Finishes log_old log_new inner status = ((status ≡ inner) × Appends log_old log_new (end_line inner)) ⊎ ((status ≡ WriteFault) × SomePrefix log_old log_new (end_line inner))

-- a whole run
pub record Guest (asked : Option Asked) (folder : FolderRun) (old new : Streams) (status : Status) : Type 0 where
  pub inner : Status
  pub mid : Option (List ℕ)
  pub serves : Serves asked folder old (record new { log = mid }) inner
  pub finishes : Finishes mid new.log inner status

-- the same, at a load or a store of this name
abbrev pub FileCause : ℕ → ℕ → Option Errand → Status → Type 0
FileCause before now last (FileFault name) = Rose before now × ((last ≡ Some (load_of (string_bytes name))) ⊎ (last ≡ Some (store_of (string_bytes name))))
FileCause before now last status = Unit {0}

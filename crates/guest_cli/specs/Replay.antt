-- A replay of a tape: what its turns are, and what each status says.
use Rattle.std.specs.Prelude.{◌++◌, ◌≡◌, ◌+◌, length, ℕ, List, [], Option, Some, Result, ◌⊎◌, string_bytes}
use Rattle.host_traits.specs.declared.calls.TapeItem.{TapeItem}
use Rattle.host_traits.specs.Folders.{Files}
use Rattle.host_traits.specs.Told.{Told, Talked, Made, Plays, heard_of}
use Rattle.host_tape.specs.Played.{unplayed, tape_told}
use Rattle.host_tape.specs.Tape.{IsTape, Breaks}
use Rattle.guest_boot.specs.declared.faults.BootFault.{BootFault as Fault}
use Rattle.instance_image.specs.Sealings.{Sealing}
use Rattle.guest_rules.specs.Machine.{Setting, State, World, Turn, nowhere, moment}
use Rattle.guest_rules.specs.Run.{Run, IsWorld, AreSealed, calls_of}
use Rattle.guest_cli.specs.declared.session.SessionEnd.{SessionEnd}
use Rattle.guest_cli.specs.declared.status.Form.TheVariants.{Command, Plan}
use Rattle.guest_cli.specs.declared.status.Status.{Status}
use Rattle.guest_cli.specs.declared.status.Status.TheVariants.{Usage, BootFault, PlanFault, FileFault, TapeFault, StoreFault, TooMuch, Memory, Unbuilt}
use Rattle.guest_files.specs.Files.{Passes}
use Rattle.guest_cli.specs.Booted.{Opened, BootsOver, Unbooted, setting_of, first_state, sealings_of}
use Rattle.guest_cli.specs.Session.{Streams, IsSession}
use Rattle.guest_cli.specs.Outside.{IsLoadedBehind, Quiet, PlanRead, PlanBroken, PlanUnbuilt, status_of}

-- The turns of a replay, behind a boot that made these calls, after which the tape told `mid`; after the turns it tells `finish`.
-- The turns' calls are all that were made from there, failed ones too. What came of each call, boot's before the turns', is what the
-- tape's next record answers; where that is a failure or of another kind, or there is none, the call failed. The turns are a run of
-- the machine from the state after boot, in the world without contents, and so in each world that meets the premises; in the run
-- these texts were sealed, by boot and the turns.
pub record Replayed (g : Setting) (first : State) (sealings : List Sealing) (records : List TapeItem) (booted : List Made) (mid finish : Told) (turns : List Turn) : Type 0 where
  pub talked : Talked mid finish (calls_of turns)
  pub plays : Plays (Some records) (booted ++ calls_of turns)
  pub state : State
  pub sealed : List Sealing
  pub plain : Run g nowhere (moment first mid (heard_of booted) sealings) turns (moment state finish (heard_of booted ++ heard_of (calls_of turns)) sealed)
  pub run : (world : World) → IsWorld g first world (heard_of booted ++ heard_of (calls_of turns))
      → AreSealed g world (moment first mid (heard_of booted) sealings) turns (moment state finish (heard_of booted ++ heard_of (calls_of turns)) sealed) plain
      → Run g world (moment first mid (heard_of booted) sealings) turns (moment state finish (heard_of booted ++ heard_of (calls_of turns)) sealed)

-- the tape was read, behind so many bytes of other files
pub record TapeRead (files : Option Files) (name : List ℕ) (before : ℕ) : Type 0 where
  pub text : List ℕ
  pub there : IsLoadedBehind before files name text
  pub records : List TapeItem
  pub is : IsTape text records

-- the file at which the folder failed: each is loaded once those before it were read
abbrev pub IsNext : Option Files → List ℕ → List ℕ → List ℕ → List ℕ → Type 0
IsNext files plan tape entropy name =
    (name ≡ plan)
    ⊎ ((name ≡ tape) × PlanRead files plan)
    ⊎ ((name ≡ entropy) × (p : PlanRead files plan) × TapeRead files tape (length p.text))

-- the file that passed a limit, likewise
abbrev pub PassesLimit : Option Files → List ℕ → List ℕ → List ℕ → Type 0
PassesLimit files plan tape entropy =
    Passes files plan 0
    ⊎ ((p : PlanRead files plan) × Passes files tape (length p.text))
    ⊎ ((p : PlanRead files plan) × (t : TapeRead files tape (length p.text)) × Passes files entropy (length p.text + length t.text))

-- plan, tape and entropy were read
pub record AllRead (files : Option Files) (plan tape entropy : List ℕ) : Type 0 where
  pub planned : PlanRead files plan
  pub taped : TapeRead files tape (length planned.text)
  pub bytes : List ℕ
  pub bytes_there : IsLoadedBehind (length planned.text + length taped.text) files entropy bytes

-- the lines of the plan were opened over the tape, and the session ended with this status
pub record Sat (files : Option Files) (plan tape entropy : List ℕ) (old new : Streams) (status : Status) : Type 0 where
  pub read : AllRead files plan tape entropy
  pub opened : Opened
  pub booted : List Made
  pub mid : Told
  pub boots : BootsOver read.planned.plan read.bytes (tape_told (unplayed read.taped.records)) mid booted opened
  pub finish : Told
  pub ended : Result (Unit {0}) SessionEnd
  pub status_is : status ≡ status_of ended
  pub session : IsSession
      (Replayed (setting_of read.planned.plan opened) (first_state read.planned.plan opened) (sealings_of opened) read.taped.records booted mid finish)
      finish old new ended

-- a line of the plan was not opened over the tape
pub record NotBooted (files : Option Files) (plan tape entropy : List ℕ) (fault : Fault) : Type 0 where
  pub read : AllRead files plan tape entropy
  pub fails : Unbooted read.planned.plan read.bytes (tape_told (unplayed read.taped.records)) fault

-- the tape's bytes begin no whole record from this place on
pub record TapeBroken (files : Option Files) (name : List ℕ) (before at : ℕ) : Type 0 where
  pub text : List ℕ
  pub there : IsLoadedBehind before files name text
  pub breaks : Breaks text at

-- what each status of a replay says
abbrev pub Replays : Option Files → List ℕ → List ℕ → List ℕ → Streams → Streams → Status → Type 0
Replays files plan tape entropy old new Usage = ⊥
Replays files plan tape entropy old new (PlanFault line kind) = PlanBroken files plan line kind × Quiet old new
Replays files plan tape entropy old new (StoreFault line kind) = ⊥
Replays files plan tape entropy old new (FileFault name) = IsNext files plan tape entropy (string_bytes name) × Quiet old new
Replays files plan tape entropy old new (TapeFault at) = (p : PlanRead files plan) × TapeBroken files tape (length p.text) at × Quiet old new
Replays files plan tape entropy old new (BootFault fault) = NotBooted files plan tape entropy fault × Quiet old new
Replays files plan tape entropy old new TooMuch = (PassesLimit files plan tape entropy × Quiet old new) ⊎ Sat files plan tape entropy old new TooMuch
Replays files plan tape entropy old new Memory = Quiet old new
Replays files plan tape entropy old new (Unbuilt Command at) = ⊥
Replays files plan tape entropy old new (Unbuilt Plan at) = PlanUnbuilt files plan at × Quiet old new
Replays files plan tape entropy old new status = Sat files plan tape entropy old new status

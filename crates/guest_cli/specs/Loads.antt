-- The parts of a run between the words and the session: what was loaded and read, why it wasn't, and what was stored.
use Rattle.std.specs.Prelude.{◌≡◌, ◌≤◌, ◌+◌, ℕ, List, ◌∷◌, length, Option, Some, None, Result, Ok, Err, ◌⊎◌, string_bytes}
use Rattle.host_traits.specs.declared.calls.TapeItem.{TapeItem}
use Rattle.host_traits.specs.Folders.{Files, Errand, load_of, store_of}
use Rattle.host_traits.specs.Held.{Held}
use Rattle.host_traits.specs.Told.{Told, Made, Rose}
use Rattle.host_tape.specs.Played.{Played, unplayed, tape_told}
use Rattle.host_tape.specs.Tape.{IsTape, Breaks, tape_bytes}
use Rattle.host_rec.specs.Recorded.{Recorded as Recorder}
use Rattle.host_mem.specs.Mem.{Mem, mem_held}
use Rattle.guest_boot.specs.declared.faults.BootFault.{BootFault as Fault}
use Rattle.guest_plan.specs.declared.plan.Plan.{Plan}
use Rattle.guest_plan.specs.declared.store.Store.{Store}
use Rattle.guest_plan.specs.declared.store.StoreLine.{StoreLine}
use Rattle.guest_plan.specs.Plans.{Known, known, plan_of}
use Rattle.guest_plan.specs.Spelling.{IsPlan}
use Rattle.guest_plan.specs.Stores.{IsStore, store_of as store_list_of}
use Rattle.guest_files.specs.declared.load.Refusal.TheVariants as refusal
use Rattle.guest_files.specs.Files.{Passes}
use Rattle.guest_files.specs.Keeping.{AreStored, StoringStops, kept_of}
use Rattle.guest_cli.specs.declared.session.SessionEnd.{SessionEnd}
use Rattle.guest_cli.specs.declared.status.Form.TheVariants.{Plan as PlanForm}
use Rattle.guest_cli.specs.declared.status.Status.{Status}
use Rattle.guest_cli.specs.declared.status.Status.TheVariants.{Done, BootFault, PlanFault, FileFault, TapeFault, StoreFault, TooMuch, Memory, Unbuilt}
use Rattle.guest_cli.specs.Booted.{Opened, BootsOver, Unbooted, setting_of, first_state, sealings_of}
use Rattle.guest_cli.specs.Planned.{first_unbuilt}
use Rattle.guest_cli.specs.Session.{Streams, IsSession}
use Rattle.guest_cli.specs.Outside.{IsLoadedBehind, PlanRead, PlanBroken, PlanUnbuilt, Quiet, status_of}
use Rattle.guest_cli.specs.Replay.{IsNext, PassesLimit, TapeBroken, Replayed}
use Rattle.guest_cli.specs.Serve.{before, HostMade, IsNextServed, PassesServed, Recorded, StoreBroken}

-- ---- files

-- why a file was not loaded
abbrev pub LoadFault : Option Files → List ℕ → ℕ → Status → Type 0
LoadFault files name before (FileFault n) = string_bytes n ≡ name
LoadFault files name before TooMuch = Passes files name before
LoadFault files name before Memory = Unit {0}
LoadFault files name before other = ⊥

-- the folder's count does not fall, and rose at a load where a file is named
abbrev pub InputsCause : {T : Type 0} → ℕ → ℕ → Option Errand → Result T Status → Type 0
InputsCause before now last (Err (FileFault n)) = (before ≤ now) × Rose before now × (last ≡ Some (load_of (string_bytes n)))
InputsCause before now last result = before ≤ now

-- the same at a store
abbrev pub StoresCause : ℕ → ℕ → Option Errand → Status → Type 0
StoresCause before now last (FileFault n) = (before ≤ now) × Rose before now × (last ≡ Some (store_of (string_bytes n)))
StoresCause before now last status = before ≤ now

-- ---- what was read

-- what became of a plan's text
abbrev pub Planned : List ℕ → Result Plan Status → Type 0
Planned text (Ok plan) = (plan_of text ≡ Ok (known plan)) × (first_unbuilt (known plan) ≡ None) × IsPlan text (known plan)
Planned text (Err (PlanFault line kind)) = plan_of text ≡ Err (line, kind)
Planned text (Err (Unbuilt PlanForm at)) = (k : Known) × (plan_of text ≡ Ok k) × (first_unbuilt k ≡ Some at)
Planned text (Err Memory) = Unit {0}
Planned text (Err other) = ⊥

-- what became of a tape's bytes
abbrev pub Taped : List ℕ → Result Played Status → Type 0
Taped bytes (Ok tape) = IsTape bytes tape.records × (tape ≡ unplayed tape.records)
Taped bytes (Err (TapeFault at)) = Breaks bytes at
Taped bytes (Err Memory) = Unit {0}
Taped bytes (Err other) = ⊥

-- what became of a store list's text
abbrev pub Listed : List ℕ → Result Store Status → Type 0
Listed text (Ok list) = (store_list_of text ≡ Ok list.lines.items) × IsStore text list.lines.items
Listed text (Err (StoreFault line kind)) = store_list_of text ≡ Err (line, kind)
Listed text (Err Memory) = Unit {0}
Listed text (Err other) = ⊥

-- ---- a replay

-- the three files of a replay were loaded and read
pub record IsReady (files : Option Files) (plan_name tape_name entropy_name : List ℕ) (plan : Known) (tape : Played) (entropy : List ℕ) : Type 0 where
  pub text : List ℕ
  pub there : IsLoadedBehind 0 files plan_name text
  pub is : plan_of text ≡ Ok plan
  pub built : first_unbuilt plan ≡ None
  pub grammar : IsPlan text plan
  pub tape_text : List ℕ
  pub tape_there : IsLoadedBehind (length text) files tape_name tape_text
  pub is_tape : IsTape tape_text tape.records
  pub fresh : tape ≡ unplayed tape.records
  pub entropy_there : IsLoadedBehind (length text + length tape_text) files entropy_name entropy

-- why they were not
abbrev pub InputsFail : Option Files → List ℕ → List ℕ → List ℕ → Status → Type 0
InputsFail files plan tape entropy (PlanFault line kind) = PlanBroken files plan line kind
InputsFail files plan tape entropy (FileFault name) = IsNext files plan tape entropy (string_bytes name)
InputsFail files plan tape entropy (TapeFault at) = (p : PlanRead files plan) × TapeBroken files tape (length p.text) at
InputsFail files plan tape entropy TooMuch = PassesLimit files plan tape entropy
InputsFail files plan tape entropy Memory = Unit {0}
InputsFail files plan tape entropy (Unbuilt PlanForm at) = PlanUnbuilt files plan at
InputsFail files plan tape entropy other = ⊥

-- the lines were opened over a tape, and the session ended with this status
pub record IsPlayed (plan : Known) (tape : Played) (entropy : List ℕ) (old new : Streams) (status : Status) : Type 0 where
  pub opened : Opened
  pub booted : List Made
  pub mid : Told
  pub boots : BootsOver plan entropy (tape_told tape) mid booted opened
  pub finish : Told
  pub ended : Result (Unit {0}) SessionEnd
  pub status_is : status ≡ status_of ended
  pub session : IsSession
      (Replayed (setting_of plan opened) (first_state plan opened) (sealings_of opened) tape.records booted mid finish) finish old new ended

-- a line was not opened
pub record IsUnplayed (plan : Known) (tape : Played) (entropy : List ℕ) (old new : Streams) (status : Status) : Type 0 where
  pub fault : Fault
  pub status_is : status ≡ BootFault fault
  pub fails : Unbooted plan entropy (tape_told tape) fault
  pub quiet : Quiet old new

abbrev pub PlayOutcome : Known → Played → List ℕ → Streams → Streams → Status → Type 0
PlayOutcome plan tape entropy old new status = ((status ≡ Memory) × Quiet old new) ⊎ IsUnplayed plan tape entropy old new status ⊎ IsPlayed plan tape entropy old new status

-- ---- a session over the host of a store list

-- the plan and the store list were read, the host was made, and the entropy was loaded
pub record IsStocked (files : Option Files) (plan_name store_name entropy_name : List ℕ) (plan : Known) (lines : List StoreLine) (held : Held) (entropy : List ℕ) : Type 0 where
  pub made : HostMade files plan_name store_name
  pub plan_is : made.planned.plan ≡ plan
  pub grammar : IsPlan made.planned.text plan
  pub lines_are : made.listed.lines ≡ lines
  pub held_is : made.stock.held ≡ held
  pub entropy_there : IsLoadedBehind made.stock.loaded files entropy_name entropy

-- why not
abbrev pub ServedFails : Option Files → List ℕ → List ℕ → List ℕ → Status → Type 0
ServedFails files plan store entropy (PlanFault line kind) = PlanBroken files plan line kind
ServedFails files plan store entropy (FileFault name) = IsNextServed files plan store entropy (string_bytes name)
ServedFails files plan store entropy (StoreFault line kind) = StoreBroken files plan store line kind
ServedFails files plan store entropy TooMuch = PassesServed files plan store entropy
ServedFails files plan store entropy Memory = Unit {0}
ServedFails files plan store entropy (Unbuilt PlanForm at) = PlanUnbuilt files plan at
ServedFails files plan store entropy other = ⊥

-- the lines were opened over a host that held this, and the session ended so; behind the recorder is the host after it
pub record IsServed (plan : Known) (held : Held) (entropy : List ℕ) (old new : Streams) (ended : Result (Unit {0}) SessionEnd) (r : Recorder Mem) (finish : Told) : Type 0 where
  pub opened : Opened
  pub booted : List Made
  pub mid : Told
  pub boots : BootsOver plan entropy (before held) mid booted opened
  pub session : IsSession
      (Recorded (setting_of plan opened) (first_state plan opened) (sealings_of opened) booted mid r.kept.calls r.kept.items finish)
      finish old new ended
  pub held_is : finish.held ≡ Some (mem_held r.host)

-- a line was not opened
pub record IsUnserved (plan : Known) (held : Held) (entropy : List ℕ) (old new : Streams) (status : Status) : Type 0 where
  pub fault : Fault
  pub status_is : status ≡ BootFault fault
  pub fails : Unbooted plan entropy (before held) fault
  pub quiet : Quiet old new

abbrev pub SatOutcome : Known → Held → List ℕ → Streams → Streams → Result (Recorder Mem) Status → Type 0
SatOutcome plan held entropy old new (Ok r) = (finish : Told) × IsServed plan held entropy old new (Ok tt) r finish
SatOutcome plan held entropy old new (Err status) =
    ((status ≡ Memory) × Quiet old new)
    ⊎ IsUnserved plan held entropy old new status
    ⊎ ((why : SessionEnd) × (status ≡ status_of (Err why)) × (r : Recorder Mem) × (finish : Told) × IsServed plan held entropy old new (Err why) r finish)

-- the tape of these records was stored, and then what the lines keep of what is held
abbrev pub StoreOutcome : Option Files → List ℕ → List TapeItem → Held → List StoreLine → Option Files → Status → Type 0
StoreOutcome files out records held lines new Done = AreStored files ((out, tape_bytes records) ∷ kept_of held lines) new
StoreOutcome files out records held lines new (FileFault name) = StoringStops files ((out, tape_bytes records) ∷ kept_of held lines) new (refusal.File name)
StoreOutcome files out records held lines new Memory = StoringStops files ((out, tape_bytes records) ∷ kept_of held lines) new refusal.Memory
StoreOutcome files out records held lines new other = ⊥

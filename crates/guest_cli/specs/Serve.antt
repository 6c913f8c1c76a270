-- A session over a host that is made from a store list, and recorded: what its turns are, which files are stored, and what each
-- status says.
use Rattle.std.specs.Prelude.{◌++◌, true, ◌≡◌, ◌+◌, ◌-◌, ◌^◌, min, length, ℕ, List, [], ◌∷◌, Option, Some, None, Result, Ok, Err, ◌⊎◌, string_bytes}
use Rattle.host_traits.specs.declared.calls.Call.{Call}
use Rattle.host_traits.specs.declared.calls.TapeItem.{TapeItem}
use Rattle.host_traits.specs.Folders.{Files, Errand, load_of, store_of}
use Rattle.host_traits.specs.Held.{Held}
use Rattle.host_traits.specs.Told.{Told, Talked, Made, taken, heard_of}
use Rattle.host_tape.specs.Tape.{tape_bytes}
use Rattle.host_rec.specs.Recorded.{calls_in, failures}
use Rattle.text_lines.specs.declared.kinds.PlanKind.{PlanKind}
use Rattle.guest_plan.specs.declared.store.StoreLine.{StoreLine}
use Rattle.guest_plan.specs.Stores.{store_of as store_list_of}
use Rattle.guest_files.specs.declared.load.Refusal.{Refusal}
use Rattle.guest_files.specs.declared.load.Refusal.TheVariants as refusal
use Rattle.guest_files.specs.Files.{Passes}
use Rattle.guest_files.specs.Stocking.{Stock, Stocked, StockFails, unstocked}
use Rattle.guest_files.specs.Keeping.{Parcel, AreStored, StoringStops, kept_of}
use Rattle.guest_boot.specs.declared.faults.BootFault.{BootFault as Fault}
use Rattle.instance_image.specs.Sealings.{Sealing}
use Rattle.guest_rules.specs.Machine.{Setting, State, World, Turn, nowhere, moment}
use Rattle.guest_rules.specs.Run.{Run, IsWorld, AreSealed, calls_of}
use Rattle.guest_cli.specs.declared.session.SessionEnd.{SessionEnd}
use Rattle.guest_cli.specs.declared.status.Form.TheVariants.{Command, Plan}
use Rattle.guest_cli.specs.declared.status.Status.{Status}
use Rattle.guest_cli.specs.declared.status.Status.TheVariants.{BootFault, Done, Usage, PlanFault, FileFault, TapeFault, StoreFault, TooMuch, Memory, Unbuilt}
use Rattle.guest_cli.specs.Booted.{Opened, BootsOver, Unbooted, setting_of, first_state, sealings_of}
use Rattle.guest_cli.specs.Session.{Streams, IsSession}
use Rattle.guest_cli.specs.Outside.{IsLoadedBehind, Quiet, PlanRead, PlanBroken, PlanUnbuilt, status_of}

-- what a recorder before an honest host tells that holds this, before the first call
abbrev pub before : Held → Told
before held = record { faults = 0; last_failed = None; heard = Some []; made = Some []; held = Some held; ahead = None; scarce = true; honest = true }

-- The turns of a session over a host that is recorded, behind a boot that made these calls, after which the recorder told `mid`:
-- the turns' calls are all that were made from there, failed ones too. All calls, boot's before the turns', are these, each with its
-- record. Each was answered by what the host then held, or failed where that could not serve it. The turns are a run of the machine
-- from the state after boot, in the world without contents, and so in each world that meets the premises; in the run these texts
-- were sealed.
pub record Recorded (g : Setting) (first : State) (sealings : List Sealing) (booted : List Made) (mid : Told) (calls : List Call) (records : List TapeItem) (finish : Told) (turns : List Turn) : Type 0 where
  pub talked : Talked mid finish (calls_of turns)
  pub made : taken None (booted ++ calls_of turns) ≡ calls_in calls records
  pub faults : finish.faults ≡ min (failures records) (2 ^ 64 - 1)
  pub state : State
  pub sealed : List Sealing
  pub plain : Run g nowhere (moment first mid (heard_of booted) sealings) turns (moment state finish (heard_of booted ++ heard_of (calls_of turns)) sealed)
  pub run : (world : World) → IsWorld g first world (heard_of booted ++ heard_of (calls_of turns))
      → AreSealed g world (moment first mid (heard_of booted) sealings) turns (moment state finish (heard_of booted ++ heard_of (calls_of turns)) sealed) plain
      → Run g world (moment first mid (heard_of booted) sealings) turns (moment state finish (heard_of booted ++ heard_of (calls_of turns)) sealed)

-- the store list was read, behind so many bytes of other files
pub record ListRead (files : Option Files) (name : List ℕ) (before : ℕ) : Type 0 where
  pub text : List ℕ
  pub there : IsLoadedBehind before files name text
  pub lines : List StoreLine
  pub is : store_list_of text ≡ Ok lines

-- how many bytes were loaded before the store's own files
abbrev pub loaded_with : {files : Option Files} {plan store : List ℕ} {before : ℕ} → PlanRead files plan → ListRead files store before → ℕ
loaded_with p l = length p.text + length l.text

-- each line of the store list was carried out
pub record HostMade (files : Option Files) (plan store : List ℕ) : Type 0 where
  pub planned : PlanRead files plan
  pub listed : ListRead files store (length planned.text)
  pub stock : Stock
  pub stocked : Stocked files listed.lines (unstocked (loaded_with planned listed)) stock

-- a line of it wasn't
pub record HostUnmade (files : Option Files) (plan store : List ℕ) (why : Refusal) : Type 0 where
  pub planned : PlanRead files plan
  pub listed : ListRead files store (length planned.text)
  pub fails : StockFails files listed.lines (unstocked (loaded_with planned listed)) why

-- a line of the store list breaks a rule, and is the first to: the text is no store list, or a file of its line is of no use
pub record ListBroken (files : Option Files) (name : List ℕ) (before line : ℕ) (kind : PlanKind) : Type 0 where
  pub text : List ℕ
  pub there : IsLoadedBehind before files name text
  pub is : store_list_of text ≡ Err (line, kind)

abbrev pub StoreBroken : Option Files → List ℕ → List ℕ → ℕ → PlanKind → Type 0
StoreBroken files plan store line kind =
    ((p : PlanRead files plan) × ListBroken files store (length p.text) line kind) ⊎ HostUnmade files plan store (refusal.Line line kind)

-- the file at which the folder failed: each is loaded once those before it were read
abbrev pub IsNextServed : Option Files → List ℕ → List ℕ → List ℕ → List ℕ → Type 0
IsNextServed files plan store entropy name =
    (name ≡ plan)
    ⊎ ((name ≡ store) × PlanRead files plan)
    ⊎ ((n : _) × (string_bytes n ≡ name) × HostUnmade files plan store (refusal.File n))
    ⊎ ((name ≡ entropy) × HostMade files plan store)

-- the file that passed a limit, likewise
abbrev pub PassesServed : Option Files → List ℕ → List ℕ → List ℕ → Type 0
PassesServed files plan store entropy =
    Passes files plan 0
    ⊎ ((p : PlanRead files plan) × Passes files store (length p.text))
    ⊎ HostUnmade files plan store refusal.TooMuch
    ⊎ ((h : HostMade files plan store) × Passes files entropy h.stock.loaded)

-- The lines of the plan were opened over the host, and the session ended so: these calls were made of the host, each with its
-- record, and this is what it told after the last.
pub record SatOver (files : Option Files) (plan store entropy : List ℕ) (old new : Streams) (ended : Result (Unit {0}) SessionEnd) : Type 0 where
  pub made : HostMade files plan store
  pub bytes : List ℕ
  pub bytes_there : IsLoadedBehind made.stock.loaded files entropy bytes
  pub opened : Opened
  pub booted : List Made
  pub mid : Told
  pub boots : BootsOver made.planned.plan bytes (before made.stock.held) mid booted opened
  pub calls : List Call
  pub records : List TapeItem
  pub finish : Told
  pub session : IsSession
      (Recorded (setting_of made.planned.plan opened) (first_state made.planned.plan opened) (sealings_of opened) booted mid calls records finish)
      finish old new ended

-- a line of the plan was not opened over the host
pub record UnbootedOver (files : Option Files) (plan store entropy : List ℕ) (fault : Fault) : Type 0 where
  pub made : HostMade files plan store
  pub bytes : List ℕ
  pub bytes_there : IsLoadedBehind made.stock.loaded files entropy bytes
  pub fails : Unbooted made.planned.plan bytes (before made.stock.held) fault

-- what is stored after the session: the tape of all calls, a record for each, and then what the list's lines keep of what is held
pub record IsParcels {files : Option Files} {plan store entropy : List ℕ} {old new : Streams} (s : SatOver files plan store entropy old new (Ok tt)) (out : List ℕ) (parcels : List Parcel) : Type 0 where
  pub held : Held
  pub held_is : s.finish.held ≡ Some held
  pub each : length s.calls ≡ length s.records
  pub are : parcels ≡ (out, tape_bytes s.records) ∷ kept_of held s.made.listed.lines

-- the session ended at the end of its input, and all of this was stored, or storing stopped
pub record Kept (files : Option Files) (plan store entropy out : List ℕ) (old new : Streams) (Storing : List Parcel → Type 0) : Type 0 where
  pub sat : SatOver files plan store entropy old new (Ok tt)
  pub parcels : List Parcel
  pub are : IsParcels sat out parcels
  pub storing : Storing parcels

-- the session ended before its input did, and nothing was stored
pub record Unkept (files files_new : Option Files) (plan store entropy : List ℕ) (old new : Streams) (status : Status) : Type 0 where
  pub why : SessionEnd
  pub status_is : status ≡ status_of (Err why)
  pub sat : SatOver files plan store entropy old new (Err why)
  pub unchanged : files_new ≡ files

-- nothing was written and nothing stored
pub record Untouched (files files_new : Option Files) (old new : Streams) : Type 0 where
  pub quiet : Quiet old new
  pub unchanged : files_new ≡ files

-- what each status says
abbrev pub ServesList : Option Files → Option Files → Option Errand → List ℕ → List ℕ → List ℕ → List ℕ → Streams → Streams → Status → Type 0
ServesList files files_new last plan store entropy out old new Usage = ⊥
ServesList files files_new last plan store entropy out old new (TapeFault at) = ⊥
ServesList files files_new last plan store entropy out old new (Unbuilt Command at) = ⊥
ServesList files files_new last plan store entropy out old new (PlanFault line kind) = PlanBroken files plan line kind × Untouched files files_new old new
ServesList files files_new last plan store entropy out old new (Unbuilt Plan at) = PlanUnbuilt files plan at × Untouched files files_new old new
ServesList files files_new last plan store entropy out old new (BootFault fault) = UnbootedOver files plan store entropy fault × Untouched files files_new old new
ServesList files files_new last plan store entropy out old new (StoreFault line kind) = StoreBroken files plan store line kind × Untouched files files_new old new
ServesList files files_new last plan store entropy out old new (FileFault name) =
    ((last ≡ Some (load_of (string_bytes name))) × IsNextServed files plan store entropy (string_bytes name) × Untouched files files_new old new)
    ⊎ ((last ≡ Some (store_of (string_bytes name))) × Kept files plan store entropy out old new (λ parcels. StoringStops files parcels files_new (refusal.File name)))
ServesList files files_new last plan store entropy out old new TooMuch =
    (PassesServed files plan store entropy × Untouched files files_new old new) ⊎ Unkept files files_new plan store entropy old new TooMuch
ServesList files files_new last plan store entropy out old new Memory =
    Untouched files files_new old new ⊎ Kept files plan store entropy out old new (λ parcels. StoringStops files parcels files_new refusal.Memory)
ServesList files files_new last plan store entropy out old new Done = Kept files plan store entropy out old new (λ parcels. AreStored files parcels files_new)
ServesList files files_new last plan store entropy out old new status = Unkept files files_new plan store entropy old new status

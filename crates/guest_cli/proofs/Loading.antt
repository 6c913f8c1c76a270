-- Files that were not loaded, or are of no use.
use Rattle.std.proofs.Common.{◌≡◌, ℕ, ◌+◌, List, length, refl, subst, Option, Err, inl, inr, arith}
use Rattle.host_traits.specs.Folders.{Files, Errand, load_of, store_of}
use Rattle.guest_files.specs.declared.load.Refusal.{Refusal}
use Rattle.guest_files.specs.declared.load.Refusal.TheVariants as refusal
use Rattle.guest_files.specs.Files.{IsLoaded, Passes, LoadFails, FailsAt}
use Rattle.guest_files.specs.Stocking.{StockFails, unstocked}
use Rattle.guest_cli.specs.declared.status.Status.{Status}
use Rattle.guest_cli.specs.declared.status.Status.TheVariants.{BootFault, Done, Usage, PlanFault, FileFault, TapeFault, StoreFault, ReadFault, WriteFault, BadFrame, TooMuch, Memory, Unbuilt}
use Rattle.guest_cli.specs.Outside.{IsLoadedBehind, PlanRead, refused}
use Rattle.guest_cli.specs.Replay.{TapeRead}
use Rattle.guest_cli.specs.Serve.{ListRead, HostMade, loaded_with}
use Rattle.guest_cli.specs.Loads.{LoadFault, InputsCause, StoresCause, Taped, Listed, InputsFail, ServedFails}

-- the same behind as many bytes
pub loaded_behind : (files : Option Files) (name : List ℕ) (before now k : ℕ) (bytes : List ℕ) → before ≡ k → IsLoaded files name before now bytes → IsLoadedBehind k files name bytes
loaded_behind files name before now k bytes is l =
    let room = l.all in
    record { there = l.there; few = l.few; count = refl; all = omega (arith, is, room, l.count) }

pub load_status : (files : Option Files) (name : List ℕ) (before : ℕ) (r : Refusal) → LoadFails files name before r → LoadFault files name before (refused r)
load_status files name before (refusal.File n) w = w
load_status files name before (refusal.Line line kind) w = absurd w
load_status files name before refusal.TooMuch w = w
load_status files name before refusal.Memory w = w

pub load_cause : (T U : Type 0) (before now : ℕ) (last : Option Errand) (r : Refusal) → FailsAt {T = T} load_of before now last (Err r) → InputsCause {T = U} before now last (Err (refused r))
load_cause T U before now last (refusal.File n) w = w
load_cause T U before now last (refusal.Line line kind) w = w
load_cause T U before now last refusal.TooMuch w = w
load_cause T U before now last refusal.Memory w = w

pub store_cause : (T : Type 0) (before now : ℕ) (last : Option Errand) (r : Refusal) → FailsAt {T = T} store_of before now last (Err r) → StoresCause before now last (refused r)
store_cause T before now last (refusal.File n) w = w
store_cause T before now last (refusal.Line line kind) w = w
store_cause T before now last refusal.TooMuch w = w
store_cause T before now last refusal.Memory w = w

-- ---- a replay

pub taped_fails : (files : Option Files) (plan tape entropy bytes : List ℕ) (status : Status) → (read : PlanRead files plan) → IsLoadedBehind (length read.text) files tape bytes → Taped bytes (Err status) → InputsFail files plan tape entropy status
taped_fails files plan tape entropy bytes (TapeFault at) read there w = (read, record { text = bytes; there = there; breaks = w })
taped_fails files plan tape entropy bytes Memory read there w = tt
taped_fails files plan tape entropy bytes other read there w = absurd w

-- the plan was read, and the tape can't be loaded
pub tape_fails : (files : Option Files) (plan tape entropy : List ℕ) (before : ℕ) (status : Status) → (read : PlanRead files plan) → before ≡ length read.text → LoadFault files tape before status → InputsFail files plan tape entropy status
tape_fails files plan tape entropy before (FileFault n) read count w = inr (inl (w, read))
tape_fails files plan tape entropy before TooMuch read count w = inr (inl (read, subst (λ (n : ℕ). Passes files tape n) count w))
tape_fails files plan tape entropy before Memory read count w = tt
tape_fails files plan tape entropy before other read count w = absurd w

-- the plan and the tape were read, and the entropy can't be loaded
pub entropy_fails : (files : Option Files) (plan tape entropy : List ℕ) (before : ℕ) (status : Status) → (read : PlanRead files plan) → (taped : TapeRead files tape (length read.text)) → before ≡ length read.text + length taped.text → LoadFault files entropy before status
    → InputsFail files plan tape entropy status
entropy_fails files plan tape entropy before (FileFault n) read taped count w = inr (inr (w, read, taped))
entropy_fails files plan tape entropy before TooMuch read taped count w = inr (inr (read, taped, subst (λ (n : ℕ). Passes files entropy n) count w))
entropy_fails files plan tape entropy before Memory read taped count w = tt
entropy_fails files plan tape entropy before other read taped count w = absurd w

-- ---- a session over the host of a store list

-- the plan was read, and the store list can't be loaded
pub list_fails : (files : Option Files) (plan store entropy : List ℕ) (before : ℕ) (status : Status) → (read : PlanRead files plan) → before ≡ length read.text → LoadFault files store before status → ServedFails files plan store entropy status
list_fails files plan store entropy before (FileFault n) read count w = inr (inl (w, read))
list_fails files plan store entropy before TooMuch read count w = inr (inl (read, subst (λ (n : ℕ). Passes files store n) count w))
list_fails files plan store entropy before Memory read count w = tt
list_fails files plan store entropy before other read count w = absurd w

pub listed_fails : (files : Option Files) (plan store entropy text : List ℕ) (status : Status) → (read : PlanRead files plan) → IsLoadedBehind (length read.text) files store text → Listed text (Err status) → ServedFails files plan store entropy status
listed_fails files plan store entropy text (StoreFault line kind) read there w = inl (read, record { text = text; there = there; is = w })
listed_fails files plan store entropy text Memory read there w = tt
listed_fails files plan store entropy text other read there w = absurd w

-- both were read, and a line of the list can't be carried out
pub lines_fail : (files : Option Files) (plan store entropy : List ℕ) (before : ℕ) (r : Refusal) → (read : PlanRead files plan) → (list : ListRead files store (length read.text)) → before ≡ loaded_with read list → StockFails files list.lines (unstocked before) r
    → ServedFails files plan store entropy (refused r)
lines_fail files plan store entropy before (refusal.File name) read list count w =
    inr (inr (inl (name, refl, record { planned = read; listed = list; fails = subst (λ (n : ℕ). StockFails files list.lines (unstocked n) (refusal.File name)) count w })))
lines_fail files plan store entropy before (refusal.Line line kind) read list count w =
    inr (record { planned = read; listed = list; fails = subst (λ (n : ℕ). StockFails files list.lines (unstocked n) (refusal.Line line kind)) count w })
lines_fail files plan store entropy before refusal.TooMuch read list count w =
    inr (inr (inl (record { planned = read; listed = list; fails = subst (λ (n : ℕ). StockFails files list.lines (unstocked n) refusal.TooMuch) count w })))
lines_fail files plan store entropy before refusal.Memory read list count w = tt

-- the host was made, and the entropy can't be loaded
pub last_fails : (files : Option Files) (plan store entropy : List ℕ) (status : Status) → (made : HostMade files plan store) → LoadFault files entropy made.stock.loaded status → ServedFails files plan store entropy status
last_fails files plan store entropy (FileFault n) made w = inr (inr (inr (w, made)))
last_fails files plan store entropy TooMuch made w = inr (inr (inr (made, w)))
last_fails files plan store entropy Memory made w = tt
last_fails files plan store entropy other made w = absurd w

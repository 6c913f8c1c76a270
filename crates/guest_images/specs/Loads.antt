-- Files that are loaded and stored: what became of them, as a status.
use Rattle.std.specs.Prelude.{◌≡◌, ◌≤◌, ◌⊎◌, ℕ, List, Option, Some, Result, Err, string_bytes}
use Rattle.host_traits.specs.Folders.{Files, Errand, load_of, store_of}
use Rattle.host_traits.specs.Told.{Rose}
use Rattle.guest_files.specs.declared.load.Refusal.{Refusal}
use Rattle.guest_files.specs.declared.load.Refusal.TheVariants as refusal
use Rattle.guest_files.specs.Files.{Passes}
use Rattle.guest_files.specs.Keeping.{Parcel, IsStored, MayBeStored}
use Rattle.guest_images.specs.declared.status.Status.{Status}
use Rattle.guest_images.specs.declared.status.Status.TheVariants.{Done, ListFault, FileFault, TooMuch, Memory}

-- what a refusal of a file is as a status
abbrev pub refused : Refusal → Status
refused (refusal.File name) = FileFault name
refused (refusal.Line line kind) = ListFault line kind
refused refusal.TooMuch = TooMuch
refused refusal.Memory = Memory

-- why a file was not loaded, where so many bytes were loaded before it
abbrev pub LoadFault : Option Files → List ℕ → ℕ → Status → Type 0
LoadFault files name before (FileFault n) = string_bytes n ≡ name
LoadFault files name before TooMuch = Passes files name before
LoadFault files name before Memory = Unit {0}
LoadFault files name before other = ⊥

-- the folder's count does not fall, and rose at a load where a file is named
abbrev pub LoadsCause : {T : Type 0} → ℕ → ℕ → Option Errand → Result T Status → Type 0
LoadsCause before now last (Err (FileFault n)) = (before ≤ now) × Rose before now × (last ≡ Some (load_of (string_bytes n)))
LoadsCause before now last result = before ≤ now

-- the file of a parcel was stored; or it may have been, and the refusal names it or is want of memory
abbrev pub StoreOutcome : Option Files → Parcel → Option Files → Status → Type 0
StoreOutcome old parcel new Done = IsStored old new parcel
StoreOutcome old parcel new (FileFault name) = (string_bytes name ≡ parcel.0) × MayBeStored old new parcel
StoreOutcome old parcel new Memory = MayBeStored old new parcel
StoreOutcome old parcel new other = ⊥

-- the same at a store
abbrev pub StoresCause : ℕ → ℕ → Option Errand → Status → Type 0
StoresCause before now last (FileFault n) = (before ≤ now) × Rose before now × (last ≡ Some (store_of (string_bytes n)))
StoresCause before now last status = before ≤ now

-- 3 only where the folder failed in this run, and last at a load or a store of this name
abbrev pub FileCause : ℕ → ℕ → Option Errand → Status → Type 0
FileCause before now last (FileFault name) = Rose before now × ((last ≡ Some (load_of (string_bytes name))) ⊎ (last ≡ Some (store_of (string_bytes name))))
FileCause before now last status = Unit {0}

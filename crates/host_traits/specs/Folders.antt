-- What a folder holds and gives, and what it tells of its failures.
use Rattle.std.specs.Prelude.{◌≡◌, ◌≤◌, ◌+◌, ◌⊎◌, Bool, ℕ, nat_eq, if◌then◌else◌, List, take, drop, string_bytes, Option, Some, None, Result, Ok, Err}
use Rattle.std.specs.Cmp.Lexicographic.{pointwise}
use Rattle.std.specs.declared.vec.Vec.{Vec}
use Rattle.std.specs.declared.alloc.Global.{Global}
use Rattle.host_traits.specs.declared.folder.FolderCall.{FolderCall}
use Rattle.host_traits.specs.declared.folder.FolderCall.TheVariants.{Load, Store}
use Rattle.host_traits.specs.declared.folder.FolderError.{FolderError}
use Rattle.host_traits.specs.declared.folder.FolderError.TheVariants.{Failed, Memory}
use Rattle.host_traits.specs.Told.{Rose}

-- a call, by the bytes of the name
pub data Errand : Type 0 where
  load_of : List ℕ → Errand
  store_of : List ℕ → Errand

abbrev pub errand_of : FolderCall → Errand
errand_of (Load name) = load_of (string_bytes name)
errand_of (Store name) = store_of (string_bytes name)

-- the bytes of each file that is there, by its name
abbrev pub Files : Type 0
Files = List ℕ → Option (List ℕ)

abbrev pub is_name : List ℕ → List ℕ → Bool
is_name a b = pointwise nat_eq a b

-- the same files
abbrev pub AreFiles : Option Files → Files → Type 0
AreFiles None files = ⊥
AreFiles (Some now) files = (name : List ℕ) → now name ≡ files name

-- the files with one put or replaced
abbrev pub with_named : Files → List ℕ → List ℕ → Files
with_named files name bytes other = if is_name name other then Some bytes else files other

-- what was loaded is there, and was cut behind one byte more than were wanted
abbrev pub Loaded : Option Files → List ℕ → ℕ → Result (Vec ℕ Global) FolderError → Type 0
Loaded None name max r = Unit {0}
Loaded (Some files) name max (Ok bytes) = (content : List ℕ) × (files name ≡ Some content) × (bytes.items ≡ take (max + 1) content)
Loaded (Some files) name max (Err _) = Unit {0}

-- what was loaded is the file's part from this place on, cut behind so many bytes
abbrev pub PartLoaded : Option Files → List ℕ → ℕ → ℕ → Result (Vec ℕ Global) FolderError → Type 0
PartLoaded None name at max r = Unit {0}
PartLoaded (Some files) name at max (Ok bytes) = (content : List ℕ) × (files name ≡ Some content) × (bytes.items ≡ take max (drop at content))
PartLoaded (Some files) name at max (Err _) = Unit {0}

-- what was stored is there; after an error it may be, and nothing else changed
abbrev pub Stored : Option Files → Option Files → List ℕ → List ℕ → Result (Unit {0}) FolderError → Type 0
Stored None new name bytes r = Unit {0}
Stored (Some files) new name bytes (Ok _) = AreFiles new (with_named files name bytes)
Stored (Some files) new name bytes (Err _) = AreFiles new files ⊎ AreFiles new (with_named files name bytes)

-- the count of failures and the last failed call: a call that failed raised the count, and is the last
abbrev pub HasErrand : {T : Type 0} → Errand → ℕ → ℕ → Option Errand → Option Errand → Result T FolderError → Type 0
HasErrand errand before now old new (Ok _) = (before ≤ now) × (new ≡ old)
HasErrand errand before now old new (Err Failed) = (before ≤ now) × Rose before now × (new ≡ Some errand)
HasErrand errand before now old new (Err Memory) = (before ≤ now) × (new ≡ old)

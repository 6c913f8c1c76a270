-- Files that are stored one after another, and those that a store list keeps.
use Rattle.std.specs.Prelude.{◌≡◌, ◌⊎◌, ℕ, List, [], ◌∷◌, ◌++◌, string_bytes, Option, Some, None, Result, Ok, Err}
use Rattle.host_traits.specs.declared.folder.FolderError.{FolderError}
use Rattle.host_traits.specs.declared.folder.FolderError.TheVariants.{Failed}
use Rattle.host_traits.specs.Folders.{Files, Stored}
use Rattle.host_traits.specs.Held.{Held}
use Rattle.guest_plan.specs.declared.store.StoreLine.{StoreLine}
use Rattle.guest_plan.specs.declared.store.StoreLine.TheVariants as stored
use Rattle.guest_files.specs.declared.load.Refusal.{Refusal}
use Rattle.guest_files.specs.declared.load.Refusal.TheVariants.{File, Memory}

-- a name, and the bytes that are stored under it
abbrev pub Parcel : Type 0
Parcel = List ℕ × List ℕ

-- the file of a name holds these bytes, and no other file changed; or, after an error, it may hold them
abbrev pub IsStored : Option Files → Option Files → Parcel → Type 0
IsStored old new parcel = Stored old new parcel.0 parcel.1 (Ok tt)

abbrev pub MayBeStored : Option Files → Option Files → Parcel → Type 0
MayBeStored old new parcel = Stored old new parcel.0 parcel.1 (Err Failed)

-- one file after another
abbrev pub AreStored : Option Files → List Parcel → Option Files → Type 0
AreStored old [] new = new ≡ old
AreStored old (parcel ∷ parcels) new = (mid : Option Files) × IsStored old mid parcel × AreStored mid parcels new

-- the bytes of what is there, under this name
abbrev pub kept_as : {A : Type 0} → List ℕ → (A → List ℕ) → Option A → List Parcel
kept_as file bytes None = []
kept_as file bytes (Some x) = (file, bytes x) ∷ []

-- what a line keeps of what is held
abbrev pub kept_by : Held → StoreLine → List Parcel
kept_by h (stored.KeepDisk n file) = kept_as file (λ d. d.bytes) (h.disk n)
kept_by h (stored.KeepFile n file) = kept_as file (λ f. f.bytes) (h.file n)
kept_by h line = []

abbrev pub kept_of : Held → List StoreLine → List Parcel
kept_of h [] = []
kept_of h (line ∷ lines) = kept_by h line ++ kept_of h lines

-- How storing stopped before these files: at the first of them, which the refusal names, and which may be stored; or for want
-- of memory before it.
abbrev pub StopsAt : Option Files → List Parcel → Option Files → Refusal → Type 0
StopsAt mid [] new Memory = new ≡ mid
StopsAt mid [] new refusal = ⊥
StopsAt mid (parcel ∷ rest) new Memory = (new ≡ mid) ⊎ MayBeStored mid new parcel
StopsAt mid (parcel ∷ rest) new (File name) = (string_bytes name ≡ parcel.0) × MayBeStored mid new parcel
StopsAt mid (parcel ∷ rest) new refusal = ⊥

-- some of the files were stored, and then no other
pub record StoringStops (old : Option Files) (parcels : List Parcel) (new : Option Files) (refusal : Refusal) : Type 0 where
  pub done : List Parcel
  pub rest : List Parcel
  pub cut : parcels ≡ done ++ rest
  pub mid : Option Files
  pub stored : AreStored old done mid
  pub stops : StopsAt mid rest new refusal

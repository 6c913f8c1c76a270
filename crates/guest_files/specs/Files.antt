-- Files of a folder, loaded within the limits.
use Rattle.std.specs.Prelude.{◌≡◌, ◌≤◌, ◌<◌, ◌+◌, ◌^◌, ◌⊎◌, ℕ, List, [], ◌∷◌, length, string_bytes, Option, Some, None, Result, Ok, Err}
use Rattle.host_traits.specs.Folders.{Files, Errand, load_of, store_of}
use Rattle.host_traits.specs.Told.{Rose}
use Rattle.guest_files.specs.declared.load.Refusal.{Refusal}
use Rattle.guest_files.specs.declared.load.Refusal.TheVariants.{File, Line, TooMuch, Memory}

-- a file has this content, where the folder tells its files
abbrev pub IsThere : Option Files → List ℕ → List ℕ → Type 0
IsThere None name content = Unit {0}
IsThere (Some files) name content = files name ≡ Some content

-- the whole file was loaded, and its bytes were counted with those before
pub record IsLoaded (files : Option Files) (name : List ℕ) (before now : ℕ) (bytes : List ℕ) : Type 0 where
  pub there : IsThere files name bytes
  pub few : length bytes ≤ 2 ^ 30
  pub count : now ≡ before + length bytes
  pub all : now ≤ 2 ^ 31

-- these files were loaded, one after another
abbrev pub AreLoaded : Option Files → List (List ℕ) → ℕ → ℕ → List (List ℕ) → Type 0
AreLoaded files [] before now contents = (now ≡ before) × (contents ≡ [])
AreLoaded files (name ∷ names) before now contents =
    (bytes : List ℕ) × (mid : ℕ) × (later : List (List ℕ)) × IsLoaded files name before mid bytes × AreLoaded files names mid now later × (contents ≡ bytes ∷ later)

-- the file passes a limit: it has more than 2 ^ 30 bytes, or more than 2 ^ 31 with those that were loaded before
pub record Passes (files : Option Files) (name : List ℕ) (before : ℕ) : Type 0 where
  pub content : List ℕ
  pub there : IsThere files name content
  pub past : (2 ^ 30 < length content) ⊎ (2 ^ 31 < before + length content)

-- why a file was not loaded
abbrev pub LoadFails : Option Files → List ℕ → ℕ → Refusal → Type 0
LoadFails files name before (File n) = string_bytes n ≡ name
LoadFails files name before (Line line kind) = ⊥
LoadFails files name before TooMuch = Passes files name before
LoadFails files name before Memory = Unit {0}

-- the folder's count does not fall, and rose at a call of this kind where a file is named
abbrev pub FailsAt : {T : Type 0} → (List ℕ → Errand) → ℕ → ℕ → Option Errand → Result T Refusal → Type 0
FailsAt errand before now last (Ok x) = before ≤ now
FailsAt errand before now last (Err (File n)) = (before ≤ now) × Rose before now × (last ≡ Some (errand (string_bytes n)))
FailsAt errand before now last (Err (Line line kind)) = before ≤ now
FailsAt errand before now last (Err TooMuch) = before ≤ now
FailsAt errand before now last (Err Memory) = before ≤ now

-- a refusal that names a file
abbrev pub Names : List ℕ → Refusal → Type 0
Names name (File n) = string_bytes n ≡ name
Names name (Line line kind) = ⊥
Names name TooMuch = ⊥
Names name Memory = Unit {0}

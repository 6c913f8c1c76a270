-- What a host has once the lines of a store list were carried out, and why one of them can't be.
use Rattle.std.specs.Prelude.{◌≡◌, ◌≢◌, ◌≤◌, ◌<◌, ◌+◌, ◌%◌, ◌^◌, ◌⊎◌, false, true, ℕ, List, [], ◌∷◌, ◌++◌, length, map, string_bytes, Option, Some, None, Result, Ok, Err}
use Rattle.host_traits.specs.Folders.{Files}
use Rattle.host_traits.specs.Held.{Held, empty_file, with_file, with_dir}
use Rattle.mem_files.specs.FsVerity.{verity_file}
use Rattle.host_mem.specs.Made.{nothing, with_disk, plain_disk, composite_disk}
use Rattle.composite_spec.specs.declared.kinds.SpecFault.{SpecFault}
use Rattle.composite_spec.specs.Said.{Composite}
use Rattle.composite_spec.specs.Reading.{decoded}
use Rattle.block_map.specs.Disk.{path_of, is_alias, NoAliasBelow}
use Rattle.text_lines.specs.declared.kinds.PlanKind.{PlanKind}
use Rattle.text_lines.specs.declared.kinds.PlanKind.TheVariants as kinds
use Rattle.guest_plan.specs.declared.store.StoreLine.{StoreLine}
use Rattle.guest_plan.specs.declared.store.StoreLine.TheVariants as stored
use Rattle.guest_files.specs.declared.load.Refusal.{Refusal}
use Rattle.guest_files.specs.declared.load.Refusal.TheVariants.{File, Line, TooMuch, Memory}
use Rattle.guest_files.specs.Files.{IsLoaded, AreLoaded, Passes, LoadFails}

-- what the host has, and how many bytes were loaded so far
pub record Stock : Type 0 where
  pub held : Held
  pub loaded : ℕ

-- ---- what a line adds

-- a disk of a file's bytes, which are whole sectors
pub record AddsDisk (files : Option Files) (n : ℕ) (file : List ℕ) (old new : Stock) : Type 0 where
  pub bytes : List ℕ
  pub loaded : IsLoaded files file old.loaded new.loaded bytes
  pub whole : length bytes % 512 ≡ 0
  pub held : new.held ≡ with_disk old.held n (plain_disk bytes)

-- a file of these bytes, with its tree and its descriptor
pub record AddsVerity (files : Option Files) (n : ℕ) (file salt : List ℕ) (old new : Stock) : Type 0 where
  pub bytes : List ℕ
  pub loaded : IsLoaded files file old.loaded new.loaded bytes
  pub held : new.held ≡ with_file old.held n (verity_file bytes salt)

-- a composite file was loaded: it is in its grammar, not longer than 2 ^ 30, and no component is an alias of another
pub record IsDescribed (files : Option Files) (file : List ℕ) (before now : ℕ) (spec : Composite) : Type 0 where
  pub text : List ℕ
  pub loaded : IsLoaded files file before now text
  pub is : decoded text ≡ Ok spec
  pub few : spec.length ≤ 2 ^ 30
  pub apart : NoAliasBelow spec (length spec.components)

abbrev pub paths_of : Composite → List (List ℕ)
paths_of spec = map path_of spec.components

-- a disk by a composite file, whose paths were loaded in their order
pub record AddsComposite (files : Option Files) (n : ℕ) (file : List ℕ) (old new : Stock) : Type 0 where
  pub spec : Composite
  pub mid : ℕ
  pub described : IsDescribed files file old.loaded mid spec
  pub contents : List (List ℕ)
  pub loaded : AreLoaded files (paths_of spec) mid new.loaded contents
  pub held : new.held ≡ with_disk old.held n (composite_disk spec contents)

abbrev pub Adds : Option Files → StoreLine → Stock → Stock → Type 0
Adds files (stored.Disk n file) old new = AddsDisk files n file old new
Adds files (stored.Composite n file) old new = AddsComposite files n file old new
Adds files (stored.Verity n file salt) old new = AddsVerity files n file salt old new
Adds files (stored.Empty n) old new = new ≡ record old { held = with_file old.held n empty_file }
Adds files (stored.Dir n) old new = new ≡ record old { held = with_dir old.held n (λ name. false) }
Adds files (stored.KeepDisk n file) old new = new ≡ old
Adds files (stored.KeepFile n file) old new = new ≡ old

-- one line after another
abbrev pub Stocked : Option Files → List StoreLine → Stock → Stock → Type 0
Stocked files [] old new = new ≡ old
Stocked files (line ∷ lines) old new = (mid : Stock) × Adds files line old mid × Stocked files lines mid new

-- a host that has nothing, where so many bytes were loaded before
abbrev pub unstocked : ℕ → Stock
unstocked loaded = record { held = nothing; loaded = loaded }

-- the number that a line adds is free
abbrev pub IsFree : StoreLine → Held → Type 0
IsFree (stored.Disk n file) h = h.disk n ≡ None
IsFree (stored.Composite n file) h = h.disk n ≡ None
IsFree (stored.Verity n file salt) h = (h.file n ≡ None) × (h.dir n ≡ None)
IsFree (stored.Empty n) h = (h.file n ≡ None) × (h.dir n ≡ None)
IsFree (stored.Dir n) h = (h.file n ≡ None) × (h.dir n ≡ None)
IsFree (stored.KeepDisk n file) h = Unit {0}
IsFree (stored.KeepFile n file) h = Unit {0}

-- ---- why a line can't be carried out

-- a disk's length is no whole number of sectors
pub record IsUneven (files : Option Files) (file : List ℕ) (before : ℕ) : Type 0 where
  pub bytes : List ℕ
  pub now : ℕ
  pub loaded : IsLoaded files file before now bytes
  pub uneven : length bytes % 512 ≢ 0

-- a composite disk is longer than 2 ^ 30
pub record IsTooLong (files : Option Files) (file : List ℕ) (before : ℕ) : Type 0 where
  pub text : List ℕ
  pub now : ℕ
  pub loaded : IsLoaded files file before now text
  pub spec : Composite
  pub is : decoded text ≡ Ok spec
  pub long : 2 ^ 30 < spec.length

-- a composite file isn't in its grammar
pub record IsNoSpec (files : Option Files) (file : List ℕ) (before : ℕ) : Type 0 where
  pub text : List ℕ
  pub now : ℕ
  pub loaded : IsLoaded files file before now text
  pub fault : SpecFault
  pub is : decoded text ≡ Err fault

-- it names one file in two components, one of which may be written
pub record HasAlias (files : Option Files) (file : List ℕ) (before : ℕ) : Type 0 where
  pub text : List ℕ
  pub now : ℕ
  pub loaded : IsLoaded files file before now text
  pub spec : Composite
  pub is : decoded text ≡ Ok spec
  pub few : spec.length ≤ 2 ^ 30
  pub a : ℕ
  pub b : ℕ
  pub before_b : a < b
  pub inside : b < length spec.components
  pub alias : is_alias spec a b ≡ true

abbrev pub LineBroken : Option Files → StoreLine → ℕ → PlanKind → Type 0
LineBroken files (stored.Disk n file) before kinds.Length = IsUneven files file before
LineBroken files (stored.Composite n file) before kinds.Length = IsTooLong files file before
LineBroken files (stored.Composite n file) before kinds.Spec = IsNoSpec files file before ⊎ HasAlias files file before
LineBroken files line before kind = ⊥

-- the next path of a composite file, once those before it were loaded
pub record IsNextPath (files : Option Files) (file : List ℕ) (before : ℕ) (name : List ℕ) (now : ℕ) : Type 0 where
  pub spec : Composite
  pub mid : ℕ
  pub described : IsDescribed files file before mid spec
  pub front : List (List ℕ)
  pub rest : List (List ℕ)
  pub cut : paths_of spec ≡ front ++ name ∷ rest
  pub contents : List (List ℕ)
  pub loaded : AreLoaded files front mid now contents

-- the next file that a line needs, where so many bytes were loaded before it
abbrev pub IsNextFile : Option Files → StoreLine → ℕ → List ℕ → ℕ → Type 0
IsNextFile files (stored.Disk n file) before name now = (name ≡ file) × (now ≡ before)
IsNextFile files (stored.Composite n file) before name now = ((name ≡ file) × (now ≡ before)) ⊎ IsNextPath files file before name now
IsNextFile files (stored.Verity n file salt) before name now = (name ≡ file) × (now ≡ before)
IsNextFile files line before name now = ⊥

-- why the line of this number was not carried out
abbrev pub LineStops : Option Files → StoreLine → ℕ → ℕ → Refusal → Type 0
LineStops files line before number (File name) = (now : ℕ) × IsNextFile files line before (string_bytes name) now
LineStops files line before number (Line at kind) = (at ≡ number) × LineBroken files line before kind
LineStops files line before number TooMuch = (name : List ℕ) × (now : ℕ) × IsNextFile files line before name now × Passes files name now
LineStops files line before number Memory = Unit {0}

-- The first line that was not carried out, and why. The first line of a list has the number 2.
pub record StockFails (files : Option Files) (lines : List StoreLine) (old : Stock) (refusal : Refusal) : Type 0 where
  pub front : List StoreLine
  pub line : StoreLine
  pub rest : List StoreLine
  pub cut : lines ≡ front ++ line ∷ rest
  pub mid : Stock
  pub done : Stocked files front old mid
  pub stops : LineStops files line mid.loaded (length front + 2) refusal

-- ---- parts of the work

-- what became of a composite file's text
abbrev pub Described : List ℕ → ℕ → Result Composite Refusal → Type 0
Described text number (Ok spec) = (decoded text ≡ Ok spec) × (spec.length ≤ 2 ^ 30) × NoAliasBelow spec (length spec.components)
Described text number (Err (Line at kinds.Length)) = (at ≡ number) × ((spec : Composite) × (decoded text ≡ Ok spec) × (2 ^ 30 < spec.length))
Described text number (Err (Line at kinds.Spec)) = (at ≡ number) × (((fault : SpecFault) × (decoded text ≡ Err fault))
    ⊎ ((spec : Composite) × (decoded text ≡ Ok spec) × (spec.length ≤ 2 ^ 30) × (a : ℕ) × (b : ℕ) × (a < b) × (b < length spec.components) × (is_alias spec a b ≡ true)))
Described text number (Err Memory) = Unit {0}
Described text number (Err other) = ⊥

-- why the file of a disk, or of a composite disk, was no disk's
abbrev pub DiskStops : Option Files → List ℕ → ℕ → ℕ → Refusal → Type 0
DiskStops files file before number (Line at kinds.Length) = (at ≡ number) × IsUneven files file before
DiskStops files file before number (Line at kind) = ⊥
DiskStops files file before number refusal = LoadFails files file before refusal

abbrev pub CompositeStops : Option Files → List ℕ → ℕ → ℕ → Refusal → Type 0
CompositeStops files file before number (File name) = (string_bytes name ≡ file) ⊎ ((now : ℕ) × IsNextPath files file before (string_bytes name) now)
CompositeStops files file before number (Line at kinds.Length) = (at ≡ number) × IsTooLong files file before
CompositeStops files file before number (Line at kinds.Spec) = (at ≡ number) × (IsNoSpec files file before ⊎ HasAlias files file before)
CompositeStops files file before number (Line at kind) = ⊥
CompositeStops files file before number TooMuch = Passes files file before ⊎ ((name : List ℕ) × (now : ℕ) × IsNextPath files file before name now × Passes files name now)
CompositeStops files file before number Memory = Unit {0}

-- the first of these files that was not loaded, and why
pub record PathsFail (files : Option Files) (names : List (List ℕ)) (before : ℕ) (refusal : Refusal) : Type 0 where
  pub front : List (List ℕ)
  pub name : List ℕ
  pub rest : List (List ℕ)
  pub cut : names ≡ front ++ name ∷ rest
  pub now : ℕ
  pub contents : List (List ℕ)
  pub loaded : AreLoaded files front before now contents
  pub fails : LoadFails files name now refusal

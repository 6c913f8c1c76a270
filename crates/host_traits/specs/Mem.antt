-- What contracts see of a source, a sink and a folder in memory, and what each of their calls makes of it.
use Rattle.std.specs.Prelude.{◌≡◌, ◌<◌, ◌+◌, ◌-◌, ◌^◌, min, ℕ, Bool, true, false, not, ◌||◌, nat_eq, nat_lt, if◌then◌else◌, List, [], ◌∷◌, ◌++◌, length, take, drop, Option, Some, None, Result, Ok, Err}
use Rattle.std.specs.List.{list_any}
use Rattle.host_traits.specs.declared.folder.FolderError.{FolderError}
use Rattle.host_traits.specs.declared.folder.FolderError.TheVariants.{Failed, Memory}
use Rattle.host_traits.specs.declared.streams.Failed.{Failed as StreamFailed}
use Rattle.host_traits.specs.Folders.{Errand, load_of, store_of, Files, AreFiles, is_name, with_named}
use Rattle.host_traits.specs.Held.{is_there}

-- how many calls were made, the numbers of those that are to fail, and how many failed
pub record Counts : Type 0 where
  pub calls : ℕ
  pub failing : List ℕ
  pub faults : ℕ

-- a number one higher, which stays at the last value of a u64
abbrev pub one_more : ℕ → ℕ
one_more n = min (n + 1) (2 ^ 64 - 1)

-- is the next call listed among those that are to fail?
abbrev pub is_listed : Counts → Bool
is_listed c = list_any (λ k. nat_eq k c.calls) c.failing

-- with another list of calls that are to fail
abbrev pub listing : Counts → List ℕ → Counts
listing c numbers = record c { failing = numbers }

-- after a call that didn't fail, and after one that failed
abbrev pub called : Counts → Counts
called c = record c { calls = one_more c.calls }

abbrev pub failed : Counts → Counts
failed c = record c { calls = one_more c.calls; faults = one_more c.faults }

abbrev pub unused : Counts
unused = record { calls = 0; failing = []; faults = 0 }

-- a source: the bytes that are left, the most that one read gives, and its counts
pub record SourceData : Type 0 where
  pub left : List ℕ
  pub piece : ℕ
  pub counts : Counts

-- What a read into a space makes of a source and of the space. It fails exactly where it is listed.
abbrev pub Reads : SourceData → List ℕ → Result ℕ StreamFailed → SourceData → List ℕ → Type 0
Reads old space (Ok n) new filled =
    (is_listed old.counts ≡ false) × (n ≡ min old.piece (min (length old.left) (length space)))
    × (filled ≡ take n old.left ++ drop n space)
    × (new ≡ record old { left = drop n old.left; counts = called old.counts })
Reads old space (Err _) new filled =
    (is_listed old.counts ≡ true) × (filled ≡ space)
    × (new ≡ record old { counts = failed old.counts })

-- a sink: its bytes, the most that it holds, and its counts
pub record SinkData : Type 0 where
  pub bytes : List ℕ
  pub room : ℕ
  pub counts : Counts

-- is a write refused, because its bytes pass the room that is left, or because it is listed?
abbrev pub is_refused : SinkData → List ℕ → Bool
is_refused s bytes = nat_lt (s.room - length s.bytes) (length bytes) || is_listed s.counts

-- what a write makes of a sink: one that fails writes nothing
abbrev pub Writes : SinkData → List ℕ → Result (Unit {0}) StreamFailed → SinkData → Type 0
Writes old bytes (Ok _) new =
    (is_refused old bytes ≡ false)
    × (new ≡ record old { bytes = old.bytes ++ bytes; counts = called old.counts })
Writes old bytes (Err _) new =
    (is_refused old bytes ≡ true) × (new ≡ record old { counts = failed old.counts })

-- a file in memory, by the bytes of its name
pub record Named : Type 0 where
  pub name : List ℕ
  pub bytes : List ℕ

-- a folder: its files, its counts, and the last call that failed
pub record FolderData : Type 0 where
  pub files : List Named
  pub counts : Counts
  pub last : Option Errand

-- the bytes of the first file of a name
abbrev pub found_in : List Named → Files
found_in [] name = None
found_in (f ∷ files) name = if is_name f.name name then Some f.bytes else found_in files name

-- the place of the first file of a name, or the number of files
abbrev pub place_in : List Named → List ℕ → ℕ
place_in [] name = 0
place_in (f ∷ files) name = if is_name f.name name then 0 else place_in files name + 1

-- does a load fail, because no file has the name, or because it is listed?
abbrev pub is_lacking : FolderData → List ℕ → Bool
is_lacking f name = not (is_there (found_in f.files name)) || is_listed f.counts

-- What a load of any part of a file makes of a folder: no file changes. One that ended for want of memory is counted too.
abbrev pub Loads : {T : Type 0} → FolderData → List ℕ → Result T FolderError → FolderData → Type 0
Loads old name (Ok _) new =
    (is_lacking old name ≡ false) × (new ≡ record old { counts = called old.counts })
Loads old name (Err Failed) new =
    (is_lacking old name ≡ true)
    × (new ≡ record old { counts = failed old.counts; last = Some (load_of name) })
Loads old name (Err Memory) new = new ≡ record old { counts = called old.counts }

-- what a store makes of a folder: one that doesn't end well changes no file
abbrev pub Stores : FolderData → List ℕ → List ℕ → Result (Unit {0}) FolderError → FolderData → Type 0
Stores old name bytes (Ok _) new =
    (is_listed old.counts ≡ false)
    × AreFiles (Some (found_in new.files)) (with_named (found_in old.files) name bytes)
    × (new.counts ≡ called old.counts) × (new.last ≡ old.last)
Stores old name bytes (Err Failed) new =
    (is_listed old.counts ≡ true)
    × (new ≡ record old { counts = failed old.counts; last = Some (store_of name) })
Stores old name bytes (Err Memory) new = new ≡ record old { counts = called old.counts }

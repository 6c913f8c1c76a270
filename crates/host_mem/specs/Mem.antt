-- What a host in memory is, what it tells, and when it fails.
use Rattle.std.specs.Prelude.{◌≡◌, ◌+◌, ◌*◌, ◌<◌, ◌^◌, nat_le, length, not, ◌||◌, Bool, true, false, ℕ, nat_eq, List, [], ◌∷◌, Option, Some, None, Result, Ok, Err, ◌⊎◌}
use Rattle.std.specs.Option.{option_map}
use Rattle.std.specs.List.{list_any}
use Rattle.composite_spec.specs.Said.{Composite, IsComposite}
use Rattle.host_traits.specs.declared.calls.Call.{Call}
use Rattle.host_traits.specs.declared.calls.Said.{Said}
use Rattle.host_traits.specs.declared.host.HostError.{HostError}
use Rattle.host_traits.specs.declared.host.HostError.TheVariants.{Failed, Memory}
use Rattle.host_traits.specs.Held.{Held, Disk, name_with, serve}
use Rattle.host_traits.specs.Mem.{one_more}
use Rattle.host_traits.specs.Told.{Told, Asked}
use Rattle.mem_files.specs.Files.{Entries, at, Puts, FileData, file_of, NameList, has_name}
use Rattle.host_mem.specs.Made.{plain_disk, composite_disk}

-- ---- disks

-- a plain disk's bytes, or what a composite disk's map says and the files of its components
pub data DiskData : Type 0 where
  plain_of : List ℕ → DiskData
  composite_of : Composite → List (List ℕ) → DiskData

abbrev pub disk_of : DiskData → Disk
disk_of (plain_of bytes) = plain_disk bytes
disk_of (composite_of s files) = composite_disk s files

-- a description that a map can be made of, and a file for each component
pub record IsMapped (s : Composite) (files : List (List ℕ)) : Type 0 where
  pub is : IsComposite s
  pub count : length files ≡ length s.components

abbrev pub IsDisk : DiskData → Type 0
IsDisk (plain_of bytes) = Unit {0}
IsDisk (composite_of s files) = IsMapped s files

-- ---- the host

-- what is held
abbrev pub held_of : Entries DiskData → Entries FileData → Entries NameList → Held
held_of disks files dirs = record {
  disk = λ n. option_map disk_of (at disks n);
  file = λ n. option_map file_of (at files n);
  dir = λ n. option_map has_name (at dirs n);
}

-- does a disk have these sectors?
abbrev pub covers : Option DiskData → ℕ → ℕ → Bool
covers None sector count = false
covers (Some d) sector count = nat_le (512 * (sector + count)) (length (disk_of d).bytes)

-- does a directory have this name?
abbrev pub names_have : Option NameList → List ℕ → Bool
names_have None name = false
names_have (Some names) name = has_name names name

-- may a name and a number be made? The name isn't there, and the number is neither a file's nor a directory's.
abbrev pub may_make : Option NameList → Bool → Bool → List ℕ → Bool
may_make None file dir name = false
may_make (Some names) file dir name = not (has_name names name || file || dir)

-- one name more in a directory
pub record Named (old new : Entries NameList) (k : ℕ) (name : List ℕ) : Type 0 where
  pub before : NameList
  pub after : NameList
  pub there : at old k ≡ Some before
  pub added : (other : List ℕ) → has_name after other ≡ name_with (has_name before) name true other
  pub puts : Puts old new k after

-- how many calls were made, which are to fail, how many failed, and which of them was the last
pub record Count : Type 0 where
  pub calls : ℕ
  pub failing : List ℕ
  pub faults : ℕ
  pub last_failed : Option Call

abbrev pub unused : Count
unused = record { calls = 0; failing = []; faults = 0; last_failed = None }

-- is the next call listed to fail?
abbrev pub is_listed : Count → Bool
is_listed t = list_any (λ k. nat_eq k t.calls) t.failing

-- a host in memory
pub record Mem : Type 0 where
  pub disks : Entries DiskData
  pub files : Entries FileData
  pub dirs : Entries NameList
  pub count : Count

abbrev pub mem_held : Mem → Held
mem_held m = held_of m.disks m.files m.dirs

abbrev pub is_none : List ℕ → Bool
is_none [] = true
is_none (n ∷ ns) = false

abbrev pub told_by : Held → Count → Told
told_by held t = record {
  faults = t.faults;
  last_failed = t.last_failed;
  heard = None;
  made = None;
  held = Some held;
  ahead = None;
  scarce = true;
  honest = is_none t.failing;
}

abbrev pub mem_told : Mem → Told
mem_told m = told_by (mem_held m) m.count

-- one call more
abbrev pub counted : Count → Count
counted t = record t { calls = one_more t.calls }

-- one failure more
abbrev pub failed : Count → Call → Count
failed t call = record t { faults = one_more t.faults; last_failed = Some call }

-- a call begins: it fails where its number is listed
abbrev pub Begins : Call → Bool → Count → Count → Type 0
Begins call true old new = (is_listed old ≡ true) × (new ≡ failed (counted old) call) × (old.faults < 2 ^ 64)
Begins call false old new = (is_listed old ≡ false) × (new ≡ counted old)

-- a call ends: a failure is counted
abbrev pub Ends : {T : Type 0} → Call → Result T HostError → Count → Count → Type 0
Ends call (Ok x) old new = new ≡ old
Ends call (Err Failed) old new = (new ≡ failed old call) × (old.faults < 2 ^ 64)
Ends call (Err Memory) old new = new ≡ old

-- what a call that isn't listed does to what is held: it fails where it has to, and then changes nothing
abbrev pub Does : {T : Type 0} → Call → List ℕ → (T → Said) → Result T HostError → Held → Held → Type 0
Does call given said (Ok x) old new = serve old call given ≡ Some (said x, new)
Does call given said (Err Failed) old new = (serve old call given ≡ None) × (new ≡ old)
Does call given said (Err Memory) old new = new ≡ old

-- when a call fails: exactly where its number is listed, or where what is held can't serve it
abbrev pub FailsBy : {T : Type 0} → Call → List ℕ → Result T HostError → Mem → Type 0
FailsBy call given (Ok x) old = is_listed old.count ≡ false
FailsBy call given (Err Failed) old = (is_listed old.count ≡ true) ⊎ (serve (mem_held old) call given ≡ None)
FailsBy call given (Err Memory) old = is_listed old.count ≡ false

-- each call is counted, whatever comes of it, and the list of those that are to fail stays
pub record IsNumbered (old new : Count) : Type 0 where
  pub calls : new.calls ≡ one_more old.calls
  pub failing : new.failing ≡ old.failing

-- what is told of a call and its answer: the answer is what is held, the call fails only as it has to, and it is counted
pub record Tells {T : Type 0} (call : Call) (given : List ℕ) (said : T → Said) (result : Result T HostError) (old new : Mem) : Type 0 where
  pub asked : Asked call given said result (mem_told old) (mem_told new)
  pub fails : FailsBy call given result old
  pub counts : IsNumbered old.count new.count

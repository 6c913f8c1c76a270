-- The table of a disk, as it is read at boot, and the parts in it: the two of an APK device, the one of an instance image.
use Rattle.std.specs.Prelude.{◌≡◌, ◌⊎◌, ℕ, ◌+◌, ◌-◌, ◌^◌, ◌<◌, ◌≤◌, true, false, List, [], ◌∷◌, ◌++◌, length, Option, Some, None, Result, Ok, Err, ◌==◌, if◌then◌else◌, string_bytes, slice_get}
use Rattle.std.specs.Global.{Vec}
use Rattle.mg_base.specs.declared.values.Span.{Span}
use Rattle.host_traits.specs.declared.calls.Call.{Call}
use Rattle.host_traits.specs.declared.calls.Call.TheVariants.{BlockSize, BlockRead}
use Rattle.host_traits.specs.declared.calls.Said.TheVariants.{Number, Bytes}
use Rattle.host_traits.specs.Told.{Exchanges}
use Rattle.host_traits.specs.Did.{Trace, IsFailed}
use Rattle.gpt.specs.declared.faults.GptFault.{GptFault}
use Rattle.gpt.specs.declared.faults.GptFault.TheVariants as broken
use Rattle.gpt.specs.declared.values.Table.{Table}
use Rattle.gpt.specs.Rules.{is_sized, gpt_of}
use Rattle.gpt.specs.Names.{part}
use Rattle.guest_boot.specs.declared.faults.BootCause.{BootCause}
use Rattle.guest_boot.specs.declared.faults.BootCause.TheVariants.{Gpt, NoPart, Failed, Short, Memory}

-- ---- the three calls of a table: the number of sectors, the first 40 and the last 40

abbrev pub size_call : ℕ → Call
size_call disk = BlockSize disk

abbrev pub head_call : ℕ → Call
head_call disk = BlockRead disk 0 40

abbrev pub tail_call : ℕ → ℕ → Call
tail_call disk sectors = BlockRead disk (sectors - 40) 40

abbrev pub IsCall : Call → Call → Type 0
IsCall this call = call ≡ this

-- a call for the table of a disk
abbrev pub IsTableCall : ℕ → Call → Type 0
IsTableCall disk call = IsCall (size_call disk) call ⊎ IsCall (head_call disk) call ⊎ ((sectors : ℕ) × (is_sized sectors ≡ true) × IsCall (tail_call disk sectors) call)

-- the number of sectors was heard, and a disk with a table may have so many
pub record HeardSize (disk : ℕ) (own : Exchanges) : Type 0 where
  pub sectors : ℕ
  pub own_is : own ≡ (size_call disk, Number sectors) ∷ []
  pub sized : is_sized sectors ≡ true

-- then the first 40 sectors
pub record HeardHead (disk : ℕ) (own : Exchanges) : Type 0 where
  pub sectors : ℕ
  pub head : List ℕ
  pub own_is : own ≡ (size_call disk, Number sectors) ∷ (head_call disk, Bytes head) ∷ []
  pub sized : is_sized sectors ≡ true
  pub head_len : length head ≡ 20480

-- then the last 40
pub record HeardEnds (disk : ℕ) (own : Exchanges) : Type 0 where
  pub sectors : ℕ
  pub head : List ℕ
  pub tail : List ℕ
  pub own_is : own ≡ (size_call disk, Number sectors) ∷ (head_call disk, Bytes head) ∷ (tail_call disk sectors, Bytes tail) ∷ []
  pub sized : is_sized sectors ≡ true
  pub head_len : length head ≡ 20480
  pub tail_len : length tail ≡ 20480

-- these exchanges are those of the table
pub record ReadsTable (disk : ℕ) (own : Exchanges) (t : Table) : Type 0 where
  pub ends : HeardEnds disk own
  pub is : gpt_of ends.head ends.tail ends.sectors ≡ Ok t

-- ---- why a disk's table was not read

-- the number of sectors is none that a disk with a table may have, and nothing else was asked
pub record HeardNoSize (disk : ℕ) (own : Exchanges) (why : GptFault) : Type 0 where
  pub sectors : ℕ
  pub own_is : own ≡ (size_call disk, Number sectors) ∷ []
  pub sized : is_sized sectors ≡ false
  pub why_is : why ≡ broken.Size sectors

-- the two ends break this rule first
pub record BreaksTable (disk : ℕ) (own : Exchanges) (why : GptFault) : Type 0 where
  pub ends : HeardEnds disk own
  pub is : gpt_of ends.head ends.tail ends.sectors ≡ Err why

abbrev pub TableRefused : ℕ → Exchanges → GptFault → Type 0
TableRefused disk own broken.Memory = ⊥
TableRefused disk own why = HeardNoSize disk own why ⊎ BreaksTable disk own why

-- the first 40 sectors came short, and nothing was asked after them
pub record HeadIsShort (disk : ℕ) (own : Exchanges) (got : ℕ) : Type 0 where
  pub sectors : ℕ
  pub head : List ℕ
  pub own_is : own ≡ (size_call disk, Number sectors) ∷ (head_call disk, Bytes head) ∷ []
  pub sized : is_sized sectors ≡ true
  pub got_is : got ≡ length head
  pub short : got < 20480

-- the last 40 came short
pub record TailIsShort (disk : ℕ) (own : Exchanges) (got : ℕ) : Type 0 where
  pub sectors : ℕ
  pub head : List ℕ
  pub tail : List ℕ
  pub own_is : own ≡ (size_call disk, Number sectors) ∷ (head_call disk, Bytes head) ∷ (tail_call disk sectors, Bytes tail) ∷ []
  pub sized : is_sized sectors ≡ true
  pub head_len : length head ≡ 20480
  pub got_is : got ≡ length tail
  pub short : got < 20480

abbrev pub EndIsShort : ℕ → Exchanges → ℕ → ℕ → Type 0
EndIsShort disk own asked got = (asked ≡ 20480) × (HeadIsShort disk own got ⊎ TailIsShort disk own got)

-- the call that comes next, after these exchanges
abbrev pub TableNext : ℕ → Exchanges → Call → Type 0
TableNext disk own call =
    ((own ≡ []) × IsCall (size_call disk) call) ⊎ (HeardSize disk own × IsCall (head_call disk) call) ⊎ ((h : HeardHead disk own) × IsCall (tail_call disk h.sectors) call)

-- the exchanges of a table, as far as they went: none, or the first ones, each whole
abbrev pub TableSoFar : ℕ → Exchanges → Type 0
TableSoFar disk own = (own ≡ []) ⊎ HeardSize disk own ⊎ HeardHead disk own ⊎ HeardEnds disk own

-- where the next call failed, it is the one that did; else none did
abbrev pub TableFails : ℕ → BootCause → Trace → Type 0
TableFails disk (Gpt why) t = (t.failed ≡ 0) × TableRefused disk t.own why
TableFails disk (Short asked got) t = (t.failed ≡ 0) × EndIsShort disk t.own asked got
TableFails disk (Failed faults) t = IsFailed (TableNext disk t.own) t faults
TableFails disk Memory t = (t.failed ≡ 0) × TableSoFar disk t.own
TableFails disk other t = ⊥

-- a disk, and its table
pub record TableOn : Type 0 where
  pub disk : ℕ
  pub table : Table

-- what came of reading a disk's table
abbrev pub TableOutcome : ℕ → Result TableOn BootCause → Trace → Type 0
TableOutcome disk (Ok known) t = (t.failed ≡ 0) × (known.disk ≡ disk) × ReadsTable disk t.own known.table
TableOutcome disk (Err why) t = TableFails disk why t

-- ---- the tables that were read, and the parts in them

-- the table of a disk among them
unfoldable pub table_on : ℕ → List TableOn → Option Table
table_on disk [] = None
table_on disk (known ∷ tables) = if known.disk == disk then Some known.table else table_on disk tables

-- a disk's table was read before, or it was read now
abbrev pub HasTable : Option Table → ℕ → Exchanges → Table → Type 0
HasTable (Some known) disk own table = (own ≡ []) × (table ≡ known)
HasTable None disk own table = ReadsTable disk own table

-- the same as far as it went: a table that was read before is not asked for again
abbrev pub HasSoFar : Option Table → ℕ → Exchanges → Type 0
HasSoFar (Some known) disk own = own ≡ []
HasSoFar None disk own = TableSoFar disk own

-- the tables that were read, with it
abbrev pub with_table : Option Table → List TableOn → ℕ → Table → List TableOn
with_table (Some known) tables disk table = tables
with_table None tables disk table = tables ++ record { disk = disk; table = table } ∷ []

abbrev pub parts_of : List ℕ → List ℕ → Option Span → Option Span → Result (Span × Span) (List ℕ)
parts_of apk idsig None found = Err apk
parts_of apk idsig (Some a) None = Err idsig
parts_of apk idsig (Some a) (Some i) = Ok (a, i)

-- the parts of these two names, or the first name that no part has
abbrev pub parts_in : Table → List ℕ → List ℕ → Result (Span × Span) (List ℕ)
parts_in table apk idsig = parts_of apk idsig (part apk table.entries) (part idsig table.entries)

abbrev pub part_of : List ℕ → Option Span → Result Span (List ℕ)
part_of name None = Err name
part_of name (Some found) = Ok found

-- the part of this name, or the name, where no part has it
abbrev pub part_in : Table → List ℕ → Result Span (List ℕ)
part_in table name = part_of name (part name table.entries)

-- what is looked up for an APK device, and for an instance image
abbrev pub both_parts : List ℕ → List ℕ → Table → Result (Span × Span) (List ℕ)
both_parts apk idsig table = parts_in table apk idsig

abbrev pub one_part : List ℕ → Table → Result Span (List ℕ)
one_part name table = part_in table name

-- What is looked up in a disk's table is there; the table is one that these exchanges gave, or one that was read before.
pub record Finds {A : Type 0} (tables : List TableOn) (disk : ℕ) (look : Table → Result A (List ℕ)) (own : Exchanges) (new : List TableOn) (found : A) : Type 0 where
  pub table : Table
  pub has : HasTable (table_on disk tables) disk own table
  pub found_is : look table ≡ Ok found
  pub new_is : new ≡ with_table (table_on disk tables) tables disk table

-- the table lacks a part, and this is the first that it lacks
pub record Lacks {A : Type 0} (tables : List TableOn) (disk : ℕ) (look : Table → Result A (List ℕ)) (own : Exchanges) (name : List ℕ) : Type 0 where
  pub table : Table
  pub has : HasTable (table_on disk tables) disk own table
  pub lacks : look table ≡ Err name

-- why it was not found: the table has no such part, or the disk's table was to be read, and was not
abbrev pub FindFails : {A : Type 0} → List TableOn → ℕ → (Table → Result A (List ℕ)) → BootCause → Trace → Type 0
FindFails tables disk look (NoPart name) t = (t.failed ≡ 0) × Lacks tables disk look t.own (string_bytes name)
FindFails tables disk look Memory t = (t.failed ≡ 0) × HasSoFar (table_on disk tables) disk t.own
FindFails tables disk look why t = (table_on disk tables ≡ None) × TableFails disk why t

abbrev pub FindOutcome : {A : Type 0} → List TableOn → ℕ → (Table → Result A (List ℕ)) → List TableOn → Result A BootCause → Trace → Type 0
FindOutcome tables disk look new (Ok found) t = (t.failed ≡ 0) × Finds tables disk look t.own new found
FindOutcome tables disk look new (Err why) t = FindFails tables disk look why t

-- ---- the steps

-- the cause of a table that was not read: want of memory is boot's own
abbrev pub gpt_cause : GptFault → BootCause
gpt_cause broken.Memory = Memory
gpt_cause why = Gpt why

-- what came of asking for the number of sectors
abbrev pub SizeOutcome : ℕ → Result ℕ BootCause → Trace → Type 0
SizeOutcome disk (Ok sectors) t = (t.failed ≡ 0) × (t.own ≡ (size_call disk, Number sectors) ∷ []) × (is_sized sectors ≡ true)
SizeOutcome disk (Err (Gpt why)) t = (t.failed ≡ 0) × HeardNoSize disk t.own why
SizeOutcome disk (Err (Failed faults)) t = (t.own ≡ []) × IsFailed (IsCall (size_call disk)) t faults
SizeOutcome disk (Err Memory) t = (t.failed ≡ 0) × (t.own ≡ [])
SizeOutcome disk (Err other) t = ⊥

-- the answer to the one call is this, whole
abbrev pub IsEnd : Call → List ℕ → Trace → Type 0
IsEnd call bytes t = (t.failed ≡ 0) × (t.own ≡ (call, Bytes bytes) ∷ []) × (length bytes ≡ 20480)

-- it came short
pub record IsShortEnd (call : Call) (t : Trace) (asked got : ℕ) : Type 0 where
  pub failed : t.failed ≡ 0
  pub bytes : List ℕ
  pub own_is : t.own ≡ (call, Bytes bytes) ∷ []
  pub asked_is : asked ≡ 20480
  pub got_is : got ≡ length bytes
  pub short : got < 20480

abbrev pub EndFails : Call → BootCause → Trace → Type 0
EndFails call (Short asked got) t = IsShortEnd call t asked got
EndFails call (Failed faults) t = (t.own ≡ []) × IsFailed (IsCall call) t faults
EndFails call Memory t = ((t.failed ≡ 0) × (t.own ≡ [])) ⊎ ((bytes : List ℕ) × IsEnd call bytes t)
EndFails call other t = ⊥

abbrev pub EndOutcome : Call → Result (Vec ℕ) BootCause → Trace → Type 0
EndOutcome call (Ok v) t = IsEnd call v.items t
EndOutcome call (Err why) t = EndFails call why t

-- the cause of a part of this name that isn't there
abbrev pub IsNoPart : List ℕ → BootCause → Type 0
IsNoPart name (NoPart s) = string_bytes s ≡ name
IsNoPart name Memory = Unit {0}
IsNoPart name other = ⊥

-- what was looked up, or the first name that isn't there
abbrev pub IsLooked : {A : Type 0} → Result A (List ℕ) → Result A BootCause → Type 0
IsLooked looked (Ok found) = looked ≡ Ok found
IsLooked looked (Err (NoPart name)) = looked ≡ Err (string_bytes name)
IsLooked looked (Err Memory) = Unit {0}
IsLooked looked (Err other) = ⊥

-- the place of a disk's table among the tables that were read, this one too
pub record IsPlaced (tables : List TableOn) (disk : ℕ) (own : Exchanges) (new : List TableOn) (place : ℕ) : Type 0 where
  pub table : Table
  pub has : HasTable (table_on disk tables) disk own table
  pub new_is : new ≡ with_table (table_on disk tables) tables disk table
  pub known : TableOn
  pub stands : slice_get new place ≡ Some known
  pub table_is : known.table ≡ table

-- what came of having a disk's table: it was to be read, and was not; or there was no room for it
abbrev pub PlaceFails : List TableOn → ℕ → BootCause → Trace → Type 0
PlaceFails tables disk Memory t = (t.failed ≡ 0) × HasSoFar (table_on disk tables) disk t.own
PlaceFails tables disk why t = (table_on disk tables ≡ None) × TableFails disk why t

abbrev pub PlaceOutcome : List TableOn → ℕ → List TableOn → Result ℕ BootCause → Trace → Type 0
PlaceOutcome tables disk new (Ok place) t = (t.failed ≡ 0) × IsPlaced tables disk t.own new place
PlaceOutcome tables disk new (Err why) t = PlaceFails tables disk why t

-- the first table of a disk among them, and its place
abbrev pub IsKnown : List TableOn → ℕ → Option ℕ → Type 0
IsKnown tables disk None = table_on disk tables ≡ None
IsKnown tables disk (Some place) = (known : TableOn) × (slice_get tables place ≡ Some known) × (table_on disk tables ≡ Some known.table)

-- a part has a sector, and ends by 2 ^ 40
pub record IsSpan (s : Span) : Type 0 where
  pub some : 1 ≤ s.sectors
  pub end : s.first + s.sectors ≤ 2 ^ 40

abbrev pub AreSpans : Span × Span → Type 0
AreSpans parts = IsSpan parts.0 × IsSpan parts.1

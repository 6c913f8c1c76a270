-- What comes of a request on a writable file.
use Rattle.std.specs.Prelude.{◌≡◌, ◌⊎◌, ℕ, ◌+◌, ◌-◌, ◌/◌, ◌%◌, ◌^◌, ◌<◌, ◌≤◌, min, max, List, [], ◌∷◌, ◌++◌, length, take, drop, Option, Some, None, Result, Ok, Err, nat_eq, if◌then◌else◌}
use Rattle.host_traits.specs.declared.calls.Call.{Call}
use Rattle.host_traits.specs.Held.{Held, resized}
use Rattle.host_traits.specs.declared.calls.Call.TheVariants.{TreeRead, FileWrite, Resize}
use Rattle.host_traits.specs.declared.calls.Said.{Said}
use Rattle.host_traits.specs.declared.calls.Said.TheVariants.{Bytes, Done}
use Rattle.host_traits.specs.Told.{Exchanges, kind_of, kind_bytes}
use Rattle.host_traits.specs.Did.{Trace, IsIn, IsFailed}
use Rattle.sha_tree.specs.Tree.{block_count}
use Rattle.leaf_tree.specs.Outcomes.{IsTreeCall}
use Rattle.verity_path.specs.Order.{IsLast}
use Rattle.verity_path.specs.Range.{end_of}
use Rattle.verity_path.specs.declared.walk.WalkFault.{WalkFault}
use Rattle.verity_path.specs.declared.walk.WalkFault.TheVariants as walk
use Rattle.rw_file.specs.declared.faults.RwFault.{RwFault}
use Rattle.rw_file.specs.declared.faults.RwFault.TheVariants as fault
use Rattle.rw_file.specs.declared.faults.Written.{Written}
use Rattle.rw_file.specs.Contents.{Meaning, IsSame, IsAtHost, IsVersion, Only, version, next_border}
use Rattle.rw_file.specs.Calls.{IsForFileRead, IsForFileWrite, IsForCut, changes_in, block_writes, WritesTo, CutsOnce, CutsNone, read_calls, block_calls, write_calls, cut_calls}
use Rattle.rw_file.specs.Blame.{Each, IsFileBlame}
use Rattle.rw_file.specs.Asked.{AreAsked, AreBegun}

-- the fault of a request, from that of one of its parts
abbrev pub because : WalkFault → RwFault
because (walk.Mismatch x) = fault.Mismatch x
because (walk.Short asked got) = fault.Short asked got
because (walk.Failed faults) = fault.Failed faults
because walk.Memory = fault.Memory

-- What a fault of a request says: a part of it was not done, so P; it ends past the limit, so Q of that end; or there was no
-- room for it, so R.
abbrev pub FaultSays : (WalkFault → Type 0) → (ℕ → Type 0) → Type 0 → RwFault → Type 0
FaultSays P Q R (fault.Mismatch x) = P (walk.Mismatch x)
FaultSays P Q R (fault.Short asked got) = P (walk.Short asked got)
FaultSays P Q R (fault.Failed faults) = P (walk.Failed faults)
FaultSays P Q R fault.Memory = R ⊎ P walk.Memory
FaultSays P Q R (fault.TooLarge end) = Q end

-- The file stands for this content afterwards, and a host that held the bytes before it holds these; one that backed the tree
-- of the content before it backs that of this one.
pub record IsNow (before after : Meaning) (file : ℕ) (x y : Option Held) (content new : List ℕ) : Type 0 where
  pub now : after.is new
  pub agree : IsAtHost x file content → IsAtHost y file new
  pub backed : before.backed x content → after.backed y new

-- the fault comes from a page of the tree: the last of these calls heard it, or it is a call on the tree that failed
abbrev pub IsTreeFault : ℕ → (Call → Type 0) → Exchanges → Trace → WalkFault → Type 0
IsTreeFault file IsTree rest t (walk.Mismatch x) = (bytes : List ℕ) × IsLast (TreeRead file x.level x.index) (Bytes bytes) rest
IsTreeFault file IsTree rest t (walk.Short asked got) =
    (call : Call) × (bytes : List ℕ) × IsLast call (Bytes bytes) rest × (kind_of call ≡ kind_bytes asked) × (got ≡ length bytes) × (got < asked)
IsTreeFault file IsTree rest t (walk.Failed faults) = IsFailed IsTree t faults
IsTreeFault file IsTree rest t walk.Memory = Unit {0}

-- A call on the file's bytes was answered, and isn't counted: the tree isn't local, no other call on the bytes came after it, and
-- the tree then met the fault.
pub record IsUncounted (is_local : Type 0) (file : ℕ) (IsTree : Call → Type 0) (call : Call) (t : Trace) (why : WalkFault) : Type 0 where
  pub far : is_local → ⊥
  pub before : Exchanges
  pub rest : Exchanges
  pub own_is : t.own ≡ before ++ (call, Done) ∷ rest
  pub later : (c : Call) (said : Said) → IsIn c said rest → IsTree c
  pub fault : IsTreeFault file IsTree rest t why

-- The same; or the host has already done what comes next, by a call that isn't counted.
pub record IsNowOr (uncounted : Type 0) (before after : Meaning) (file : ℕ) (x y : Option Held) (content new next : List ℕ) : Type 0 where
  pub now : after.is new
  pub agree : IsAtHost x file content → IsAtHost y file new ⊎ (uncounted × IsAtHost y file next)
  pub backed : before.backed x content → after.backed y new

-- the calls on the tree while a file gets this size
abbrev pub IsTreeTo : Type 0 → ℕ → ℕ → ℕ → Call → Type 0
IsTreeTo is_local file size to call = IsTreeCall is_local file (block_count size) (block_count to) call

-- nothing changed, for this cause, and of these calls on the file's bytes the first were made
pub record IsKept (is_local : Type 0) (file : ℕ) (IsFor : Call → Type 0) (calls : List Call) (before after : Meaning) (x y : Option Held) (t : Trace)
    (why : WalkFault) : Type 0 where
  pub kept : Each before Only t.own (λ c. IsNow before after file x y c c)
  pub asked : AreBegun before Only [] calls t why
  pub blame : IsFileBlame is_local x file IsFor before Only (λ c. c) t why

-- the bytes of a range, cut at the end; no call failed
pub record IsRead (file size offset len : ℕ) (before after : Meaning) (x y : Option Held) (bytes : List ℕ) (t : Trace) : Type 0 where
  pub failed : t.failed ≡ 0
  pub asked : AreAsked before Only (read_calls file size offset (end_of size offset len)) t
  pub count : length bytes ≡ end_of size offset len - offset
  pub content : Each before Only t.own (λ c. IsNow before after file x y c c × (bytes ≡ take len (drop offset c)))

-- A range wasn't read, for this cause: nothing changed, and the bytes that were added before are the first of the range.
pub record IsUnread (is_local : Type 0) (file size offset len : ℕ) (before after : Meaning) (x y : Option Held) (bytes : List ℕ) (t : Trace) (why : WalkFault) : Type 0 where
  pub kept : Each before Only t.own (λ c. IsNow before after file x y c c)
  pub asked : AreBegun before Only [] (read_calls file size offset (end_of size offset len)) t why
  pub blame : IsFileBlame is_local x file (IsForFileRead is_local file size offset len) before Only (λ c. c) t why
  pub few : length bytes ≤ end_of size offset len - offset
  pub added : Each before Only t.own (λ c. bytes ≡ take (length bytes) (drop offset c))

-- what came of a read
abbrev pub ReadOutcome : Type 0 → ℕ → ℕ → ℕ → ℕ → Meaning → Meaning → Option Held → Option Held → List ℕ → Result (Unit {0}) RwFault → Trace → Type 0
ReadOutcome is_local file size offset len before after x y bytes (Ok _) t = IsRead file size offset len before after x y bytes t
ReadOutcome is_local file size offset len before after x y bytes (Err e) t = FaultSays (IsUnread is_local file size offset len before after x y bytes t) (λ end. ⊥) ⊥ e

-- all bytes are in place, and zeros between the old end and them; no call failed
pub record IsWhole (file size at : ℕ) (bytes : List ℕ) (before after : Meaning) (x y : Option Held) (t : Trace) : Type 0 where
  pub failed : t.failed ≡ 0
  pub writes : changes_in t.own ≡ block_writes file at (length bytes) (length bytes)
  pub asked : AreAsked before (λ c. IsVersion c at bytes (length bytes)) (write_calls file size at (length bytes) (length bytes)) t
  pub content : Each before (λ c. IsVersion c at bytes (length bytes)) t.own (λ c. IsNow before after file x y c (version c at bytes (length bytes)))

-- the first n bytes are in place, and no more, for this cause
pub record IsStopped (is_local : Type 0) (file size at : ℕ) (bytes : List ℕ) (n : ℕ) (before after : Meaning) (x y : Option Held) (t : Trace)
    (why : WalkFault) : Type 0 where
  pub writes : WritesTo is_local file at (length bytes) n t.own
  pub asked : AreBegun before (λ c. IsVersion c at bytes n) (write_calls file size at (length bytes) n) (block_calls file size at (at + length bytes) ((at + n) / 4096)) t why
  pub content : Each before (λ c. IsVersion c at bytes n) t.own
      (λ c. IsNowOr (IsUncounted is_local file (IsTreeTo is_local file size (max size (at + length bytes))) (FileWrite file (at + n) (next_border at (length bytes) n - n)) t why) before after file x y c
      (version c at bytes n) (version c at bytes (next_border at (length bytes) n)))
  pub blame : IsFileBlame is_local x file (IsForFileWrite is_local file size at (length bytes)) before (λ c. IsVersion c at bytes n) (λ c. version c at bytes n) t why

-- a write that ended early: some of the bytes are in place, up to the end of a block
pub record IsShortWrite (is_local : Type 0) (file size at : ℕ) (bytes : List ℕ) (n : ℕ) (before after : Meaning) (x y : Option Held) (t : Trace)
    (why : RwFault) : Type 0 where
  pub some : 0 < n
  pub few : n < length bytes
  pub border : (at + n) % 4096 ≡ 0
  pub stopped : FaultSays (IsStopped is_local file size at bytes n before after x y t) (λ end. ⊥) ⊥ why

-- a question that is refused before a call is made: it ends past 2 ^ 32, or there is no room
pub record IsTooLarge (limit end : ℕ) (before after : Meaning) (x y : Option Held) (t : Trace) : Type 0 where
  pub large : 4294967296 < limit
  pub end_is : end ≡ min limit (2 ^ 64 - 1)
  pub none : t.own ≡ []
  pub failed : t.failed ≡ 0
  pub kept : IsSame before after

pub record IsRoomless (before after : Meaning) (t : Trace) : Type 0 where
  pub none : t.own ≡ []
  pub failed : t.failed ≡ 0
  pub kept : IsSame before after

-- what came of a write
abbrev pub WrittenSays : Type 0 → ℕ → ℕ → ℕ → List ℕ → Meaning → Meaning → Option Held → Option Held → ℕ → Option RwFault → Trace → Type 0
WrittenSays is_local file size at bytes before after x y count None t = (count ≡ length bytes) × IsWhole file size at bytes before after x y t
WrittenSays is_local file size at bytes before after x y count (Some why) t = IsShortWrite is_local file size at bytes count before after x y t why

abbrev pub WriteOutcome : Type 0 → ℕ → ℕ → ℕ → List ℕ → Meaning → Meaning → Option Held → Option Held → Result Written RwFault → Trace → Type 0
WriteOutcome is_local file size at bytes before after x y (Ok w) t = WrittenSays is_local file size at bytes before after x y w.count w.why t
WriteOutcome is_local file size at bytes before after x y (Err e) t =
    FaultSays (IsStopped is_local file size at bytes 0 before after x y t) (λ end. (0 < length bytes) × IsTooLarge (at + length bytes) end before after x y t) (IsRoomless before after t) e

-- the size after a write: where some bytes are in place, their end, or the old size where that is larger
abbrev pub size_with : ℕ → ℕ → ℕ → ℕ
size_with size at count = if nat_eq count 0 then size else max size (at + count)

abbrev pub size_after : ℕ → ℕ → Result Written RwFault → ℕ
size_after size at (Ok w) = size_with size at w.count
size_after size at (Err e) = size

-- the bytes are cut, or zeros are added; no call failed
pub record IsResized (file size to : ℕ) (before after : Meaning) (x y : Option Held) (t : Trace) : Type 0 where
  pub failed : t.failed ≡ 0
  pub calls : CutsOnce file size to t.own
  pub asked : AreAsked before Only (cut_calls file size to) t
  pub content : Each before Only t.own (λ c. IsNow before after file x y c (resized c to))

-- nothing changed, for this cause, and of these calls on the file's bytes the first were made
pub record IsUncut (is_local : Type 0) (file size to : ℕ) (order : List Call) (before after : Meaning) (x y : Option Held) (t : Trace)
    (why : WalkFault) : Type 0 where
  pub calls : CutsNone is_local file to t.own
  pub asked : AreBegun before Only [] order t why
  pub content : Each before Only t.own (λ c. IsNowOr (IsUncounted is_local file (IsTreeTo is_local file size to) (Resize file to) t why) before after file x y c c (resized c to))
  pub blame : IsFileBlame is_local x file (IsForCut is_local file size to) before Only (λ c. c) t why

-- what came of a new size
abbrev pub CutOutcome : Type 0 → ℕ → ℕ → ℕ → Meaning → Meaning → Option Held → Option Held → Result (Unit {0}) RwFault → Trace → Type 0
CutOutcome is_local file size to before after x y (Ok _) t = IsResized file size to before after x y t
CutOutcome is_local file size to before after x y (Err e) t =
    FaultSays (IsUncut is_local file size to (cut_calls file size to) before after x y t) (λ end. (end ≡ to) × IsTooLarge to end before after x y t) (IsRoomless before after t) e

-- what came of writing out the tree
abbrev pub SyncOutcome : Type 0 → ℕ → ℕ → (Call → Type 0) → Meaning → Meaning → Option Held → Option Held → Result (Unit {0}) RwFault → Trace → Type 0
SyncOutcome is_local file size IsFor before after x y (Ok _) t = (t.failed ≡ 0) × Each before Only t.own (λ c. IsNow before after file x y c c)
SyncOutcome is_local file size IsFor before after x y (Err e) t = FaultSays (IsKept is_local file IsFor [] before after x y t) (λ end. ⊥) ⊥ e

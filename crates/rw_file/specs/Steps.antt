-- What comes of one block of a request.
use Rattle.std.specs.Prelude.{◌≡◌, ◌⊎◌, ℕ, ◌+◌, ◌-◌, ◌*◌, ◌/◌, ◌%◌, ◌<◌, ◌≤◌, min, max, List, [], ◌∷◌, ◌++◌, length, take, drop, map, set, slice_range, Option, Some, None, Result, Ok, Err, nat_lt, nat_eq, if◌then◌else◌}
use Rattle.std.specs.List.{range_with_len}
use Rattle.mg_base.specs.declared.values.Digest.{Digest}
use Rattle.host_traits.specs.declared.calls.Call.{Call}
use Rattle.host_traits.specs.declared.calls.Call.TheVariants.{FileWrite, Resize}
use Rattle.host_traits.specs.declared.calls.Said.TheVariants.{Bytes, Done}
use Rattle.host_traits.specs.Held.{Held, over, resized}
use Rattle.host_traits.specs.Did.{Trace, IsFailed, IsScarce}
use Rattle.sha_tree.specs.Tree.{block, block_count, page_hash, top}
use Rattle.verity_path.specs.Order.{IsLast, IsLastShort}
use Rattle.verity_path.specs.States.{Place}
use Rattle.verity_path.specs.declared.walk.WalkFault.{WalkFault}
use Rattle.verity_path.specs.declared.walk.WalkFault.TheVariants as walk
use Rattle.leaf_tree.specs.Leaves.{resized as leaves_resized}
use Rattle.leaf_tree.specs.Outcomes.{IsTreeCall, Standing, SameTree}
use Rattle.rw_file.specs.declared.faults.RwFault.{RwFault}
use Rattle.rw_file.specs.declared.faults.Written.{Written}
use Rattle.rw_file.specs.Contents.{Meaning, meaning, IsAtHost, IsVersion, Only, version, leaf_of, digests_of}
use Rattle.rw_file.specs.Calls.{block_read, bare_read, block_calls, write_calls, cut_calls, IsForFileWrite, changes_in, block_writes}
use Rattle.rw_file.specs.Blame.{Each, IsFileBlame}
use Rattle.rw_file.specs.Asked.{file_calls, file_made, shorts, AreAsked, AreBegun}
use Rattle.rw_file.specs.Rows.{because, IsNow, IsUncounted, IsTreeTo, IsNowOr, IsKept, IsStopped, IsUncut}

-- a host that held the bytes of the file holds them still
abbrev pub Still : ℕ → Option Held → Option Held → Type 0
Still file x y = (content : List ℕ) → IsAtHost x file content → IsAtHost y file content

-- the same, and its tree
pub record AllStill (file : ℕ) (x y : Option Held) : Type 0 where
  pub bytes : Still file x y
  pub tree : SameTree file x y

abbrev pub IsThis : Call → Call → Type 0
IsThis this call = call ≡ this

-- the bytes that a content of so many bytes has in a block
abbrev pub in_block : List ℕ → ℕ → ℕ → List ℕ
in_block c size i = take (min (size - 4096 * i) 4096) (drop (4096 * i) c)

-- the bytes that the file has in a block were heard
pub record IsAsked (file size i : ℕ) (x y : Option Held) (raw : List ℕ) (t : Trace) : Type 0 where
  pub failed : t.failed ≡ 0
  pub own_is : t.own ≡ (block_read file size i, Bytes raw) ∷ []
  pub count : length raw ≡ min (size - 4096 * i) 4096
  pub still : AllStill file x y
  pub bytes : (c : List ℕ) → IsAtHost x file c → raw ≡ in_block c size i

abbrev pub AskBlame : ℕ → ℕ → ℕ → Option Held → Trace → WalkFault → Type 0
AskBlame file size i held t (walk.Mismatch m) = ⊥
AskBlame file size i held t (walk.Short asked got) = IsLastShort t asked got × ((c : List ℕ) → size ≡ length c → IsAtHost held file c → ⊥)
AskBlame file size i held t (walk.Failed faults) = IsFailed (IsThis (block_read file size i)) t faults
AskBlame file size i held t walk.Memory = IsScarce t

-- of one call the first, none or itself, was made, and of the answers none but a short one is there
pub record IsTried (this : Call) (t : Trace) (why : WalkFault) : Type 0 where
  pub rest : List Call
  pub order : this ∷ [] ≡ file_made t ++ rest
  pub few : length t.own ≤ shorts why

abbrev pub AskOutcome : ℕ → ℕ → ℕ → Option Held → Option Held → List ℕ → Result (Unit {0}) WalkFault → Trace → Type 0
AskOutcome file size i x y raw (Ok _) t = IsAsked file size i x y raw t
AskOutcome file size i x y raw (Err why) t = AllStill file x y × AskBlame file size i x t why × IsTried (block_read file size i) t why

-- the calls for one block
abbrev pub IsForBlock : Type 0 → ℕ → ℕ → ℕ → Call → Type 0
IsForBlock is_local file size i call = (call ≡ block_read file size i) ⊎ IsTreeCall is_local file (block_count size) (block_count size) call

-- the digest that a block must have, and these calls on the file's bytes were made
pub record IsPrepared (file i : ℕ) (calls : List Call) (before after : Meaning) (x y : Option Held) (anchor : Place) (t : Trace) : Type 0 where
  pub failed : t.failed ≡ 0
  pub made : file_made t ≡ calls
  pub place : (anchor.salt ≡ []) × (anchor.level ≡ 0) × (anchor.index ≡ i)
  pub kept : Each before Only t.own (λ c. IsNow before after file x y c c × (anchor.digest ≡ page_hash [] (block c i)))

abbrev pub PrepareOutcome : Type 0 → ℕ → ℕ → ℕ → Meaning → Meaning → Option Held → Option Held → Result Place WalkFault → Trace → Type 0
PrepareOutcome is_local file size i before after x y (Ok anchor) t = IsPrepared file i [] before after x y anchor t
PrepareOutcome is_local file size i before after x y (Err why) t =
    IsKept is_local file (IsTreeCall is_local file (block_count size) (block_count size)) [] before after x y t why

-- the same, and the bytes that the file has in the block were heard
pub record IsBrought (file size i : ℕ) (before after : Meaning) (x y : Option Held) (raw : List ℕ) (anchor : Place) (t : Trace) : Type 0 where
  pub prepared : IsPrepared file i (block_read file size i ∷ []) before after x y anchor t
  pub heard : IsLast (block_read file size i) (Bytes raw) t.own
  pub first : file_calls heard.before ≡ []
  pub count : length raw ≡ min (size - 4096 * i) 4096
  pub at_host : Each before Only t.own (λ c. IsAtHost x file c → raw ≡ in_block c size i)

abbrev pub BringOutcome : Type 0 → ℕ → ℕ → ℕ → Meaning → Meaning → Option Held → Option Held → List ℕ → Result Place WalkFault → Trace → Type 0
BringOutcome is_local file size i before after x y raw (Ok anchor) t = IsBrought file size i before after x y raw anchor t
BringOutcome is_local file size i before after x y raw (Err why) t =
    IsKept is_local file (IsForBlock is_local file size i) (block_read file size i ∷ []) before after x y t why

-- the bytes from one place to another of a block were served
pub record IsServed (file size i from to : ℕ) (before after : Meaning) (x y : Option Held) (old new : List ℕ) (t : Trace) : Type 0 where
  pub failed : t.failed ≡ 0
  pub asked : AreAsked before Only (block_read file size i ∷ []) t
  pub count : length new ≡ length old + (to - from)
  pub content : Each before Only t.own (λ c. IsNow before after file x y c c × (new ≡ old ++ slice_range (block c i) from to))

abbrev pub ServeOutcome : Type 0 → ℕ → ℕ → ℕ → ℕ → ℕ → Meaning → Meaning → Option Held → Option Held → List ℕ → List ℕ →
    Result (Unit {0}) WalkFault → Trace → Type 0
ServeOutcome is_local file size i from to before after x y old new (Ok _) t = IsServed file size i from to before after x y old new t
ServeOutcome is_local file size i from to before after x y old new (Err why) t =
    IsKept is_local file (IsForBlock is_local file size i) (block_read file size i ∷ []) before after x y t why

-- the reads of so many blocks from that of a place on
abbrev pub block_reads : ℕ → ℕ → ℕ → ℕ → List Call
block_reads file size offset n = map (block_read file size) (range_with_len (offset / 4096) n)

-- a range was served as far as one place, from so many blocks
pub record IsServedTo (file size offset mid blocks : ℕ) (before after : Meaning) (x y : Option Held) (bytes : List ℕ) (t : Trace) : Type 0 where
  pub failed : t.failed ≡ 0
  pub asked : AreAsked before Only (block_reads file size offset blocks) t
  pub count : length bytes ≡ mid - offset
  pub content : Each before Only t.own (λ c. IsNow before after file x y c c × (bytes ≡ take (mid - offset) (drop offset c)))

-- a page with bytes put over it from a place on
abbrev pub spliced : List ℕ → ℕ → List ℕ → List ℕ
spliced page at part = take at page ++ part ++ drop (at + length part) page

-- with len bytes put over it, the page is the block of the content with these bytes put over it
abbrev pub Fits : ℕ → ℕ → List ℕ → List ℕ → Type 0
Fits at len content page = (part : List ℕ) → length part ≡ len → spliced page (at % 4096) part ≡ block (over content at part) (at / 4096)

-- the page is such, and was read where the bytes don't cover it
pub record IsBased (file size at len : ℕ) (before after : Meaning) (x y : Option Held) (page : List ℕ) (t : Trace) : Type 0 where
  pub failed : t.failed ≡ 0
  pub asked : AreAsked before Only (bare_read file size at (at + len) (at / 4096)) t
  pub content : Each before Only t.own (λ c. IsNow before after file x y c c × Fits at len c page)

abbrev pub BaseOutcome : Type 0 → ℕ → ℕ → ℕ → ℕ → Meaning → Meaning → Option Held → Option Held → List ℕ → Result (Unit {0}) WalkFault → Trace →
    Type 0
BaseOutcome is_local file size at len before after x y page (Ok _) t = IsBased file size at len before after x y page t
BaseOutcome is_local file size at len before after x y page (Err why) t =
    IsKept is_local file (IsForFileWrite is_local file size at len) (bare_read file size at (at + len) (at / 4096)) before after x y t why

-- a list with another digest for block i, or as far as block i and with its digest
abbrev pub with_leaf : ℕ → Digest → List Digest → List Digest
with_leaf i d ds = if nat_lt i (length ds) then set ds i d else leaves_resized (i + 1) (Some d) ds

-- bytes of one block were written, or nothing changed
pub record IsBlockKept (is_local : Type 0) (file size at : ℕ) (part : List ℕ) (before after : Meaning) (x y : Option Held) (t : Trace)
    (why : WalkFault) : Type 0 where
  pub asked : AreBegun before Only [] (block_calls file size at (at + length part) (at / 4096)) t why
  pub writes : (changes_in t.own ≡ []) ⊎ ((is_local → ⊥) × (changes_in t.own ≡ FileWrite file at (length part) ∷ []))
  pub content : Each before Only t.own
      (λ c. IsNowOr (IsUncounted is_local file (IsTreeTo is_local file size (max size (at + length part))) (FileWrite file at (length part)) t why) before after file x y c c (over c at part))
  pub blame : IsFileBlame is_local x file (IsForFileWrite is_local file size at (length part)) before Only (λ c. c) t why

-- bytes of one block are in place
pub record IsPut (file size at : ℕ) (part : List ℕ) (before after : Meaning) (x y : Option Held) (t : Trace) : Type 0 where
  pub failed : t.failed ≡ 0
  pub writes : changes_in t.own ≡ FileWrite file at (length part) ∷ []
  pub asked : AreAsked before Only (block_calls file size at (at + length part) (at / 4096)) t
  pub content : Each before Only t.own (λ c. IsNow before after file x y c (over c at part))

abbrev pub BlockOutcome : Type 0 → ℕ → ℕ → ℕ → List ℕ → Standing → Standing → Option Held → Option Held → Result (Unit {0}) WalkFault → Trace → Type 0
BlockOutcome is_local file size at part stands stands2 x y (Ok _) t =
    IsPut file size at part (meaning size stands) (meaning (max size (at + length part)) stands2) x y t
BlockOutcome is_local file size at part stands stands2 x y (Err why) t =
    IsBlockKept is_local file size at part (meaning size stands) (meaning size stands2) x y t why

-- so many bytes of a write are in place
pub record IsPlacedTo (file size at : ℕ) (bytes : List ℕ) (n : ℕ) (before after : Meaning) (x y : Option Held) (t : Trace) : Type 0 where
  pub failed : t.failed ≡ 0
  pub writes : changes_in t.own ≡ block_writes file at (length bytes) n
  pub asked : AreAsked before (λ c. IsVersion c at bytes n) (write_calls file size at (length bytes) n) t
  pub content : Each before (λ c. IsVersion c at bytes n) t.own (λ c. IsNow before after file x y c (version c at bytes n))

abbrev pub ProgressOutcome : Type 0 → ℕ → ℕ → ℕ → List ℕ → Meaning → Meaning → Option Held → Option Held → ℕ → Option WalkFault → Trace → Type 0
ProgressOutcome is_local file size at bytes before after x y n None t = (n ≡ length bytes) × IsPlacedTo file size at bytes n before after x y t
ProgressOutcome is_local file size at bytes before after x y n (Some why) t =
    (n < length bytes) × ((n ≡ 0) ⊎ ((at + n) % 4096 ≡ 0)) × IsStopped is_local file size at bytes n before after x y t why

-- the answer to a write that came so far
abbrev pub answer_of : ℕ → Option WalkFault → Result Written RwFault
answer_of n None = Ok (record { count = n; why = None })
answer_of n (Some why) = if nat_eq n 0 then Err (because why) else Ok (record { count = n; why = Some (because why) })

-- a host that held a content as the file's bytes holds it with bytes put over it
abbrev pub WriteOutOutcome : ℕ → ℕ → List ℕ → Option Held → Option Held → Result (Unit {0}) WalkFault → Trace → Type 0
WriteOutOutcome file at part x y (Ok _) t = (t.failed ≡ 0) × (t.own ≡ (FileWrite file at (length part), Done) ∷ []) × ((content : List ℕ) → IsAtHost x file content → IsAtHost y file (over content at part)) × SameTree file x y
WriteOutOutcome file at part x y (Err (walk.Mismatch m)) t = ⊥
WriteOutOutcome file at part x y (Err (walk.Short asked got)) t = ⊥
WriteOutOutcome file at part x y (Err (walk.Failed faults)) t =
    AllStill file x y × IsFailed (IsThis (FileWrite file at (length part))) t faults × (t.own ≡ [])
WriteOutOutcome file at part x y (Err walk.Memory) t = AllStill file x y × IsScarce t × (t.own ≡ [])

-- how many calls ask for the page under a write: none where the block is new
abbrev pub base_most : ℕ → ℕ → ℕ
base_most count i = if nat_lt i count then top count + 1 else 0

-- and the tree, for the digest: only where the block is new
abbrev pub settle_most : ℕ → ℕ → ℕ
settle_most count i = if nat_lt i count then 0 else top (max count (i + 1))

-- a host that held a content as the file's bytes holds it with another size
abbrev pub ResizeOutcome : ℕ → ℕ → Option Held → Option Held → Result (Unit {0}) WalkFault → Trace → Type 0
ResizeOutcome file to x y (Ok _) t = (t.failed ≡ 0) × (t.own ≡ (Resize file to, Done) ∷ []) × ((content : List ℕ) → IsAtHost x file content → IsAtHost y file (resized content to)) × SameTree file x y
ResizeOutcome file to x y (Err (walk.Mismatch m)) t = ⊥
ResizeOutcome file to x y (Err (walk.Short asked got)) t = ⊥
ResizeOutcome file to x y (Err (walk.Failed faults)) t = AllStill file x y × IsFailed (IsThis (Resize file to)) t faults × (t.own ≡ [])
ResizeOutcome file to x y (Err walk.Memory) t = AllStill file x y × IsScarce t × (t.own ≡ [])

-- the digest that the last block has once the file is cut in it
pub record IsDigested (file size to : ℕ) (before after : Meaning) (x y : Option Held) (d : Digest) (t : Trace) : Type 0 where
  pub failed : t.failed ≡ 0
  pub asked : AreAsked before Only (block_read file size (to / 4096) ∷ []) t
  pub content : Each before Only t.own (λ c. IsNow before after file x y c c × (d ≡ leaf_of (resized c to) (to / 4096)))

abbrev pub DigestOutcome : Type 0 → ℕ → ℕ → ℕ → Meaning → Meaning → Option Held → Option Held → Result Digest WalkFault → Trace → Type 0
DigestOutcome is_local file size to before after x y (Ok d) t = IsDigested file size to before after x y d t
DigestOutcome is_local file size to before after x y (Err why) t =
    IsKept is_local file (IsForBlock is_local file size (to / 4096)) (block_read file size (to / 4096) ∷ []) before after x y t why

-- with this last digest, the list of the content's is that of the content with another size
abbrev pub FitsLast : ℕ → Option Digest → List ℕ → Type 0
FitsLast to last content = leaves_resized (block_count to) last (digests_of content) ≡ digests_of (resized content to)

-- the file has its new size, where what was to be so of the content is, and these calls on its bytes were made
pub record IsCut (Fits : List ℕ → Type 0) (file to : ℕ) (calls : List Call) (before after : Meaning) (x y : Option Held) (t : Trace) : Type 0 where
  pub failed : t.failed ≡ 0
  pub changes : changes_in t.own ≡ Resize file to ∷ []
  pub asked : AreAsked before Only calls t
  pub content : Each before Only t.own (λ c. Fits c → IsNow before after file x y c (resized c to))

abbrev pub CutTreeOutcome : Type 0 → ℕ → ℕ → ℕ → Option Digest → Standing → Standing → Option Held → Option Held → Result (Unit {0}) WalkFault →
    Trace → Type 0
CutTreeOutcome is_local file size to last stands stands2 x y (Ok _) t =
    IsCut (FitsLast to last) file to (Resize file to ∷ []) (meaning size stands) (meaning to stands2) x y t
CutTreeOutcome is_local file size to last stands stands2 x y (Err why) t =
    IsUncut is_local file size to (Resize file to ∷ []) (meaning size stands) (meaning size stands2) x y t why

-- what came of a new size, of another number of bytes
abbrev pub ChangeOutcome : Type 0 → ℕ → ℕ → ℕ → Standing → Standing → Option Held → Option Held → Result (Unit {0}) WalkFault → Trace → Type 0
ChangeOutcome is_local file size to stands stands2 x y (Ok _) t =
    IsCut (λ c. Unit {0}) file to (cut_calls file size to) (meaning size stands) (meaning to stands2) x y t
ChangeOutcome is_local file size to stands stands2 x y (Err why) t =
    IsUncut is_local file size to (cut_calls file size to) (meaning size stands) (meaning size stands2) x y t why

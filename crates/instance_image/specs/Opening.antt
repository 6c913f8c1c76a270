-- Opening an image, version 1: its first sector, then one header a call, up to a nil UUID or the image's end.
use Rattle.std.specs.Prelude.{◌≡◌, ◌⊎◌, ℕ, ◌+◌, ◌*◌, ◌<◌, Bool, true, false, not, ◌&&◌, List, [], ◌∷◌, ◌++◌, length, take, drop, codes, Option, Some, None, Result, Ok, Err, ◌==◌, nat_lt, if◌then◌else◌}
use Rattle.std.specs.Int.{w16, from_le_bytes}
use Rattle.std.specs.Str.{bytes_eq}
use Rattle.mg_base.specs.declared.values.Span.{Span}
use Rattle.host_traits.specs.declared.calls.Call.{Call}
use Rattle.host_traits.specs.declared.calls.Call.TheVariants.{BlockRead}
use Rattle.host_traits.specs.declared.calls.Said.TheVariants.{Bytes}
use Rattle.host_traits.specs.Told.{Exchanges}
use Rattle.host_traits.specs.Did.{Trace, IsShort, IsFailed}
use Rattle.instance_image.specs.declared.faults.ImageFault.{ImageFault}
use Rattle.instance_image.specs.declared.faults.ImageFault.TheVariants.{Failed, Short, Magic, Version, NotZero, SaltMismatch, Header, TooMany, Memory}
use Rattle.instance_image.specs.declared.values.Part.{Part}
use Rattle.instance_image.specs.Records.{zeros, part_at, uuid_in, size_in, reserved_in, Kept, find_part}

-- what an image is opened by: its disk, its sectors there, and the salt that it has to have
pub record Opening : Type 0 where
  pub disk : ℕ
  pub span : Span
  pub salt : List ℕ

abbrev pub opening : ℕ → Span → List ℕ → Opening
opening disk span salt = record { disk = disk; span = span; salt = salt }

-- the call for one sector of the image, counted from its first
abbrev pub sector_call : Opening → ℕ → Call
sector_call o at = BlockRead o.disk (o.span.first + at) 1

-- ---- the rules, in order, and what an answer makes

abbrev pub must : Bool → ImageFault → Option ImageFault
must holds fault = if holds then None else Some fault

infixr 10 ◌then◌
abbrev pub ◌then◌ : Option ImageFault → Option ImageFault → Option ImageFault
(Some fault) then later = Some fault
None then later = later

-- what an image begins with
abbrev pub magic : List ℕ
magic = codes "Android-VM-instance" ++ 0 ∷ []

abbrev pub version_in : List ℕ → ℕ
version_in bytes = from_le_bytes w16 (part_at 20 2 bytes)

-- are all bytes zero?
unfoldable pub is_zero : List ℕ → Bool
is_zero [] = true
is_zero (b ∷ bytes) = if b == 0 then is_zero bytes else false

-- the first rule that the first sector breaks: it is whole; the magic; version 1; zeros behind the salt; the salt
unfoldable pub disk_fault : List ℕ → List ℕ → Option ImageFault
disk_fault salt bytes =
    must (not (nat_lt (length bytes) 512)) (Short 512 (length bytes))
    then must (bytes_eq (take 20 bytes) magic) Magic
    then must (version_in bytes == 1) (Version (version_in bytes))
    then must (is_zero (drop 86 bytes)) (NotZero 0)
    then must (bytes_eq (part_at 22 64 bytes) salt) SaltMismatch

-- the partitions whose headers were heard, and the sector of the next header
pub record Reading : Type 0 where
  pub parts : List Part
  pub next : ℕ

abbrev pub is_nil : List ℕ → Bool
is_nil uuid = bytes_eq uuid (zeros 16)

-- a payload's size is 0, or from 28 to the smaller of 65,564 and the reserved bytes
abbrev pub is_payload_size : ℕ → ℕ → Bool
is_payload_size size reserved = if size == 0 then true else not (nat_lt size 28) && not (nat_lt 65564 size) && not (nat_lt (512 * reserved) size)

abbrev pub is_some : Option Part → Bool
is_some None = false
is_some (Some p) = true

-- does a header keep the rules, in an image of so many sectors, after these partitions?
abbrev pub is_header : ℕ → Reading → List ℕ → Bool
is_header sectors r bytes =
    if not (is_zero (drop 28 bytes)) then false
    else if nat_lt sectors (r.next + (1 + reserved_in bytes)) then false
    else if not (is_payload_size (size_in bytes) (reserved_in bytes)) then false
    else not (is_some (find_part r.parts (uuid_in bytes)))

-- the partition that a header describes
abbrev pub part_of : ℕ → List ℕ → Part
part_of sector bytes = record { uuid = record { 0 = uuid_in bytes }; sector = sector; reserved = reserved_in bytes; size = size_in bytes }

-- what the answer for a header makes: a further partition; none, where its UUID is nil, whatever else it holds; or a fault
unfoldable pub header_step : ℕ → Reading → List ℕ → Result (Option Part) ImageFault
header_step sectors r bytes =
    if nat_lt (length bytes) 512 then Err (Short 512 (length bytes))
    else if is_nil (uuid_in bytes) then Ok None
    else if not (is_header sectors r bytes) then Err (Header r.next)
    else if length r.parts == 256 then Err (TooMany r.next)
    else Ok (Some (part_of r.next bytes))

-- the reading with a further partition: the next header stands after the reserved sectors
abbrev pub with_part : Reading → Part → Reading
with_part r p = record { parts = r.parts ++ p ∷ []; next = r.next + (1 + p.reserved) }

abbrev pub start : Reading
start = record { parts = []; next = 1 }

-- ---- what was heard

-- headers, one after another, each where the reserved sectors of the one before it end
abbrev pub HeardHeaders : Opening → Reading → Exchanges → Reading → Type 0
HeardHeaders o r [] new = new ≡ r
HeardHeaders o r (x ∷ more) new =
    (bytes : List ℕ) × (p : Part) × (r.next < o.span.sectors) × (x ≡ (sector_call o r.next, Bytes bytes))
    × (header_step o.span.sectors r bytes ≡ Ok (Some p)) × HeardHeaders o (with_part r p) more new

-- the first sector, which breaks no rule, and then headers
pub record HeardSoFar (o : Opening) (own : Exchanges) (r : Reading) : Type 0 where
  pub head : List ℕ
  pub headers : Exchanges
  pub own_is : own ≡ (sector_call o 0, Bytes head) ∷ headers
  pub good : disk_fault o.salt head ≡ None
  pub each : HeardHeaders o start headers r

-- after these exchanges, the answer for the next header makes this
pub record HeardNext (o : Opening) (own : Exchanges) (r : Reading) (makes : Result (Option Part) ImageFault) : Type 0 where
  pub before : Exchanges
  pub so_far : HeardSoFar o before r
  pub inside : r.next < o.span.sectors
  pub bytes : List ℕ
  pub own_is : own ≡ before ++ (sector_call o r.next, Bytes bytes) ∷ []
  pub is : header_step o.span.sectors r bytes ≡ makes

-- the list of partitions is closed: the next header would stand at the image's end, or it has a nil UUID
abbrev pub IsClosed : Opening → Exchanges → Reading → Type 0
IsClosed o own r = (HeardSoFar o own r × (r.next ≡ o.span.sectors)) ⊎ HeardNext o own r (Ok None)

-- the first sector breaks this rule first, and nothing else was asked
pub record HeardBadDisk (o : Opening) (own : Exchanges) (why : ImageFault) : Type 0 where
  pub bytes : List ℕ
  pub own_is : own ≡ (sector_call o 0, Bytes bytes) ∷ []
  pub is : disk_fault o.salt bytes ≡ Some why

-- a header breaks this rule, after headers that break none
pub record HeardBadHeader (o : Opening) (own : Exchanges) (why : ImageFault) : Type 0 where
  pub reading : Reading
  pub next : HeardNext o own reading (Err why)

abbrev pub IsRefused : Opening → Exchanges → ImageFault → Type 0
IsRefused o own why = HeardBadDisk o own why ⊎ HeardBadHeader o own why

-- the call that comes next, after these exchanges
abbrev pub IsNextCall : Opening → Exchanges → Call → Type 0
IsNextCall o own call = ((own ≡ []) × (call ≡ sector_call o 0)) ⊎ ((r : Reading) × HeardSoFar o own r × (r.next < o.span.sectors) × (call ≡ sector_call o r.next))

-- a call for a sector of the image
pub record IsImageCall (o : Opening) (call : Call) : Type 0 where
  pub at : ℕ
  pub inside : at < o.span.sectors
  pub call_is : call ≡ sector_call o at

abbrev pub kept_of : Opening → Reading → Kept
kept_of o r = record { disk = o.disk; first = o.span.first; salt = o.salt; parts = r.parts }

-- the image has the partitions that were heard, in order
pub record IsOpened (o : Opening) (own : Exchanges) (k : Kept) : Type 0 where
  pub reading : Reading
  pub closed : IsClosed o own reading
  pub is : k ≡ kept_of o reading

-- what was heard breaks no rule, as far as it went
abbrev pub IsGoodSoFar : Opening → Exchanges → Type 0
IsGoodSoFar o own = (own ≡ []) ⊎ ((r : Reading) × HeardSoFar o own r)

-- What came of opening an image: the partitions that were heard, or the first rule that is broken, where no call failed; one
-- failed call, the one that comes next; or want of memory, which may come at any time.
abbrev pub OpenOutcome : Opening → Result Kept ImageFault → Trace → Type 0
OpenOutcome o (Ok k) t = (t.failed ≡ 0) × IsOpened o t.own k
OpenOutcome o (Err (Failed faults)) t = IsFailed (IsNextCall o t.own) t faults
OpenOutcome o (Err (Short asked got)) t = IsRefused o t.own (Short asked got) × IsShort t asked got
OpenOutcome o (Err Memory) t = (t.failed ≡ 0) × IsGoodSoFar o t.own
OpenOutcome o (Err why) t = (t.failed ≡ 0) × IsRefused o t.own why

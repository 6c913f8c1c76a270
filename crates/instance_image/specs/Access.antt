-- What comes of reading and of writing one record.
use Rattle.std.specs.Prelude.{◌≡◌, ◌≢◌, ◌⊎◌, ℕ, ◌+◌, ◌-◌, ◌*◌, ◌<◌, ◌≤◌, List, [], ◌∷◌, ◌++◌, length, take, drop, Some, None, Result, Ok, Err}
use Rattle.aes_gcm.specs.declared.gcm.Tag as gcm
use Rattle.host_traits.specs.declared.calls.Call.{Call}
use Rattle.host_traits.specs.declared.calls.Call.TheVariants.{BlockRead, BlockWrite}
use Rattle.host_traits.specs.declared.calls.Said.{Said}
use Rattle.host_traits.specs.declared.calls.Said.TheVariants.{Bytes, Done}
use Rattle.host_traits.specs.Did.{Trace, IsShort, IsFailed}
use Rattle.sealed_record.specs.Sealed.{IsSealed, tag_for, tag_in}
use Rattle.instance_image.specs.declared.faults.GetFault.{GetFault}
use Rattle.instance_image.specs.declared.faults.GetFault.TheVariants as gets
use Rattle.instance_image.specs.declared.faults.PutFault.{PutFault}
use Rattle.instance_image.specs.declared.faults.PutFault.TheVariants as puts
use Rattle.instance_image.specs.declared.values.Part.{Part}
use Rattle.instance_image.specs.Records.{Kept, header_in, header_of, uuid_in, size_in, sectors_of, zeros, find_part, size_of, fits_in, keep_size}
use Rattle.instance_image.specs.Sealings.{record_key, Sealing, sealed_of}

-- ---- get

-- the one read: the header, and the sectors of the payload
abbrev pub get_call : Kept → Part → Call
get_call k p = BlockRead k.disk (k.first + p.sector) (1 + sectors_of p.size)

-- the partition of this UUID has a record
pub record HasRecord (k : Kept) (uuid : List ℕ) (p : Part) : Type 0 where
  pub found : find_part k.parts uuid ≡ Some p
  pub least : 28 ≤ p.size
  pub most : p.size ≤ 65564

pub record IsGetCall (k : Kept) (uuid : List ℕ) (call : Call) : Type 0 where
  pub part : Part
  pub has : HasRecord k uuid part
  pub call_is : call ≡ get_call k part

-- what an answer has after the header
abbrev pub payload_in : Part → List ℕ → List ℕ
payload_in p bytes = take p.size (drop 512 bytes)

-- the answer is whole, and its header has the UUID and the kept size
pub record IsRecord (uuid : List ℕ) (p : Part) (bytes : List ℕ) : Type 0 where
  pub whole : length bytes ≡ 512 * (1 + sectors_of p.size)
  pub uuid_is : uuid_in (header_in bytes) ≡ uuid
  pub size_is : size_in (header_in bytes) ≡ p.size

-- the payload is the sealed form of this text, under the key of the UUID, the header that was heard and the salt
pub record IsText (salt secret uuid : List ℕ) (p : Part) (bytes text : List ℕ) : Type 0 where
  pub is_record : IsRecord uuid p bytes
  pub sealed : IsSealed (record_key salt secret uuid) (header_in bytes) salt (payload_in p bytes) text

-- fewer bytes came than were asked for
pub record IsCut (p : Part) (bytes : List ℕ) (asked got : ℕ) : Type 0 where
  pub asked_is : asked ≡ 512 * (1 + sectors_of p.size)
  pub got_is : got ≡ length bytes
  pub short : got < asked

-- the header that was heard has another UUID, or another size than the kept one
pub record IsChanged (uuid : List ℕ) (p : Part) (bytes : List ℕ) (sector : ℕ) : Type 0 where
  pub whole : length bytes ≡ 512 * (1 + sectors_of p.size)
  pub changed : (uuid_in (header_in bytes) ≢ uuid) ⊎ (size_in (header_in bytes) ≢ p.size)
  pub sector_is : sector ≡ p.sector

-- the payload ends with another tag than its own, and so is the sealed form of no text
pub record IsForged (salt secret uuid : List ℕ) (p : Part) (bytes : List ℕ) (tag : gcm.Tag) : Type 0 where
  pub is_record : IsRecord uuid p bytes
  pub computed : tag.computed ≡ tag_for (record_key salt secret uuid) (header_in bytes) salt (payload_in p bytes)
  pub found : tag.found ≡ tag_in (payload_in p bytes)
  pub differ : tag.computed ≢ tag.found
  pub nothing : (text : List ℕ) → ¬ IsSealed (record_key salt secret uuid) (header_in bytes) salt (payload_in p bytes) text

-- what an answer makes
abbrev pub AnswerOutcome : List ℕ → List ℕ → List ℕ → Part → List ℕ → Result (List ℕ) GetFault → Type 0
AnswerOutcome salt secret uuid p bytes (Ok text) = IsText salt secret uuid p bytes text
AnswerOutcome salt secret uuid p bytes (Err gets.NoRecord) = ⊥
AnswerOutcome salt secret uuid p bytes (Err (gets.Failed faults)) = ⊥
AnswerOutcome salt secret uuid p bytes (Err (gets.Short asked got)) = IsCut p bytes asked got
AnswerOutcome salt secret uuid p bytes (Err (gets.Changed sector)) = IsChanged uuid p bytes sector
AnswerOutcome salt secret uuid p bytes (Err (gets.Tag tag)) = IsForged salt secret uuid p bytes tag
AnswerOutcome salt secret uuid p bytes (Err gets.Memory) = ⊥

-- the one call was answered, and this is what its answer makes
pub record IsAnswered (k : Kept) (secret uuid : List ℕ) (t : Trace) (result : Result (List ℕ) GetFault) : Type 0 where
  pub failed : t.failed ≡ 0
  pub part : Part
  pub has : HasRecord k uuid part
  pub bytes : List ℕ
  pub own : t.own ≡ (get_call k part, Bytes bytes) ∷ []
  pub makes : AnswerOutcome k.salt secret uuid part bytes result

-- no partition has this UUID, or it is empty
abbrev pub HasNone : Kept → List ℕ → Type 0
HasNone k uuid = (size_of (find_part k.parts uuid) ≡ None) ⊎ (size_of (find_part k.parts uuid) ≡ Some 0)

-- there is a record, and no call was told: memory was wanting for its text, or at the host for the call
pub record IsUnheard (k : Kept) (uuid : List ℕ) (t : Trace) : Type 0 where
  pub part : Part
  pub has : HasRecord k uuid part
  pub own : t.own ≡ []
  pub failed : t.failed ≡ 0

-- What came of reading a record. Out of memory no answer was heard, so whatever is wrong with one is told.
abbrev pub GetOutcome : Kept → List ℕ → List ℕ → Result (List ℕ) GetFault → Trace → Type 0
GetOutcome k secret uuid (Err gets.NoRecord) t = (t.own ≡ []) × (t.failed ≡ 0) × HasNone k uuid
GetOutcome k secret uuid (Err (gets.Failed faults)) t = (t.own ≡ []) × IsFailed (IsGetCall k uuid) t faults
GetOutcome k secret uuid (Err (gets.Short asked got)) t = IsAnswered k secret uuid t (Err (gets.Short asked got)) × IsShort t asked got
GetOutcome k secret uuid (Err gets.Memory) t = IsUnheard k uuid t
GetOutcome k secret uuid result t = IsAnswered k secret uuid t result

-- ---- put

-- the payload of a text has 28 bytes more
abbrev pub payload_size : List ℕ → ℕ
payload_size text = 28 + length text

-- what a put seals: the header is the one that it writes
abbrev pub sealing_of : Part → List ℕ → List ℕ → List ℕ → Sealing
sealing_of p uuid nonce text = record { uuid = uuid; header = header_of uuid (payload_size text) p.reserved; nonce = nonce; text = text }

-- what it writes: the header, the sealed form, and zeros up to a whole sector
abbrev pub record_bytes : List ℕ → List ℕ → Sealing → List ℕ
record_bytes salt secret z = z.header ++ (sealed_of salt secret z ++ zeros (512 * sectors_of (payload_size z.text) - payload_size z.text))

-- the one write
abbrev pub put_call : Kept → Part → List ℕ → Call
put_call k p text = BlockWrite k.disk (k.first + p.sector) (1 + sectors_of (payload_size text))

-- the text fits into the partition of this UUID
abbrev pub IsPutInto : Kept → List ℕ → List ℕ → Part → Type 0
IsPutInto k uuid text p = fits_in k.parts uuid (length text) ≡ Ok p

pub record IsPutCall (k : Kept) (uuid text : List ℕ) (call : Call) : Type 0 where
  pub part : Part
  pub fits : IsPutInto k uuid text part
  pub call_is : call ≡ put_call k part text

-- the one write, with the bytes that it hands over
pub record IsPutting (k : Kept) (secret uuid nonce text : List ℕ) (call : Call) (given : List ℕ) : Type 0 where
  pub part : Part
  pub fits : IsPutInto k uuid text part
  pub call_is : call ≡ put_call k part text
  pub given_is : given ≡ record_bytes k.salt secret (sealing_of part uuid nonce text)

-- the one write was answered, and the new size is kept
pub record IsPut (k : Kept) (uuid text : List ℕ) (own : List (Call × Said)) (now : Kept) : Type 0 where
  pub part : Part
  pub fits : IsPutInto k uuid text part
  pub own_is : own ≡ (put_call k part text, Done) ∷ []
  pub now_is : now ≡ record k { parts = keep_size k.parts uuid (payload_size text) }

-- some partition takes the text
pub record IsPutSomewhere (k : Kept) (uuid text : List ℕ) : Type 0 where
  pub part : Part
  pub fits : IsPutInto k uuid text part

-- what came of writing a record: after each error the image is as before
abbrev pub PutOutcome : Kept → List ℕ → List ℕ → Kept → Result (Unit {0}) PutFault → Trace → Type 0
PutOutcome k uuid text now (Ok _) t = (t.failed ≡ 0) × IsPut k uuid text t.own now
PutOutcome k uuid text now (Err (puts.Failed faults)) t = (now ≡ k) × (t.own ≡ []) × IsFailed (IsPutCall k uuid text) t faults
PutOutcome k uuid text now (Err puts.Memory) t = (now ≡ k) × (t.own ≡ []) × (t.failed ≡ 0) × IsPutSomewhere k uuid text
PutOutcome k uuid text now (Err why) t = (now ≡ k) × (t.own ≡ []) × (t.failed ≡ 0) × (fits_in k.parts uuid (length text) ≡ Err why)

-- The measure that a record keeps: how it is got at boot, and how it is put where the record is empty.
use Rattle.std.specs.Prelude.{◌≡◌, ◌⊎◌, ℕ, ◌+◌, ◌<◌, ◌≤◌, List, [], ◌∷◌, length, take, drop, nat_lt, if◌then◌else◌, Option, Some, None, Result, Ok, Err}
use Rattle.host_traits.specs.declared.calls.Call.{Call}
use Rattle.host_traits.specs.declared.calls.Call.TheVariants.{BlockRead}
use Rattle.host_traits.specs.declared.calls.Said.TheVariants.{Bytes}
use Rattle.host_traits.specs.Told.{Told, Exchanges}
use Rattle.host_traits.specs.Did.{Trace, IsFailed, DidBy, reads}
use Rattle.sha_tree.specs.declared.measure.Measure.{Measure}
use Rattle.instance_image.specs.declared.faults.GetFault.{GetFault}
use Rattle.instance_image.specs.declared.faults.GetFault.TheVariants as gets
use Rattle.instance_image.specs.declared.faults.PutFault.{PutFault}
use Rattle.instance_image.specs.declared.faults.PutFault.TheVariants as puts
use Rattle.instance_image.specs.declared.values.Part.{Part}
use Rattle.instance_image.specs.Records.{Kept, sectors_of, find_part, size_of, fits_in}
use Rattle.instance_image.specs.Sealings.{Sealing}
use Rattle.instance_image.specs.Access.{get_call, HasRecord, IsText, GetOutcome, put_call, sealing_of, record_bytes, IsPut, IsPutCall, IsPutSomewhere}
use Rattle.guest_plan.specs.Spelling.{measure_text}
use Rattle.guest_plan.specs.Measures.{IsMeasureText}
use Rattle.guest_boot.specs.declared.faults.BootCause.{BootCause}
use Rattle.guest_boot.specs.declared.faults.BootCause.TheVariants.{Gpt, NoPart, Apk, File, Image, Get, Put, NoEntropy, MeasureText, Failed, Short, Memory}

-- ---- the writes of a boot

-- a write: its call, the bytes that it hands over, and what they seal
pub record Writing : Type 0 where
  pub call : Call
  pub given : List ℕ
  pub sealing : Sealing

-- it is one of these
abbrev pub IsWriting : List Writing → Call → List ℕ → Type 0
IsWriting [] call given = ⊥
IsWriting (w ∷ writings) call given = ((call ≡ w.call) × (given ≡ w.given)) ⊎ IsWriting writings call given

-- a call is for the work and hands nothing over, or is one of these writes
abbrev pub ReadsOrWrites : (Call → Type 0) → List Writing → Call → List ℕ → Type 0
ReadsOrWrites IsFor writings call given = reads IsFor call given ⊎ IsWriting writings call given

-- Work that calls the host and may write: the calls that it made, failed ones too, each of which is for it and hands nothing over, or
-- is one of these writes; at most so many, and none after one that failed; and what came of them.
pub record DidWriting (IsFor : Call → Type 0) (most : ℕ) (old new : Told) (Outcome : List Writing → Trace → Type 0) : Type 0 where
  pub writings : List Writing
  pub did : DidBy (ReadsOrWrites IsFor writings) most old new (Outcome writings)

-- no call was made
pub record IsQuiet (t : Trace) : Type 0 where
  pub own : t.own ≡ []
  pub failed : t.failed ≡ 0

-- ---- a measure that is got

-- a read of a record, of the image on this disk, if any
abbrev pub IsGetting : Option ℕ → Call → Type 0
IsGetting None call = ⊥
IsGetting (Some disk) call = (sector : ℕ) × (size : ℕ) × (size ≤ 65564) × (call ≡ BlockRead disk sector (1 + sectors_of size))

-- the one exchange is that of the record, which opens to the text of this measure
pub record GivesMeasure (k : Kept) (secret uuid : List ℕ) (own : Exchanges) (m : Measure) : Type 0 where
  pub part : Part
  pub has : HasRecord k uuid part
  pub bytes : List ℕ
  pub own_is : own ≡ (get_call k part, Bytes bytes) ∷ []
  pub text : List ℕ
  pub opens : IsText k.salt secret uuid part bytes text
  pub says : IsMeasureText text m

-- the partition of this UUID is there, and empty
abbrev pub IsEmpty : Kept → List ℕ → Type 0
IsEmpty k uuid = size_of (find_part k.parts uuid) ≡ Some 0

-- what the record of a UUID says: the measure whose text is in it, or none where it is empty
abbrev pub Measured : Kept → List ℕ → List ℕ → Exchanges → Option Measure → Type 0
Measured k secret uuid own None = (own ≡ []) × IsEmpty k uuid
Measured k secret uuid own (Some m) = GivesMeasure k secret uuid own m

-- Why no measure was got: no partition has the UUID, and nothing was asked; or the record was not got; or its text is that of no
-- measure. Out of memory none was heard, so a text that is that of no measure is always told.
abbrev pub MeasureFails : Kept → List ℕ → List ℕ → BootCause → Trace → Type 0
MeasureFails k secret uuid (Get gets.NoRecord) t = IsQuiet t × (size_of (find_part k.parts uuid) ≡ None)
MeasureFails k secret uuid (Get gets.Memory) t = ⊥
MeasureFails k secret uuid (Get why) t = GetOutcome k secret uuid (Err why) t
MeasureFails k secret uuid MeasureText t = (text : List ℕ) × GetOutcome k secret uuid (Ok text) t × ((m : Measure) → ¬ IsMeasureText text m)
MeasureFails k secret uuid Memory t = GetOutcome k secret uuid (Err gets.Memory) t
MeasureFails k secret uuid (Gpt why) t = ⊥
MeasureFails k secret uuid (NoPart name) t = ⊥
MeasureFails k secret uuid (Apk why) t = ⊥
MeasureFails k secret uuid (File why) t = ⊥
MeasureFails k secret uuid (Image why) t = ⊥
MeasureFails k secret uuid (Put why) t = ⊥
MeasureFails k secret uuid (NoEntropy left) t = ⊥
MeasureFails k secret uuid (Failed faults) t = ⊥
MeasureFails k secret uuid (Short asked got) t = ⊥

abbrev pub MeasureOutcome : Kept → List ℕ → List ℕ → Result (Option Measure) BootCause → Trace → Type 0
MeasureOutcome k secret uuid (Ok measure) t = (t.failed ≡ 0) × Measured k secret uuid t.own measure
MeasureOutcome k secret uuid (Err why) t = MeasureFails k secret uuid why t

-- ---- a measure that is put

-- its text is sealed under the next 12 bytes of entropy
abbrev pub measure_sealing : List ℕ → List ℕ → Measure → Part → Sealing
measure_sealing uuid entropy m part = sealing_of part uuid (take 12 entropy) (measure_text m)

abbrev pub measure_writing : Kept → List ℕ → List ℕ → List ℕ → Measure → Part → Writing
measure_writing k secret uuid entropy m part = record {
  call = put_call k part (measure_text m);
  given = record_bytes k.salt secret (measure_sealing uuid entropy m part);
  sealing = measure_sealing uuid entropy m part;
}

-- a text that passes the tests of room and of entropy counts as sealed, whatever its write comes to: the host may hold it
abbrev pub writings_if : Kept → List ℕ → List ℕ → List ℕ → Measure → Result Part PutFault → List Writing
writings_if k secret uuid entropy m (Err why) = []
writings_if k secret uuid entropy m (Ok part) = if nat_lt (length entropy) 12 then [] else measure_writing k secret uuid entropy m part ∷ []

abbrev pub measure_writings : Kept → List ℕ → List ℕ → List ℕ → Measure → List Writing
measure_writings k secret uuid entropy m = writings_if k secret uuid entropy m (fits_in k.parts uuid (length (measure_text m)))

-- Why no measure was put into an empty record: the text doesn't fit, or too few bytes of entropy were left, and no call was made; or
-- the write failed; or there was no memory, which is told only where the text fits and there is entropy.
abbrev pub KeepFails : Kept → List ℕ → List ℕ → Measure → BootCause → Trace → Type 0
KeepFails k uuid entropy m (Put puts.NoRecord) t = ⊥
KeepFails k uuid entropy m (Put (puts.TooLarge text room)) t = IsQuiet t × (fits_in k.parts uuid (length (measure_text m)) ≡ Err (puts.TooLarge text room))
KeepFails k uuid entropy m (Put puts.Memory) t = ⊥
KeepFails k uuid entropy m (Put (puts.Failed faults)) t = (t.own ≡ []) × (12 ≤ length entropy) × IsFailed (IsPutCall k uuid (measure_text m)) t faults
KeepFails k uuid entropy m (NoEntropy left) t = IsQuiet t × IsPutSomewhere k uuid (measure_text m) × (left ≡ length entropy) × (left < 12)
KeepFails k uuid entropy m Memory t = IsQuiet t × IsPutSomewhere k uuid (measure_text m) × (12 ≤ length entropy)
KeepFails k uuid entropy m (Gpt why) t = ⊥
KeepFails k uuid entropy m (NoPart name) t = ⊥
KeepFails k uuid entropy m (Apk why) t = ⊥
KeepFails k uuid entropy m (File why) t = ⊥
KeepFails k uuid entropy m (Image why) t = ⊥
KeepFails k uuid entropy m (Get why) t = ⊥
KeepFails k uuid entropy m MeasureText t = ⊥
KeepFails k uuid entropy m (Failed faults) t = ⊥
KeepFails k uuid entropy m (Short asked got) t = ⊥

-- The one write was answered, the new size is kept, and the bytes of entropy are gone.
abbrev pub Keeps : Kept → List ℕ → List ℕ → Measure → Exchanges → Kept → List ℕ → Type 0
Keeps k uuid entropy m own new left = (12 ≤ length entropy) × IsPut k uuid (measure_text m) own new × (left ≡ drop 12 entropy)

abbrev pub KeepOutcome : Kept → List ℕ → List ℕ → Measure → Kept → List ℕ → Result (Unit {0}) BootCause → Trace → Type 0
KeepOutcome k uuid entropy m new left (Ok u) t = (t.failed ≡ 0) × Keeps k uuid entropy m t.own new left
KeepOutcome k uuid entropy m new left (Err why) t = KeepFails k uuid entropy m why t

-- the causes of a record that was not got, and of one that was not put: want of memory is boot's own
abbrev pub get_cause : GetFault → BootCause
get_cause gets.Memory = Memory
get_cause why = Get why

abbrev pub put_cause : PutFault → BootCause
put_cause puts.Memory = Memory
put_cause why = Put why

-- What comes of opening a file by its digest: one call for its descriptor, and what its answer says.
use Rattle.std.specs.Prelude.{Bool, ◌≡◌, ℕ, ◌^◌, ◌≤◌, List, [], ◌∷◌, length, nat_eq, nat_lt, if◌then◌else◌, Result, Ok, Err}
use Rattle.std.specs.Cmp.Lexicographic.{pointwise}
use Rattle.sha2.specs.Sha256.{sha256}
use Rattle.mg_base.specs.declared.values.Digest.{Digest}
use Rattle.host_traits.specs.declared.calls.Call.{Call}
use Rattle.host_traits.specs.declared.calls.Call.TheVariants.{Descriptor as DescriptorOf}
use Rattle.host_traits.specs.declared.calls.Said.TheVariants.{Bytes}
use Rattle.host_traits.specs.Told.{Exchanges}
use Rattle.host_traits.specs.Did.{IsIn, Trace, IsFailed, IsScarce}
use Rattle.verity_descriptor.specs.declared.Descriptor.{Descriptor}
use Rattle.verity_descriptor.specs.declared.DescriptorFault.{DescriptorFault}
use Rattle.verity_descriptor.specs.Spelling.{IsDescriptor, descriptor_bytes, decoded}
use Rattle.ro_file.specs.declared.files.RoFault.{RoFault}
use Rattle.ro_file.specs.declared.files.RoFault.TheVariants as fault
use Rattle.ro_file.specs.Files.{MeasuredFile, file_of}

-- the one call
abbrev pub IsDescriptorCall : ℕ → Call → Type 0
IsDescriptorCall file call = call ≡ DescriptorOf file

-- is SHA-256 of the bytes this digest?
abbrev pub has_digest : Digest → List ℕ → Bool
has_digest digest bytes = pointwise nat_eq (sha256 bytes) digest.0

-- the file of a descriptor, unless it is too long
abbrev pub file_within : ℕ → Digest → Descriptor → Result MeasuredFile RoFault
file_within file digest d = if nat_lt (2 ^ 32) d.size then Err (fault.TooLong d.size) else Ok (file_of file digest d)

-- the same for bytes that may break a rule of descriptors
abbrev pub file_from : ℕ → Digest → Result Descriptor DescriptorFault → Result MeasuredFile RoFault
file_from file digest (Ok d) = file_within file digest d
file_from file digest (Err broken) = Err (fault.Descriptor broken)

-- The file that these bytes describe, or the first of these rules that they break: there are 256 of them; their digest is the
-- given one; they keep the rules of a descriptor, in order; its size is at most 2 ^ 32.
unfoldable pub opened : ℕ → Digest → List ℕ → Result MeasuredFile RoFault
opened file digest bytes =
    if nat_lt (length bytes) 256 then Err (fault.Short 256 (length bytes))
    else if has_digest digest bytes then file_from file digest (decoded bytes)
    else Err (fault.DigestMismatch digest (record { 0 = sha256 bytes }))

-- the bytes have this digest, and spell the descriptor of this file
pub record Describes (file : ℕ) (digest : Digest) (bytes : List ℕ) (f : MeasuredFile) : Type 0 where
  pub descriptor : Descriptor
  pub sound : IsDescriptor descriptor
  pub spelled : bytes ≡ descriptor_bytes descriptor
  pub digest_is : sha256 bytes ≡ digest.0
  pub size : descriptor.size ≤ 2 ^ 32
  pub file_is : f ≡ file_of file digest descriptor

-- no call failed, and the one answer that was heard describes this file
pub record IsOpened (file : ℕ) (digest : Digest) (t : Trace) (f : MeasuredFile) : Type 0 where
  pub failed : t.failed ≡ 0
  pub bytes : List ℕ
  pub own : t.own ≡ (DescriptorOf file, Bytes bytes) ∷ []
  pub is : opened file digest bytes ≡ Ok f
  pub describes : Describes file digest bytes f

-- no call failed, and the one answer that was heard describes no file, for this reason
pub record IsRefused (file : ℕ) (digest : Digest) (t : Trace) (why : RoFault) : Type 0 where
  pub failed : t.failed ≡ 0
  pub bytes : List ℕ
  pub own : t.own ≡ (DescriptorOf file, Bytes bytes) ∷ []
  pub few : length bytes ≤ 256
  pub is : opened file digest bytes ≡ Err why

-- what came of opening a file
abbrev pub OpenFileOutcome : ℕ → Digest → Result MeasuredFile RoFault → Trace → Type 0
OpenFileOutcome file digest (Ok f) t = IsOpened file digest t f
OpenFileOutcome file digest (Err (fault.Failed faults)) t = (t.own ≡ []) × IsFailed (IsDescriptorCall file) t faults
OpenFileOutcome file digest (Err fault.Memory) t = (t.own ≡ []) × IsScarce t
OpenFileOutcome file digest (Err why) t = IsRefused file digest t why

-- a file was opened by an answer among what was heard
pub record WasOpened (file : ℕ) (digest : Digest) (heard : Exchanges) (f : MeasuredFile) : Type 0 where
  pub bytes : List ℕ
  pub was_heard : IsIn (DescriptorOf file) (Bytes bytes) heard
  pub describes : Describes file digest bytes f

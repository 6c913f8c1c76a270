-- One call for a descriptor, and what came of it.
use Rattle.std.proofs.Common.{◌≡◌, ℕ, ◌^◌, ◌≤◌, true, false, List, [], ◌∷◌, length, Result, Ok, Err, refl, sym, subst}
use Rattle.std.specs.Prelude.{IfOk, nat_lt, if◌then◌else◌}
use Rattle.sha2.specs.Sha256.{sha256}
use Rattle.mg_base.specs.declared.values.Digest.{Digest}
use Rattle.host_traits.specs.declared.calls.Call.TheVariants.{Descriptor as DescriptorOf}
use Rattle.host_traits.specs.declared.calls.Said.TheVariants.{Bytes}
use Rattle.host_traits.specs.Told.{Told, Answered}
use Rattle.host_traits.specs.Did.{Did, trace_of}
use Rattle.host_traits.proofs.Doing.{did_answered}
use Rattle.verity_descriptor.specs.declared.Descriptor.{Descriptor}
use Rattle.verity_descriptor.specs.declared.DescriptorFault.{DescriptorFault}
use Rattle.verity_descriptor.specs.Spelling.{decoded}
use Rattle.ro_file.specs.declared.files.RoFault.{RoFault}
use Rattle.ro_file.specs.declared.files.RoFault.TheVariants as fault
use Rattle.ro_file.specs.Files.{MeasuredFile, file_of}
use Rattle.ro_file.specs.Opening.{IsDescriptorCall, OpenFileOutcome, Describes, has_digest, file_within, file_from, opened}

-- bytes never tell of a failed call or of want of memory
abbrev pub IsHeard : RoFault → Type 0
IsHeard (fault.Failed faults) = ⊥
IsHeard fault.Memory = ⊥
IsHeard why = Unit {0}

abbrev pub IsHeardOr : Result MeasuredFile RoFault → Type 0
IsHeardOr (Ok f) = Unit {0}
IsHeardOr (Err why) = IsHeard why

sized : (file : ℕ) (digest : Digest) (d : Descriptor) → IsHeardOr (file_within file digest d)
sized file digest d = elim (nat_lt (2 ^ 32) d.size) as (λ v. IsHeardOr (if v then Err (fault.TooLong d.size) else Ok (file_of file digest d))) [ true ↦ tt | false ↦ tt ]

read : (file : ℕ) (digest : Digest) (r : Result Descriptor DescriptorFault) → IsHeardOr (file_from file digest r)
read file digest (Ok d) = sized file digest d
read file digest (Err broken) = tt

heard : (file : ℕ) (digest : Digest) (bytes : List ℕ) → IsHeardOr (opened file digest bytes)
unfolding opened
heard file digest bytes =
    let other : Result MeasuredFile RoFault = Err (fault.DigestMismatch digest (record { 0 = sha256 bytes })) in
    elim (nat_lt (length bytes) 256) as (λ v. IsHeardOr (if v then Err (fault.Short 256 (length bytes)) else if has_digest digest bytes then file_from file digest (decoded bytes) else other)) [
      | true ↦ tt
      | false ↦ elim (has_digest digest bytes) as (λ v. IsHeardOr (if v then file_from file digest (decoded bytes) else other)) [ true ↦ read file digest (decoded bytes) | false ↦ tt ]
    ]

module _ (file : ℕ) (digest : Digest) (x y : Told) (raw : List ℕ) (few : length raw ≤ 256) where
  outcome : (r : Result MeasuredFile RoFault) → r ≡ opened file digest raw → IsHeardOr r → IfOk r (λ f. Describes file digest raw f)
      → OpenFileOutcome file digest r (trace_of ((DescriptorOf file, Bytes raw) ∷ []) 0 x y)
  outcome (Ok f) is heard_so describes = record { failed = refl; bytes = raw; own = refl; is = sym is; describes = describes }
  outcome (Err (fault.Failed faults)) is heard_so describes = absurd heard_so
  outcome (Err fault.Memory) is heard_so describes = absurd heard_so
  outcome (Err (fault.Short asked got)) is heard_so describes = record { failed = refl; bytes = raw; own = refl; few = few; is = sym is }
  outcome (Err (fault.DigestMismatch expected found)) is heard_so describes = record { failed = refl; bytes = raw; own = refl; few = few; is = sym is }
  outcome (Err (fault.Descriptor broken)) is heard_so describes = record { failed = refl; bytes = raw; own = refl; few = few; is = sym is }
  outcome (Err (fault.TooLong size)) is heard_so describes = record { failed = refl; bytes = raw; own = refl; few = few; is = sym is }

  pub answered : (r : Result MeasuredFile RoFault) → Answered (DescriptorOf file) [] (Bytes raw) x y → r ≡ opened file digest raw → IfOk r (λ f. Describes file digest raw f)
      → Did (IsDescriptorCall file) 1 x y (OpenFileOutcome file digest r)
  answered r a is describes =
      did_answered (IsDescriptorCall file) (DescriptorOf file) (Bytes raw) x y (OpenFileOutcome file digest r) refl a (outcome r is (subst IsHeardOr (sym is) (heard file digest raw)) describes)

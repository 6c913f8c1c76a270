-- The bytes of a descriptor (fs-verity, "fs-verity descriptor"), and the first rule that bytes break.
use Rattle.std.specs.Prelude.{◌≡◌, ℕ, zero, suc, ◌+◌, ◌-◌, ◌<◌, ◌≤◌, ◌^◌, Bool, List, [], ◌∷◌, ◌++◌, length, take, drop, replicate, slice_index, Option, Some, None, Result, Ok, Err, ◌==◌, nat_lt, if◌then◌else◌}
use Rattle.std.specs.Int.{w64, to_le_bytes, from_le_bytes}
use Rattle.verity_descriptor.specs.declared.Descriptor.{Descriptor}
use Rattle.verity_descriptor.specs.declared.DescriptorFault.{DescriptorFault}
use Rattle.verity_descriptor.specs.declared.DescriptorFault.TheVariants.{Version, Algorithm, BlockSize, SaltLength, NotZero}

abbrev pub zeros : ℕ → List ℕ
zeros n = replicate n 0

-- what a descriptor can say
pub record IsDescriptor (d : Descriptor) : Type 0 where
  pub size : d.size < 2 ^ 64
  pub root : length d.root.0 ≡ 32
  pub salt : length d.salt ≤ 32

-- version, hash algorithm, block size and salt size; size; root hash and salt, each with zeros behind it
unfoldable pub descriptor_bytes : Descriptor → List ℕ
descriptor_bytes d = (1 ∷ 1 ∷ 12 ∷ length d.salt ∷ []) ++ (zeros 4 ++ (to_le_bytes w64 d.size ++ (d.root.0 ++ (zeros 32 ++ (d.salt ++ zeros (176 - length d.salt))))))

-- the rules, in order

abbrev pub must : Bool → DescriptorFault → Option DescriptorFault
must holds fault = if holds then None else Some fault

infixr 10 ◌then◌
abbrev pub ◌then◌ : Option DescriptorFault → Option DescriptorFault → Option DescriptorFault
(Some fault) then later = Some fault
None then later = later

abbrev pub first_not_zero : ℕ → List ℕ → Option ℕ
first_not_zero at [] = None
first_not_zero at (zero ∷ bytes) = first_not_zero (at + 1) bytes
first_not_zero at (suc b ∷ bytes) = Some at

abbrev pub not_zero : Option ℕ → Option DescriptorFault
not_zero None = None
not_zero (Some at) = Some (NotZero at)

abbrev pub reserved : ℕ → ℕ → List ℕ → Option DescriptorFault
reserved from to bytes = not_zero (first_not_zero from (take (to - from) (drop from bytes)))

unfoldable pub first_fault : List ℕ → Option DescriptorFault
first_fault b =
    must (slice_index b 0 == 1) (Version (slice_index b 0))
    then must (slice_index b 1 == 1) (Algorithm (slice_index b 1))
    then must (slice_index b 2 == 12) (BlockSize (slice_index b 2))
    then must (nat_lt (slice_index b 3) 33) (SaltLength (slice_index b 3))
    then reserved 4 8 b
    then reserved 48 80 b
    then reserved (80 + slice_index b 3) 256 b

abbrev pub said : List ℕ → Descriptor
said b = record { size = from_le_bytes w64 (take 8 (drop 8 b)); root = record { 0 = take 32 (drop 16 b) }; salt = take (slice_index b 3) (drop 80 b) }

abbrev pub answer : Option DescriptorFault → Descriptor → Result Descriptor DescriptorFault
answer None d = Ok d
answer (Some fault) d = Err fault

abbrev pub decoded : List ℕ → Result Descriptor DescriptorFault
decoded b = answer (first_fault b) (said b)

abbrev pub fault_of : Result Descriptor DescriptorFault → Option DescriptorFault
fault_of (Ok d) = None
fault_of (Err fault) = Some fault

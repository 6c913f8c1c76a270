-- What is opened and read where a host holds a file, and no call failed or the host is honest: what it holds, or nothing for want
-- of memory.
use Rattle.std.specs.Prelude.{◌≡◌, ℕ, ◌^◌, ◌≤◌, List, take, drop, Some, Result, Ok, Err}
use Rattle.sha2.specs.Sha256.{sha256}
use Rattle.mg_base.specs.declared.values.Digest.{Digest}
use Rattle.host_traits.specs.Held.{Held, File}
use Rattle.host_traits.specs.Told.{Told, Calm}
use Rattle.verity_descriptor.specs.declared.Descriptor.{Descriptor}
use Rattle.verity_descriptor.specs.Spelling.{IsDescriptor, descriptor_bytes}
use Rattle.verity_path.specs.Holding.{WhereHeld, OrMemory}
use Rattle.verity_path.specs.declared.walk.WalkFault.{WalkFault}
use Rattle.ro_file.specs.declared.files.RoFault.{RoFault}
use Rattle.ro_file.specs.declared.files.RoFault.TheVariants as fault
use Rattle.ro_file.specs.Files.{MeasuredFile, layout_of, file_of}

-- a file that is held has this descriptor, of at most 2 ^ 32 bytes, which has the digest
pub record HoldsDescriptor (h : Held) (number : ℕ) (digest : Digest) (d : Descriptor) : Type 0 where
  pub file : File
  pub there : h.file number ≡ Some file
  pub spelled : file.descriptor ≡ descriptor_bytes d
  pub sound : IsDescriptor d
  pub size : d.size ≤ 2 ^ 32
  pub digest_is : digest.0 ≡ sha256 (descriptor_bytes d)

-- it was opened as the file that a descriptor describes, or the host had no memory
abbrev pub OpensAs : ℕ → Digest → Descriptor → Result MeasuredFile RoFault → Type 0
OpensAs number digest d (Ok f) = f ≡ file_of number digest d
OpensAs number digest d (Err why) = why ≡ fault.Memory

-- Where a host held such a file, and no call failed or the host is honest, it was opened, and the host holds afterwards what it
-- held.
pub record FileOpens (number : ℕ) (digest : Digest) (old new : Told) (result : Result MeasuredFile RoFault) : Type 0 where
  pub right : (h : Held) (d : Descriptor) → Calm old new → old.held ≡ Some h → HoldsDescriptor h number digest d
      → (new.held ≡ Some h) × OpensAs number digest d result

-- Where a host held a content and its tree as those of a file, and no call failed or the host is honest, a read gives the
-- content's bytes, cut at its end.
abbrev pub FileReadIsRight : MeasuredFile → ℕ → ℕ → Told → Told → List ℕ → Result (Unit {0}) WalkFault → Type 0
FileReadIsRight f offset len old new bytes result =
    WhereHeld (layout_of f) f.measure old new (λ content. OrMemory result (λ _. bytes ≡ take len (drop offset content)))

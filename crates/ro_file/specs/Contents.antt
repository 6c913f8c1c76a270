-- Contents of a file's digest, and what an opened file and its reads say of them.
use Rattle.std.specs.Prelude.{◌≡◌, ◌≢◌, ◌⊎◌, ℕ, ◌^◌, ◌<◌, ◌≤◌, List, length, take, drop, Ok}
use Rattle.sha2.specs.Sha256.{sha256}
use Rattle.mg_base.specs.declared.values.Digest.{Digest}
use Rattle.host_traits.specs.declared.calls.Call.{Call}
use Rattle.host_traits.specs.declared.calls.Call.TheVariants.{Descriptor as DescriptorOf}
use Rattle.host_traits.specs.declared.calls.Said.{Said}
use Rattle.host_traits.specs.declared.calls.Said.TheVariants.{Bytes}
use Rattle.host_traits.specs.Told.{Exchanges}
use Rattle.host_traits.specs.Did.{IsIn, Trace}
use Rattle.sha_tree.specs.Tree.{root, padded, page}
use Rattle.sha_tree.specs.Measured.{HasTree}
use Rattle.sha_tree.specs.Path.{IsInput, NoClash}
use Rattle.verity_path.specs.Pieces.{IsSeen}
use Rattle.verity_path.specs.Range.{IsCut, end_of}
use Rattle.verity_path.specs.Walk.{IsMismatch}
use Rattle.verity_path.specs.declared.states.Mismatch.{Mismatch}
use Rattle.verity_descriptor.specs.declared.Descriptor.{Descriptor}
use Rattle.verity_descriptor.specs.Spelling.{IsDescriptor, descriptor_bytes}
use Rattle.ro_file.specs.Files.{MeasuredFile, layout_of, file_of}
use Rattle.ro_file.specs.Opening.{opened, WasOpened}

-- the descriptor of a content under a salt (fs-verity, "fs-verity descriptor")
abbrev pub descriptor_of : List ℕ → List ℕ → Descriptor
descriptor_of content salt = record { size = length content; root = record { 0 = root content salt }; salt = salt }

-- a content, of a size that a descriptor can say, whose descriptor under this salt has the digest (fs-verity, "File digest
-- computation")
pub record IsFileMeasured (digest : Digest) (content salt : List ℕ) : Type 0 where
  pub size : length content < 2 ^ 64
  pub digest_is : sha256 (descriptor_bytes (descriptor_of content salt)) ≡ digest.0

-- a whole answer to a call for a descriptor
pub record IsHeardDescriptor (heard : Exchanges) (x : List ℕ) : Type 0 where
  pub file : ℕ
  pub was_heard : IsIn (DescriptorOf file) (Bytes x) heard
  pub whole : length x ≡ 256

-- What is hashed where a file is opened and read: the pieces that were heard, under the salt that its descriptor said; the
-- descriptors that were heard; the pages of the content, under its salt; the content's descriptor.
abbrev pub IsFileHashed : Exchanges → List ℕ → List ℕ → List ℕ → List ℕ → Type 0
IsFileHashed heard said content salt x =
    IsSeen heard said x ⊎ IsHeardDescriptor heard x ⊎ IsInput content salt x ⊎ (x ≡ descriptor_bytes (descriptor_of content salt))

-- the file's size, salt and tree are the content's
pub record IsContentOf (f : MeasuredFile) (content salt : List ℕ) : Type 0 where
  pub size : f.size ≡ length content
  pub salt_is : f.measure.salt ≡ salt
  pub tree : HasTree f.measure content

-- The premises on a content of an opened file, where this was heard: it has the digest, and no two different ones of what is
-- hashed share a digest.
pub record IsFileContent (digest : Digest) (heard : Exchanges) (f : MeasuredFile) (content salt : List ℕ) : Type 0 where
  pub measured : IsFileMeasured digest content salt
  pub no_clash : NoClash (IsFileHashed heard f.measure.salt content salt)

-- An opened file is each such content's: its size, its salt and its tree.
abbrev pub FilesAreMeasured : Type 0
FilesAreMeasured = (file : ℕ) (digest : Digest) (heard : Exchanges) (f : MeasuredFile) (content salt : List ℕ) →
    WasOpened file digest heard f → IsFileContent digest heard f content salt → IsContentOf f content salt

-- each answer of the one was heard in the other
abbrev pub AreAmong : Exchanges → Exchanges → Type 0
AreAmong own heard = (call : Call) (said : Said) → IsIn call said own → IsIn call said heard

-- Bytes of an opened file that a read cut from pages tied to its root by its own answers, which are among those that were heard, are
-- the slice of each such content, cut at its end.
abbrev pub FileReadsAreSlices : Type 0
FileReadsAreSlices = (file : ℕ) (digest : Digest) (heard : Exchanges) (f : MeasuredFile) (content salt : List ℕ) →
    WasOpened file digest heard f → IsFileContent digest heard f content salt → (own : Exchanges) → AreAmong own heard →
    (offset len : ℕ) (bytes : List ℕ) → IsCut own f.measure offset (end_of f.size offset len) bytes → bytes ≡ take len (drop offset content)

-- The answer at which a mismatch was found in such a read is, padded to a page, not the page of such a content.
abbrev pub FileMismatchesLie : Type 0
FileMismatchesLie = (file : ℕ) (digest : Digest) (heard : Exchanges) (f : MeasuredFile) (content salt : List ℕ) →
    WasOpened file digest heard f → IsFileContent digest heard f content salt → (t : Trace) → AreAmong t.heard heard → (x : Mismatch) →
    (w : IsMismatch (layout_of f) f.measure t x) → padded w.bytes ≢ page content salt x.level x.index

-- What spells a descriptor of at most 2 ^ 32 bytes opens by its own digest.
abbrev pub DescriptorsOpen : Type 0
DescriptorsOpen = (file : ℕ) (digest : Digest) (d : Descriptor) → IsDescriptor d → d.size ≤ 2 ^ 32 →
    digest.0 ≡ sha256 (descriptor_bytes d) → opened file digest (descriptor_bytes d) ≡ Ok (file_of file digest d)

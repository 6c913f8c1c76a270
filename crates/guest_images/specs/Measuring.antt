-- What a file is measured by, and the idsig that is made of it.
use Rattle.std.specs.Prelude.{◌≡◌, ◌≤◌, ◌<◌, ◌^◌, ◌⊎◌, ℕ, List, [], ◌++◌, length, Option, Some, string_bytes, codes}
use Rattle.std.specs.Fmt.{decimal}
use Rattle.std.specs.Io.KnownBytes.{Appends}
use Rattle.hex.specs.Hex.{encode_lower}
use Rattle.sha2.specs.Sha256.{sha256}
use Rattle.sha_tree.specs.Tree.{block_count, root, stored_tree}
use Rattle.verity_descriptor.specs.declared.Descriptor.{Descriptor}
use Rattle.verity_descriptor.specs.Spelling.{descriptor_bytes}
use Rattle.idsig_v4.specs.Grammar.{idsig_bytes, IsIdsig, head_for}
use Rattle.text_lines.specs.Spelling.{salt_text}
use Rattle.host_traits.specs.Folders.{Files, Errand, load_of, store_of}
use Rattle.host_traits.specs.Streams.{SomePrefix}
use Rattle.guest_files.specs.Files.{IsThere, Passes}
use Rattle.guest_files.specs.Keeping.{IsStored, MayBeStored}
use Rattle.guest_images.specs.declared.status.UnfitKind.TheVariants.{TooFewBlocks}
use Rattle.guest_images.specs.declared.status.Status.{Status}
use Rattle.guest_images.specs.declared.status.Status.TheVariants.{Done, FileFault, WriteFault, TooMuch, Memory, Unfit}
use Rattle.text_lines.specs.Ends.{space, line_feed}

-- the files of the folder before the run and after it, and the folder's last call that failed
pub record FolderRun : Type 0 where
  pub old : Option Files
  pub new : Option Files
  pub last : Option Errand

-- what the log held before and after
pub record LogRun : Type 0 where
  pub old : Option (List ℕ)
  pub new : Option (List ℕ)

abbrev pub folder_run : Option Files → Option Files → Option Errand → FolderRun
folder_run old new last = record { old = old; new = new; last = last }

abbrev pub log_run : Option (List ℕ) → Option (List ℕ) → LogRun
log_run old new = record { old = old; new = new }

-- no file changed
abbrev pub IsUnchanged : FolderRun → Type 0
IsUnchanged folder = folder.new ≡ folder.old

-- nothing was written
abbrev pub IsQuiet : LogRun → Type 0
IsQuiet log = log.new ≡ log.old

-- a file of at most 2 ^ 30 bytes was there
pub record HasInput (files : Option Files) (name content : List ℕ) : Type 0 where
  pub there : IsThere files name content
  pub few : length content ≤ 2 ^ 30

-- the descriptor of a content under a salt, and the digest that stands for it (fs-verity, "File digest computation")
abbrev pub descriptor_for : List ℕ → List ℕ → Descriptor
descriptor_for content salt = record { size = length content; root = record { 0 = root content salt }; salt = salt }

abbrev pub digest_for : List ℕ → List ℕ → List ℕ
digest_for content salt = sha256 (descriptor_bytes (descriptor_for content salt))

-- the idsig of a content under a salt, without signing info
abbrev pub idsig_for : List ℕ → List ℕ → List ℕ
idsig_for content salt = idsig_bytes salt (root content salt) [] (stored_tree content salt)

-- it is in its grammar, with this head
abbrev pub IsIdsigFor : List ℕ → List ℕ → Type 0
IsIdsigFor content salt = IsIdsig (idsig_for content salt) (head_for salt (record { 0 = root content salt }) [] (stored_tree content salt))

-- ---- a measure

-- measure BLOCKS SALT ROOT, and digest DIGEST
abbrev pub measured_lines : ℕ → List ℕ → List ℕ → List ℕ → List ℕ
measured_lines blocks salt root digest =
    codes "measure " ++ decimal blocks ++ space ++ salt_text salt ++ space ++ encode_lower root ++ line_feed
    ++ codes "digest " ++ encode_lower digest ++ line_feed

-- those of a content under a salt
abbrev pub measure_lines : List ℕ → List ℕ → List ℕ
measure_lines content salt = measured_lines (block_count (length content)) salt (root content salt) (digest_for content salt)

-- the file was measured, and its lines were written; or a front part of them was
pub record IsMeasured (folder : FolderRun) (file salt : List ℕ) (Writes : List ℕ → Type 0) : Type 0 where
  pub content : List ℕ
  pub input : HasInput folder.old file content
  pub unchanged : IsUnchanged folder
  pub writes : Writes (measure_lines content salt)

-- nothing was made: no file changed, and nothing was written
pub record Untouched (folder : FolderRun) (log : LogRun) : Type 0 where
  pub unchanged : IsUnchanged folder
  pub quiet : IsQuiet log

-- the folder failed at the load of this file
pub record LoadFailed (folder : FolderRun) (name file : List ℕ) : Type 0 where
  pub is : name ≡ file
  pub last : folder.last ≡ Some (load_of name)

-- what each status of a measure says
abbrev pub Measures : FolderRun → LogRun → List ℕ → List ℕ → Status → Type 0
Measures folder log file salt Done = IsMeasured folder file salt (Appends log.old log.new)
Measures folder log file salt WriteFault = IsMeasured folder file salt (SomePrefix log.old log.new)
Measures folder log file salt (FileFault name) = LoadFailed folder (string_bytes name) file × Untouched folder log
Measures folder log file salt TooMuch = Passes folder.old file 0 × Untouched folder log
Measures folder log file salt Memory = Untouched folder log
Measures folder log file salt other = ⊥

-- ---- an idsig

-- the file has two blocks or more, and its idsig was stored; or storing failed
pub record IsSigned (folder : FolderRun) (file salt : List ℕ) (Storing : List ℕ → Type 0) : Type 0 where
  pub content : List ℕ
  pub input : HasInput folder.old file content
  pub enough : 2 ≤ block_count (length content)
  pub grammar : IsIdsigFor content salt
  pub storing : Storing (idsig_for content salt)

-- a file of fewer than two blocks has no stored tree
pub record HasNoTree (files : Option Files) (file : List ℕ) : Type 0 where
  pub content : List ℕ
  pub input : HasInput files file content
  pub low : block_count (length content) < 2

-- what each status of an idsig says
abbrev pub Signs : FolderRun → LogRun → List ℕ → List ℕ → List ℕ → Status → Type 0
Signs folder log file salt out Done = IsSigned folder file salt (λ bytes. IsStored folder.old folder.new (out, bytes)) × IsQuiet log
Signs folder log file salt out (FileFault name) =
    (LoadFailed folder (string_bytes name) file × Untouched folder log)
    ⊎ ((string_bytes name ≡ out) × (folder.last ≡ Some (store_of out)) × IsSigned folder file salt (λ bytes. MayBeStored folder.old folder.new (out, bytes)) × IsQuiet log)
Signs folder log file salt out TooMuch = Passes folder.old file 0 × Untouched folder log
Signs folder log file salt out Memory =
    Untouched folder log ⊎ (IsSigned folder file salt (λ bytes. MayBeStored folder.old folder.new (out, bytes)) × IsQuiet log)
Signs folder log file salt out (Unfit TooFewBlocks) = HasNoTree folder.old file × Untouched folder log
Signs folder log file salt out other = ⊥

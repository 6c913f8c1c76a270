-- An instance image that is made from a list of its partitions: what was read, what was stored, and what each status says.
use Rattle.std.specs.Prelude.{◌≡◌, ◌⊎◌, ◌^◌, ℕ, ◌+◌, ◌-◌, ◌*◌, List, ◌++◌, ◌==◌, ◌||◌, length, nat_lt, Option, Some, None, Result, Ok, Err, if◌then◌else◌, string_bytes}
use Rattle.sha_tree.specs.Tree.{div_up}
use Rattle.guid_crc.specs.Guids.{Guid}
use Rattle.host_traits.specs.Folders.{Files, store_of}
use Rattle.text_lines.specs.declared.kinds.PlanKind.{PlanKind}
use Rattle.guest_files.specs.Files.{IsLoaded, Passes}
use Rattle.guest_files.specs.Keeping.{IsStored, MayBeStored}
use Rattle.instance_image.specs.Records.{zeros}
use Rattle.instance_image.specs.Grammar.{IsImage, image_bytes, empty_slots, taken}
use Rattle.guest_images.specs.declared.image_lists.ImageList.{ImageList}
use Rattle.guest_images.specs.declared.status.UnfitKind.{UnfitKind}
use Rattle.guest_images.specs.declared.status.UnfitKind.TheVariants.{TooMany, NoParts}
use Rattle.guest_images.specs.declared.status.Status.{Status}
use Rattle.guest_images.specs.declared.status.Status.TheVariants.{Done, Usage, ListFault, FileFault, WriteFault, TooMuch, Memory, Unfit}
use Rattle.guest_images.specs.ImageLists.{IsImageList, image_list_of}
use Rattle.guest_images.specs.Measuring.{FolderRun, LogRun, Untouched, IsQuiet, LoadFailed}

-- ---- the image

-- at most 256 partitions, in at most 2 ^ 21 sectors with all headers; and at least one
abbrev pub image_unfit : List (Guid × ℕ) → Option UnfitKind
image_unfit parts =
    if nat_lt 256 (length parts) || nat_lt (2 ^ 21) (1 + taken parts) then Some TooMany
    else if length parts == 0 then Some NoParts
    else None

-- bytes, and zeros up to a multiple of 4096
abbrev pub padded : List ℕ → List ℕ
padded bytes = bytes ++ zeros (4096 * div_up (length bytes) 4096 - length bytes)

-- the disk header, the empty partitions in order, and those zeros
abbrev pub image_file : List ℕ → List (Guid × ℕ) → List ℕ
image_file salt parts = padded (image_bytes salt parts)

-- it is an image of these partitions, a whole number of blocks of eight sectors
abbrev pub IsImageFile : List ℕ → List (Guid × ℕ) → Type 0
IsImageFile salt parts = IsImage (8 * div_up (1 + taken parts) 8) salt (empty_slots parts) (image_file salt parts)

-- ---- a run

-- the list was loaded, and says this
pub record ImageListRead (files : Option Files) (list salt : List ℕ) (parts : List (Guid × ℕ)) : Type 0 where
  pub text : List ℕ
  pub now : ℕ
  pub loaded : IsLoaded files list 0 now text
  pub is : IsImageList text salt parts

-- the list was loaded, and breaks a rule
pub record ImageListBroken (files : Option Files) (list : List ℕ) (line : ℕ) (kind : PlanKind) : Type 0 where
  pub text : List ℕ
  pub now : ℕ
  pub loaded : IsLoaded files list 0 now text
  pub is : image_list_of text ≡ Err (line, kind)

-- an image can be made of the list's partitions, and it was stored; or storing failed
pub record IsImaged (files : Option Files) (list : List ℕ) (Storing : List ℕ → Type 0) : Type 0 where
  pub salt : List ℕ
  pub parts : List (Guid × ℕ)
  pub read : ImageListRead files list salt parts
  pub fit : image_unfit parts ≡ None
  pub image : IsImageFile salt parts
  pub storing : Storing (image_file salt parts)

-- no image can be made of the list's partitions, by this kind first
pub record HasNoImage (files : Option Files) (list : List ℕ) (kind : UnfitKind) : Type 0 where
  pub salt : List ℕ
  pub parts : List (Guid × ℕ)
  pub read : ImageListRead files list salt parts
  pub unfit : image_unfit parts ≡ Some kind

-- what each status of an instance image says
abbrev pub Images : FolderRun → LogRun → List ℕ → List ℕ → Status → Type 0
Images folder log list out Done = IsImaged folder.old list (λ bytes. IsStored folder.old folder.new (out, bytes)) × IsQuiet log
Images folder log list out Usage = ⊥
Images folder log list out (ListFault line kind) = ImageListBroken folder.old list line kind × Untouched folder log
Images folder log list out (FileFault name) =
    (LoadFailed folder (string_bytes name) list × Untouched folder log)
    ⊎ ((string_bytes name ≡ out) × (folder.last ≡ Some (store_of out)) × IsImaged folder.old list (λ bytes. MayBeStored folder.old folder.new (out, bytes)) × IsQuiet log)
Images folder log list out WriteFault = ⊥
Images folder log list out TooMuch = Passes folder.old list 0 × Untouched folder log
Images folder log list out Memory =
    Untouched folder log ⊎ (IsImaged folder.old list (λ bytes. MayBeStored folder.old folder.new (out, bytes)) × IsQuiet log)
Images folder log list out (Unfit kind) = HasNoImage folder.old list kind × Untouched folder log

-- ---- parts of the work

-- what became of a list's text
abbrev pub ImageListed : List ℕ → Result ImageList Status → Type 0
ImageListed text (Ok l) = IsImageList text l.salt l.parts.items
ImageListed text (Err Done) = ⊥
ImageListed text (Err Usage) = ⊥
ImageListed text (Err (ListFault line kind)) = image_list_of text ≡ Err (line, kind)
ImageListed text (Err (FileFault name)) = ⊥
ImageListed text (Err WriteFault) = ⊥
ImageListed text (Err TooMuch) = ⊥
ImageListed text (Err Memory) = Unit {0}
ImageListed text (Err (Unfit kind)) = ⊥

-- the list, or why not
abbrev pub ImageListOutcome : Option Files → List ℕ → Result ImageList Status → Type 0
ImageListOutcome files list (Ok l) = ImageListRead files list l.salt l.parts.items
ImageListOutcome files list (Err Done) = ⊥
ImageListOutcome files list (Err Usage) = ⊥
ImageListOutcome files list (Err (ListFault line kind)) = ImageListBroken files list line kind
ImageListOutcome files list (Err (FileFault name)) = string_bytes name ≡ list
ImageListOutcome files list (Err WriteFault) = ⊥
ImageListOutcome files list (Err TooMuch) = Passes files list 0
ImageListOutcome files list (Err Memory) = Unit {0}
ImageListOutcome files list (Err (Unfit kind)) = ⊥

-- A composite disk that is made from a list of parts: what was read, what was stored, and what each status says.
use Rattle.std.specs.Prelude.{◌≡◌, ◌⊎◌, ℕ, List, [], ◌∷◌, ◌++◌, length, Option, Some, None, Result, Ok, Err, string_bytes}
use Rattle.std.specs.declared.vec.Vec.{Vec}
use Rattle.std.specs.declared.alloc.Global.{Global}
use Rattle.host_traits.specs.Folders.{Files, load_of, store_of}
use Rattle.text_lines.specs.declared.kinds.PlanKind.{PlanKind}
use Rattle.guest_files.specs.declared.load.Refusal.TheVariants as refusal
use Rattle.guest_files.specs.Files.{IsLoaded}
use Rattle.guest_files.specs.Keeping.{Parcel, AreStored, StoringStops}
use Rattle.guest_images.specs.declared.parts.PartLine.{PartLine}
use Rattle.guest_images.specs.declared.pieces.Piece.{Piece}
use Rattle.guest_images.specs.declared.status.Status.{Status}
use Rattle.guest_images.specs.declared.status.Status.TheVariants.{Done, ListFault, FileFault, TooMuch, Memory, Unfit}
use Rattle.guest_images.specs.Loads.{LoadFault}
use Rattle.guest_images.specs.Measuring.{FolderRun, LogRun, Untouched, IsQuiet}
use Rattle.guest_images.specs.Parts.{parts_of as lines_of}
use Rattle.guest_images.specs.Composing.{IsDescribed, HasTable, piece_of, parcels_of, unfit_kind}

-- what became of a list's text
abbrev pub Listed : List ℕ → Result (Vec PartLine Global) Status → Type 0
Listed text (Ok lines) = lines_of text ≡ Ok lines.items
Listed text (Err (ListFault line kind)) = lines_of text ≡ Err (line, kind)
Listed text (Err Memory) = Unit {0}
Listed text (Err other) = ⊥

-- the file of a line was loaded
pub record PieceLoaded (files : Option Files) (line : PartLine) (before now : ℕ) (piece : Piece) : Type 0 where
  pub content : List ℕ
  pub loaded : IsLoaded files line.file before now content
  pub is : piece ≡ piece_of line (length content)

-- the files of these lines were, one after another
abbrev pub PiecesLoaded : Option Files → List PartLine → ℕ → ℕ → List Piece → Type 0
PiecesLoaded files [] before now pieces = (now ≡ before) × (pieces ≡ [])
PiecesLoaded files (line ∷ lines) before now pieces =
    (piece : Piece) × (mid : ℕ) × (later : List Piece) × PieceLoaded files line before mid piece × PiecesLoaded files lines mid now later × (pieces ≡ piece ∷ later)

-- the list was loaded, and so many bytes with it
pub record ListRead (files : Option Files) (list : List ℕ) (lines : List PartLine) (now : ℕ) : Type 0 where
  pub text : List ℕ
  pub loaded : IsLoaded files list 0 now text
  pub is : lines_of text ≡ Ok lines

-- the list and the files of all its lines were loaded
pub record PartsRead (files : Option Files) (list : List ℕ) (pieces : List Piece) : Type 0 where
  pub lines : List PartLine
  pub first : ℕ
  pub read : ListRead files list lines first
  pub now : ℕ
  pub loaded : PiecesLoaded files lines first now pieces

-- the list breaks a rule
pub record ListBroken (files : Option Files) (list : List ℕ) (line : ℕ) (kind : PlanKind) : Type 0 where
  pub text : List ℕ
  pub now : ℕ
  pub loaded : IsLoaded files list 0 now text
  pub is : lines_of text ≡ Err (line, kind)

-- the first of these lines whose file was not loaded, and why
pub record PiecesFail (files : Option Files) (lines : List PartLine) (before : ℕ) (status : Status) : Type 0 where
  pub front : List PartLine
  pub line : PartLine
  pub rest : List PartLine
  pub cut : lines ≡ front ++ line ∷ rest
  pub now : ℕ
  pub pieces : List Piece
  pub loaded : PiecesLoaded files front before now pieces
  pub fails : LoadFault files line.file now status

-- a file of the list's lines was not loaded
pub record PartsFail (files : Option Files) (list : List ℕ) (status : Status) : Type 0 where
  pub lines : List PartLine
  pub first : ℕ
  pub read : ListRead files list lines first
  pub fails : PiecesFail files lines first status

-- the first file that was not loaded: the list, or a file of its lines
abbrev pub InputsFail : Option Files → List ℕ → Status → Type 0
InputsFail files list status = LoadFault files list 0 status ⊎ PartsFail files list status

-- a disk can be made of the parts, and it was stored; or storing stopped
pub record IsComposed (files : Option Files) (list out : List ℕ) (Storing : List Parcel → Type 0) : Type 0 where
  pub pieces : List Piece
  pub read : PartsRead files list pieces
  pub fit : unfit_kind pieces ≡ None
  pub described : IsDescribed out pieces
  pub table : HasTable out pieces
  pub storing : Storing (parcels_of out pieces)

-- what each status of a composite says
abbrev pub Composes : FolderRun → LogRun → List ℕ → List ℕ → Status → Type 0
Composes folder log list out Done = IsComposed folder.old list out (λ parcels. AreStored folder.old parcels folder.new) × IsQuiet log
Composes folder log list out (ListFault line kind) = ListBroken folder.old list line kind × Untouched folder log
Composes folder log list out (FileFault name) =
    ((folder.last ≡ Some (load_of (string_bytes name))) × InputsFail folder.old list (FileFault name) × Untouched folder log)
    ⊎ ((folder.last ≡ Some (store_of (string_bytes name))) × IsComposed folder.old list out (λ parcels. StoringStops folder.old parcels folder.new (refusal.File name)) × IsQuiet log)
Composes folder log list out TooMuch = InputsFail folder.old list TooMuch × Untouched folder log
Composes folder log list out Memory =
    Untouched folder log ⊎ (IsComposed folder.old list out (λ parcels. StoringStops folder.old parcels folder.new refusal.Memory) × IsQuiet log)
Composes folder log list out (Unfit kind) = ((pieces : List Piece) × PartsRead folder.old list pieces × (unfit_kind pieces ≡ Some kind)) × Untouched folder log
Composes folder log list out other = ⊥

-- ---- parts of the work

-- the list and the files of its lines, or why not
abbrev pub InputsOutcome : Option Files → List ℕ → Result (Vec Piece Global) Status → Type 0
InputsOutcome files list (Ok pieces) = PartsRead files list pieces.items
InputsOutcome files list (Err (ListFault line kind)) = ListBroken files list line kind
InputsOutcome files list (Err (FileFault name)) = InputsFail files list (FileFault name)
InputsOutcome files list (Err TooMuch) = InputsFail files list TooMuch
InputsOutcome files list (Err Memory) = Unit {0}
InputsOutcome files list (Err other) = ⊥

-- these files were stored, or storing stopped
abbrev pub StoringOutcome : Option Files → List Parcel → Option Files → Status → Type 0
StoringOutcome old parcels new Done = AreStored old parcels new
StoringOutcome old parcels new (FileFault name) = StoringStops old parcels new (refusal.File name)
StoringOutcome old parcels new Memory = StoringStops old parcels new refusal.Memory
StoringOutcome old parcels new other = ⊥

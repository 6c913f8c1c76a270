-- Files of a disk that are stored one after another.
use Rattle.std.proofs.Common.{◌≡◌, ℕ, List, ◌∷◌, ◌++◌, refl, inr, Option, None}
use Rattle.host_traits.specs.Folders.{Files}
use Rattle.guest_files.specs.declared.load.Refusal.{Refusal}
use Rattle.guest_files.specs.declared.load.Refusal.TheVariants as refusals
use Rattle.guest_files.specs.Files.{Names}
use Rattle.guest_files.specs.Keeping.{Parcel, AreStored, MayBeStored}
use Rattle.guest_images.specs.declared.pieces.Piece.{Piece}
use Rattle.guest_images.specs.declared.status.Status.{Status}
use Rattle.guest_images.specs.declared.status.Status.TheVariants.{Done, Usage, ListFault, FileFault, WriteFault, TooMuch, Memory, Unfit}
use Rattle.guest_images.specs.Loads.{refused, StoresCause}
use Rattle.guest_images.specs.Measuring.{FolderRun}
use Rattle.guest_images.specs.Composing.{IsDescribed, HasTable, parcels_of, unfit_kind}
use Rattle.guest_images.specs.Composed.{StoringOutcome, PartsRead, Composes}

pub stops : (old mid new : Option Files) (done : List Parcel) (p : Parcel) (rest : List Parcel) (r : Refusal) → AreStored old done mid → MayBeStored mid new p → Names p.0 r → StoringOutcome old (done ++ p ∷ rest) new (refused r)
stops old mid new done p rest (refusals.File name) stored may is = record { done = done; rest = p ∷ rest; cut = refl; mid = mid; stored = stored; stops = (is, may) }
stops old mid new done p rest (refusals.Line line kind) stored may is = absurd is
stops old mid new done p rest refusals.TooMuch stored may is = absurd is
stops old mid new done p rest refusals.Memory stored may is = record { done = done; rest = p ∷ rest; cut = refl; mid = mid; stored = stored; stops = inr may }

pub composes_by : (folder : FolderRun) (log : Option (List ℕ)) (list out : List ℕ) (pieces : List Piece) (before now : ℕ) (status : Status) → PartsRead folder.old list pieces → unfit_kind pieces ≡ None → IsDescribed out pieces → HasTable out pieces
    → StoringOutcome folder.old (parcels_of out pieces) folder.new status → StoresCause before now folder.last status → Composes folder (record { old = log; new = log }) list out status
composes_by folder log list out pieces before now Done read fit described table storing cause = (record { pieces = pieces; read = read; fit = fit; described = described; table = table; storing = storing }, refl)
composes_by folder log list out pieces before now Usage read fit described table storing cause = absurd storing
composes_by folder log list out pieces before now (ListFault line kind) read fit described table storing cause = absurd storing
composes_by folder log list out pieces before now (FileFault name) read fit described table storing cause = inr (cause.2, record { pieces = pieces; read = read; fit = fit; described = described; table = table; storing = storing }, refl)
composes_by folder log list out pieces before now WriteFault read fit described table storing cause = absurd storing
composes_by folder log list out pieces before now TooMuch read fit described table storing cause = absurd storing
composes_by folder log list out pieces before now Memory read fit described table storing cause = inr (record { pieces = pieces; read = read; fit = fit; described = described; table = table; storing = storing }, refl)
composes_by folder log list out pieces before now (Unfit kind) read fit described table storing cause = absurd storing

-- What comes of one page of a walk.
use Rattle.std.specs.Prelude.{◌≡◌, ◌≢◌, ℕ, ◌+◌, ◌-◌, ◌*◌, ◌%◌, ◌≤◌, List, [], ◌∷◌, length, slice_range, Result, Ok, Err}
use Rattle.host_traits.specs.declared.calls.Call.{Call}
use Rattle.host_traits.specs.declared.calls.Said.TheVariants.{Bytes}
use Rattle.host_traits.specs.Did.{Trace, IsShort, IsFailed, IsScarce}
use Rattle.sha_tree.specs.Tree.{ancestor, padded, page_hash, slot}
use Rattle.verity_path.specs.States.{Place, Met}
use Rattle.verity_path.specs.Calls.{call_for, piece_for, asked_for}
use Rattle.verity_path.specs.Pieces.{IsPieceOf, IsPiece}
use Rattle.verity_path.specs.declared.states.Mismatch.{Mismatch}
use Rattle.verity_path.specs.declared.walk.Layout.{Layout}
use Rattle.verity_path.specs.declared.ask.Piece.{Piece}
use Rattle.verity_path.specs.declared.walk.WalkFault.{WalkFault}
use Rattle.verity_path.specs.declared.walk.WalkFault.TheVariants as fault

-- the one call for a page
pub record IsCallFor (layout : Layout) (count level i : ℕ) (call : Call) : Type 0 where
  pub call_is : call ≡ call_for layout count level i

-- where the page stands in an answer that is as long as was asked
pub record IsPlaced (layout : Layout) (count level i : ℕ) (piece : Piece) : Type 0 where
  pub asked : piece.asked ≡ asked_for layout count level i
  pub fits : piece.from + piece.len ≤ piece.asked
  pub few : piece.len ≤ 4096
  pub is : (bytes : List ℕ) → length bytes ≡ piece.asked → padded (slice_range bytes piece.from (piece.from + piece.len)) ≡ piece_for layout count level i bytes

-- A page that was heard is the one of the anchor: the piece at its place in the answer to the one call, and its hash under the
-- anchor's salt is the anchor's digest.
pub record IsFetched (layout : Layout) (count : ℕ) (a : Place) (t : Trace) (p : List ℕ) : Type 0 where
  pub failed : t.failed ≡ 0
  pub bytes : List ℕ
  pub own : t.own ≡ (call_for layout count a.level a.index, Bytes bytes) ∷ []
  pub whole : length bytes ≡ asked_for layout count a.level a.index
  pub is : p ≡ piece_for layout count a.level a.index bytes
  pub piece : IsPiece t.own p
  pub len : length p ≡ 4096
  pub met : page_hash a.salt p ≡ a.digest

-- a page that was heard is another one than that of the anchor
pub record IsOther (layout : Layout) (count : ℕ) (a : Place) (t : Trace) (x : Mismatch) : Type 0 where
  pub failed : t.failed ≡ 0
  pub differ : x.expected.0 ≢ x.found.0
  pub bytes : List ℕ
  pub own : t.own ≡ (call_for layout count a.level a.index, Bytes bytes) ∷ []
  pub whole : length bytes ≡ asked_for layout count a.level a.index
  pub piece : IsPieceOf (call_for layout count a.level a.index) (Bytes bytes) (piece_for layout count a.level a.index bytes)
  pub found : x.found.0 ≡ page_hash a.salt (piece_for layout count a.level a.index bytes)
  pub expected : x.expected.0 ≡ a.digest
  pub level_is : x.level ≡ a.level
  pub index_is : x.index ≡ a.index

-- the one answer was shorter than asked
pub record IsShortAlone (t : Trace) (asked got : ℕ) : Type 0 where
  pub short : IsShort t asked got
  pub own : t.own ≡ (short.call, Bytes short.bytes) ∷ []

-- why a page was not fetched; nothing was heard where its call failed or there was no memory
abbrev pub IsFetchBlame : Layout → ℕ → Place → Trace → WalkFault → Type 0
IsFetchBlame layout count a t (fault.Mismatch x) = IsOther layout count a t x
IsFetchBlame layout count a t (fault.Short asked got) = IsShortAlone t asked got
IsFetchBlame layout count a t (fault.Failed faults) = IsFailed (IsCallFor layout count a.level a.index) t faults × (t.own ≡ [])
IsFetchBlame layout count a t fault.Memory = IsScarce t × (t.own ≡ [])

-- what came of the one call, by what the page held before and holds now
abbrev pub FetchOutcome : Layout → ℕ → Place → List ℕ → List ℕ → Result (Unit {0}) WalkFault → Trace → Type 0
FetchOutcome layout count a old new (Ok _) t = IsFetched layout count a t new
FetchOutcome layout count a old new (Err (fault.Mismatch x)) t =
    (w : IsOther layout count a t x) × (new ≡ piece_for layout count a.level a.index w.bytes)
FetchOutcome layout count a old new (Err (fault.Short asked got)) t = IsFetchBlame layout count a t (fault.Short asked got) × (new ≡ old)
FetchOutcome layout count a old new (Err (fault.Failed faults)) t = IsFetchBlame layout count a t (fault.Failed faults) × (new ≡ old)
FetchOutcome layout count a old new (Err fault.Memory) t = IsFetchBlame layout count a t fault.Memory × (new ≡ old)

-- the same of a page that is proved
abbrev pub ProvedOutcome : Layout → ℕ → Place → Result Met WalkFault → Trace → Type 0
ProvedOutcome layout count a (Ok p) t = IsFetched layout count a t p.page × (p.anchor ≡ a)
ProvedOutcome layout count a (Err fault) t = IsFetchBlame layout count a t fault

-- the anchor one level down, on the way to a block
pub record IsBelow (layout : Layout) (count block : ℕ) (a : Place) (t : Trace) (b : Place) : Type 0 where
  pub page : List ℕ
  pub fetched : IsFetched layout count a t page
  pub salt_is : b.salt ≡ a.salt
  pub level_is : b.level ≡ a.level - 1
  pub index_is : b.index ≡ 128 * a.index + ancestor block (a.level - 1) % 128
  pub digest_is : b.digest ≡ slot page (ancestor block (a.level - 1) % 128)

abbrev pub DescentOutcome : Layout → ℕ → ℕ → Place → Result Place WalkFault → Trace → Type 0
DescentOutcome layout count block a (Ok b) t = IsBelow layout count block a t b
DescentOutcome layout count block a (Err fault) t = IsFetchBlame layout count a t fault

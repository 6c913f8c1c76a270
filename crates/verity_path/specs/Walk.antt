-- What comes of a walk to a block.
use Rattle.std.specs.Prelude.{◌≡◌, ◌≢◌, ℕ, List, length, Result, Ok, Err}
use Rattle.host_traits.specs.declared.calls.Call.{Call}
use Rattle.host_traits.specs.declared.calls.Said.TheVariants.{Bytes}
use Rattle.host_traits.specs.Did.{Trace, IsFailed, IsScarce}
use Rattle.sha_tree.specs.declared.measure.Measure.{Measure}
use Rattle.sha_tree.specs.Tree.{block, page_hash, top}
use Rattle.sha_tree.specs.Measured.{HasTree}
use Rattle.sha_tree.specs.Path.{IsDerived, NoClash}
use Rattle.verity_path.specs.States.{Met, IsMet}
use Rattle.verity_path.specs.Calls.{IsOnPath, asked_for, call_for, piece_for}
use Rattle.verity_path.specs.Order.{IsInOrder, IsLast, IsLastShort, asked_in, walk_calls}
use Rattle.verity_path.specs.Judged.{AreRight, AreRightBefore, judged}
use Rattle.verity_path.specs.Pieces.{IsPieceOf, IsPiece, IsHashed}
use Rattle.verity_path.specs.declared.states.Mismatch.{Mismatch}
use Rattle.verity_path.specs.declared.walk.Layout.{Layout}
use Rattle.verity_path.specs.declared.walk.WalkFault.{WalkFault}
use Rattle.verity_path.specs.declared.walk.WalkFault.TheVariants as fault

-- The page at a place has another hash than the digest that what was heard ties to that place: the hash that was found is
-- that of the piece at the page's place in the last answer of this work, to the call for that page, which is as long as asked. No
-- call of this work failed.
pub record IsMismatch (layout : Layout) (m : Measure) (t : Trace) (x : Mismatch) : Type 0 where
  pub failed : t.failed ≡ 0
  pub differ : x.expected.0 ≢ x.found.0
  pub bytes : List ℕ
  pub own : IsLast (call_for layout m.blocks x.level x.index) (Bytes bytes) t.own
  pub whole : length bytes ≡ asked_for layout m.blocks x.level x.index
  pub piece : IsPieceOf (call_for layout m.blocks x.level x.index) (Bytes bytes) (piece_for layout m.blocks x.level x.index bytes)
  pub found : x.found.0 ≡ page_hash m.salt (piece_for layout m.blocks x.level x.index bytes)
  pub expected : IsDerived (IsPiece t.heard) m x.level x.index x.expected.0

-- why a walk whose calls are such came to no page, in what was heard in it
abbrev pub IsWalkBlame : Layout → Measure → (Call → Type 0) → Trace → WalkFault → Type 0
IsWalkBlame layout m IsFor t (fault.Mismatch x) = IsMismatch layout m t x
IsWalkBlame layout m IsFor t (fault.Short asked got) = IsLastShort t asked got
IsWalkBlame layout m IsFor t (fault.Failed faults) = IsFailed IsFor t faults
IsWalkBlame layout m IsFor t fault.Memory = IsScarce t

-- A page that was walked to by calls of which none failed: a piece that was heard, with a hash that what was heard ties to the
-- block's place. It is that block of every content of this measure, where no two different inputs share a digest.
pub record IsProved (m : Measure) (index : ℕ) (t : Trace) (p : Met) : Type 0 where
  pub failed : t.failed ≡ 0
  pub piece : IsPiece t.own p.page
  pub len : length p.page ≡ 4096
  pub derived : IsDerived (IsPiece t.own) m 0 index (page_hash m.salt p.page)
  pub sound : (content : List ℕ) → HasTree m content → NoClash (IsHashed t.own content m.salt) → p.page ≡ block content index
  pub level_is : p.anchor.level ≡ 0
  pub index_is : p.anchor.index ≡ index
  pub salt_is : p.anchor.salt ≡ m.salt
  pub met : IsMet p

-- What came of a walk to a block. With the page each call of the walk was made, from the top page down, and each answer is right;
-- with a fault the first of them, in that order, and each answer but the one to blame is right.
abbrev pub WalkOutcome : Layout → Measure → ℕ → Result Met WalkFault → Trace → Type 0
WalkOutcome layout m index (Ok p) t =
    IsProved m index t p × (asked_in t.own ≡ walk_calls layout m.blocks index (top m.blocks)) × AreRight layout m t.own t.own
WalkOutcome layout m index (Err fault) t =
    IsWalkBlame layout m (IsOnPath layout m index) t fault × IsInOrder (walk_calls layout m.blocks index (top m.blocks)) t
    × AreRightBefore layout m t.own (judged fault)

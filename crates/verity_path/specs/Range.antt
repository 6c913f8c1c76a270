-- Reads of a range of a measured content.
use Rattle.std.specs.Prelude.{◌≡◌, ℕ, ◌+◌, ◌-◌, ◌*◌, ◌/◌, ◌%◌, ◌<◌, ◌≤◌, min, max, List, length, take, drop, slice_index, nat_lt, if◌then◌else◌, Option, Some, None, Result, Ok, Err}
use Rattle.host_traits.specs.declared.calls.Call.{Call}
use Rattle.host_traits.specs.Told.{Exchanges}
use Rattle.host_traits.specs.Did.{Trace, IsFailed}
use Rattle.sha_tree.specs.declared.measure.Measure.{Measure}
use Rattle.sha_tree.specs.Tree.{div_up, page_hash, top}
use Rattle.sha_tree.specs.Path.{IsDerived}
use Rattle.verity_path.specs.Calls.{IsOnPath}
use Rattle.verity_path.specs.Order.{IsInOrder, IsLastShort, asked_in, blocks_calls}
use Rattle.verity_path.specs.Judged.{AreRight, AreRightBefore, judged}
use Rattle.verity_path.specs.Pieces.{IsPiece}
use Rattle.verity_path.specs.Walk.{IsMismatch, IsWalkBlame}
use Rattle.verity_path.specs.declared.walk.Layout.{Layout}
use Rattle.verity_path.specs.declared.walk.WalkFault.{WalkFault}
use Rattle.verity_path.specs.declared.device.Cause.{Cause}
use Rattle.verity_path.specs.declared.device.Cause.TheVariants as cause

-- where a range that is asked for ends, in a content of so many bytes
abbrev pub end_of : ℕ → ℕ → ℕ → ℕ
end_of size offset len = min (offset + len) size

-- how many blocks the range from offset to end touches
abbrev pub touched : ℕ → ℕ → ℕ
touched offset end = if nat_lt offset end then div_up end 4096 - offset / 4096 else 0

-- the most answers of bytes that a read of a range hears: of each touched block, the block and the pages above it
abbrev pub most_answers : Measure → ℕ → ℕ → ℕ → ℕ
most_answers m size offset len = touched offset (end_of size offset len) * (top m.blocks + 1)

-- a call that a read of a range may make: for a block that the range touches, or for a page above one
pub record IsForRead (layout : Layout) (m : Measure) (size offset len : ℕ) (call : Call) : Type 0 where
  pub block : ℕ
  pub some : offset < end_of size offset len
  pub from : offset / 4096 ≤ block
  pub to : 4096 * block < end_of size offset len
  pub path : IsOnPath layout m block call

-- The bytes from offset to end are cut from pages that are tied to the root: each block's bytes from one page.
pub record IsCut (heard : Exchanges) (m : Measure) (offset end : ℕ) (bytes : List ℕ) : Type 0 where
  pub len : length bytes ≡ end - offset
  pub each : (j : ℕ) → j < length bytes →
      (p : List ℕ) × IsPiece heard p × IsDerived (IsPiece heard) m 0 ((offset + j) / 4096) (page_hash m.salt p)
      × ((k : ℕ) → k < length bytes → (offset + k) / 4096 ≡ (offset + j) / 4096 → slice_index bytes k ≡ slice_index p ((offset + k) % 4096))

-- the bytes that a read gives: the content's, where there is one, cut at its end; else bytes of derived pages
abbrev pub IsSlice : Option (List ℕ) → Exchanges → Measure → ℕ → ℕ → ℕ → List ℕ → Type 0
IsSlice (Some content) heard m size offset len bytes = bytes ≡ take len (drop offset content)
IsSlice None heard m size offset len bytes = IsCut heard m offset (end_of size offset len) bytes

-- the calls of a read: of each touched block, in rising order, those from the top page down
abbrev pub read_calls : Layout → Measure → ℕ → ℕ → ℕ → List Call
read_calls layout m size offset len = blocks_calls layout m (offset / 4096) (touched offset (end_of size offset len))

-- What came of a read of a range. Where its bytes are given, no call failed, each of its calls was made, in their order, and each
-- answer is right; with a fault the first of them, in that order, and each answer but the one to blame is right.
abbrev pub RangeOutcome : Layout → Measure → ℕ → ℕ → ℕ → List ℕ → Result (Unit {0}) WalkFault → Trace → Type 0
RangeOutcome layout m size offset len bytes (Ok _) t =
    (t.failed ≡ 0) × IsCut t.own m offset (end_of size offset len) bytes × (asked_in t.own ≡ read_calls layout m size offset len)
    × AreRight layout m t.own t.own
RangeOutcome layout m size offset len bytes (Err fault) t =
    IsWalkBlame layout m (IsForRead layout m size offset len) t fault × IsInOrder (read_calls layout m size offset len) t
    × AreRightBefore layout m t.own (judged fault)

-- the blocks below index are read
abbrev pub RangeSoFar : Layout → Measure → ℕ → ℕ → ℕ → List ℕ → Trace → Type 0
RangeSoFar layout m offset end index bytes t =
    (t.failed ≡ 0) × IsCut t.own m offset (min end (max offset (4096 * index))) bytes
    × (asked_in t.own ≡ blocks_calls layout m (offset / 4096) (index - offset / 4096)) × AreRight layout m t.own t.own

-- the cause of a read that was not answered, in what was heard for it; a read of measured bytes has no tag and no header, and doesn't end early
abbrev pub IsReadBlame : Layout → Measure → (Call → Type 0) → Trace → Cause → Type 0
IsReadBlame layout m IsFor t (cause.Mismatch x) = IsMismatch layout m t x
IsReadBlame layout m IsFor t (cause.Short asked got) = IsLastShort t asked got
IsReadBlame layout m IsFor t (cause.Failed faults) = IsFailed IsFor t faults
IsReadBlame layout m IsFor t (cause.Tag found) = ⊥
IsReadBlame layout m IsFor t (cause.Changed sector) = ⊥
IsReadBlame layout m IsFor t cause.Memory = ⊥

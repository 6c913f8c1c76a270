-- What a walk says in a longer work, and what a mismatch says of a content.
use Rattle.std.proofs.Common.{ℕ, ◌<◌, ◌≤◌, ◌∙◌, List, ◌++◌, refl, sym, inl, inr}
use Rattle.std.specs.Prelude.{◌≢◌}
use Rattle.host_traits.specs.declared.calls.Call.{Call}
use Rattle.host_traits.specs.Told.{Told, Exchanges}
use Rattle.host_traits.specs.Did.{Trace, trace_of}
use Rattle.host_traits.proofs.Doing.{failed_later, scarce_later, failed_so}
use Rattle.sha_tree.specs.declared.measure.Measure.{Measure}
use Rattle.sha_tree.specs.Tree.{page}
use Rattle.sha_tree.specs.Measured.{HasTree}
use Rattle.sha_tree.specs.Path.{NoClash}
use Rattle.sha_tree.proofs.Sound.{derived_more, other_page}
use Rattle.verity_path.specs.Calls.{piece_for}
use Rattle.verity_path.specs.Pieces.{IsPiece, IsHashed}
use Rattle.verity_path.specs.Walk.{IsMismatch, IsWalkBlame}
use Rattle.verity_path.specs.declared.states.Mismatch.{Mismatch}
use Rattle.verity_path.specs.declared.walk.Layout.{Layout}
use Rattle.verity_path.specs.declared.walk.WalkFault.{WalkFault}
use Rattle.verity_path.specs.declared.walk.WalkFault.TheVariants as fault
use Rattle.verity_path.proofs.Order.{last_later, last_short_later}
use Rattle.verity_path.proofs.Pieces.{piece_right}

-- what is blamed in the later part of a work is blamed in the whole
pub blame_later : (layout : Layout) (m : Measure) (F : Call → Type 0) (a b c : Told) (x y : Exchanges) (failed : ℕ) (fault : WalkFault) → a.faults ≤ b.faults →
    IsWalkBlame layout m F (trace_of y failed b c) fault → IsWalkBlame layout m F (trace_of (x ++ y) failed a c) fault
blame_later layout m F a b c x y failed (fault.Mismatch w) le q = record {
  failed = q.failed;
  differ = q.differ;
  bytes = q.bytes;
  own = last_later _ _ x y q.own;
  whole = q.whole;
  piece = q.piece;
  found = q.found;
  expected = derived_more (IsPiece y) (IsPiece (x ++ y)) m (piece_right x y) w.level w.index w.expected.0 q.expected;
}
blame_later layout m F a b c x y failed (fault.Short asked got) le q = last_short_later a b c x y failed asked got q
blame_later layout m F a b c x y failed (fault.Failed faults) le q = failed_later F a b c x y failed faults le q
blame_later layout m F a b c x y failed fault.Memory le q = scarce_later a b c x y failed q

pub blame_so : (layout : Layout) (m : Measure) (F G : Call → Type 0) (t : Trace) (fault : WalkFault) → ((call : Call) → F call → G call) →
    IsWalkBlame layout m F t fault → IsWalkBlame layout m G t fault
blame_so layout m F G t (fault.Mismatch w) f q = q
blame_so layout m F G t (fault.Short asked got) f q = q
blame_so layout m F G t (fault.Failed faults) f q = failed_so F G t faults f q
blame_so layout m F G t fault.Memory f q = q

-- in a world with the content, the piece at which a mismatch was found is not the content's page
pub mismatch_lies : (layout : Layout) (m : Measure) (t : Trace) (x : Mismatch) (content : List ℕ) → HasTree m content → 0 < m.blocks →
    NoClash (IsHashed t.heard content m.salt) → (w : IsMismatch layout m t x) →
    piece_for layout m.blocks x.level x.index w.bytes ≢ page content m.salt x.level x.index
mismatch_lies layout m t x content tree some apart w =
    other_page (IsPiece t.heard) (IsHashed t.heard content m.salt) m content tree some apart
    (λ p i. inl (record { p = p; piece = i; is = refl })) (λ y i. inr i)
    x.level x.index (piece_for layout m.blocks x.level x.index w.bytes) x.expected.0 w.expected
    (λ same. w.differ (same ∙ sym w.found))

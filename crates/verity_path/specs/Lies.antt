-- What a mismatch says of a content.
use Rattle.std.specs.Prelude.{◌≢◌, ℕ, ◌<◌, List}
use Rattle.host_traits.specs.Did.{Trace}
use Rattle.sha_tree.specs.declared.measure.Measure.{Measure}
use Rattle.sha_tree.specs.Tree.{page}
use Rattle.sha_tree.specs.Measured.{HasTree}
use Rattle.sha_tree.specs.Path.{NoClash}
use Rattle.verity_path.specs.Calls.{piece_for}
use Rattle.verity_path.specs.Pieces.{IsHashed}
use Rattle.verity_path.specs.Walk.{IsMismatch}
use Rattle.verity_path.specs.declared.states.Mismatch.{Mismatch}
use Rattle.verity_path.specs.declared.walk.Layout.{Layout}

-- Where a content has the measure's tree and no two different inputs share a digest, the piece at which a mismatch was found
-- is not the content's page at that place.
abbrev pub MismatchesLie : Type 0
MismatchesLie = (layout : Layout) (m : Measure) (t : Trace) (x : Mismatch) (content : List ℕ) → HasTree m content → 0 < m.blocks →
    NoClash (IsHashed t.heard content m.salt) → (w : IsMismatch layout m t x) →
    piece_for layout m.blocks x.level x.index w.bytes ≢ page content m.salt x.level x.index

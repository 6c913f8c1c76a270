-- Contents of a measure.
use Rattle.std.specs.Prelude.{◌≡◌, ℕ, ◌*◌, List, length}
use Rattle.sha_tree.specs.Tree.{block_count, root}
use Rattle.sha_tree.specs.declared.measure.Measure.{Measure}

-- a device's content: it has the measure's blocks, each whole, and its root
pub record IsMeasured (m : Measure) (content : List ℕ) : Type 0 where
  pub size : length content ≡ 4096 * m.blocks
  pub root : root content m.salt ≡ m.root.0

-- a content, whose last block may be partial, has the measure's number of blocks and its root
pub record HasTree (m : Measure) (content : List ℕ) : Type 0 where
  pub blocks : block_count (length content) ≡ m.blocks
  pub root : root content m.salt ≡ m.root.0

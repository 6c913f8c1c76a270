use Rattle.std.proofs.Common.{arith, refl, ◌≡◌}
use Rattle.sha_tree.specs.Tree.{tree_pages, top}
use Rattle.sha_tree.proofs.Levels.{tree_pages-low, pages_one_more}
use Rattle.sha_tree.proofs.Geometry.tree_pages.Goals as goal

pub levels-preserved : goal.levels-preserved
levels-preserved c = record {
  total = rw (pages_one_more c.args.self.now c.levels.below, ← c.pages-count.ensures.value, ← c.levels.invariant.total) refl;
  few = omega arith;
}

pub returns-clause-value : goal.returns-clause-value
unfolding tree_pages
returns-clause-value c =
    let end : c.levels.below ≡ top c.args.self.now = omega arith in
    rw end at c.levels.invariant.total

pub returns-clause-few : goal.returns-clause-few
returns-clause-few c =
    let limit = c.top-top.ensures.blocks in
    rw (returns-clause-value c) (tree_pages-low c.args.self.now limit)

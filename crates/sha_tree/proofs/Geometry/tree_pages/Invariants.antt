use Rattle.std.proofs.Common.{◌≡◌, ◌≤◌, ◌*◌, sum_by}
use Rattle.std.specs.List.{range_with_len}
use Rattle.sha_tree.specs.Tree.{pages_at}
use Rattle.sha_tree.proofs.Geometry.tree_pages.Given as goal

abbrev pub invariant-levels : goal.invariant-levels
invariant-levels l = record {
  total : l.count ≡ sum_by (pages_at l.self) (range_with_len 1 l.below);
  few : l.count ≤ l.below * 1048576;
}

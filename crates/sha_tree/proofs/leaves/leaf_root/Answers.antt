use Rattle.std.proofs.Common.{ap, ◌∙◌, List, ℕ, length}
use Rattle.sha_tree.specs.Digests.{leaf, tree_root}
use Rattle.sha_tree.proofs.leaves.leaf_root.Goals as goal

pub returns : goal.returns
returns c = c.tree_root.ensures ∙ ap (λ (s : List ℕ). tree_root s (leaf c.args.leaves.now) (length c.args.leaves.now)) c.none.ensures

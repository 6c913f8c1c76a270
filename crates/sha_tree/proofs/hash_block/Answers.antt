use Rattle.sha_tree.specs.Tree.{page_hash}
use Rattle.sha_tree.proofs.hash_block.Goals as goal

pub returns : goal.returns
unfolding page_hash
returns c = c.finalize.ensures _ (c.update.ensures _ c.salted-hasher.ensures)

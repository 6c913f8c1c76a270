use Rattle.authfs_dirs.proofs.TreeLaws.{finds_children}
use Rattle.authfs_dirs.proofs.laws.children_are_found.Goals as goal

pub returns : goal.returns
returns c = finds_children

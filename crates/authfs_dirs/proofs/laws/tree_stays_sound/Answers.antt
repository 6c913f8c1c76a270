use Rattle.authfs_dirs.proofs.TreeLaws.{stays_sound}
use Rattle.authfs_dirs.proofs.laws.tree_stays_sound.Goals as goal

pub returns : goal.returns
returns c = stays_sound

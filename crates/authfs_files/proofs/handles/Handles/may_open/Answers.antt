use Rattle.authfs_files.proofs.OpenLemmas.{rising_view}
use Rattle.authfs_files.proofs.handles.Handles.may_open.Goals as goal

pub returns-then-len-ge-MOST_HANDLES-clause-rising : goal.returns-then-len-ge-MOST_HANDLES-clause-rising
returns-then-len-ge-MOST_HANDLES-clause-rising c = rw (← c.self.view_is) (rising_view c.self.inside.nodes.slots 1 c.self.inside.given c.self.inside.pairs.items c.self.invariant)

pub returns-clause-rising : goal.returns-clause-rising
returns-clause-rising c = rw (← c.self.view_is) (rising_view c.self.inside.nodes.slots 1 c.self.inside.given c.self.inside.pairs.items c.self.invariant)

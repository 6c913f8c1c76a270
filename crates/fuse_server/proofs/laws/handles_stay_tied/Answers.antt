use Rattle.fuse_server.proofs.Ties.{ties_stay, tied_at_first}
use Rattle.fuse_server.proofs.laws.handles_stay_tied.Goals as goal

pub returns-clause-first : goal.returns-clause-first
returns-clause-first c = tied_at_first

pub returns-clause-stay : goal.returns-clause-stay
returns-clause-stay c = ties_stay

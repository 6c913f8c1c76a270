use Rattle.fuse_server.proofs.Staying.{served_stay}
use Rattle.fuse_server.proofs.Unserved.{all_served}
use Rattle.fuse_server.proofs.laws.names_stay_served.Goals as goal

pub returns-clause-stay : goal.returns-clause-stay
returns-clause-stay c = served_stay

pub returns-clause-all : goal.returns-clause-all
returns-clause-all c = λ s m w. all_served s w m

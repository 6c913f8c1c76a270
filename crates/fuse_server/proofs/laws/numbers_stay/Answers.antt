use Rattle.fuse_server.proofs.Staying.{numbers_stay}
use Rattle.fuse_server.proofs.laws.numbers_stay.Goals as goal

pub returns : goal.returns
returns c = numbers_stay

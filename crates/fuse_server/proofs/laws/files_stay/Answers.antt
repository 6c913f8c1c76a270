use Rattle.fuse_server.proofs.Keeping.{files_stay}
use Rattle.fuse_server.proofs.laws.files_stay.Goals as goal

pub returns : goal.returns
returns c = files_stay

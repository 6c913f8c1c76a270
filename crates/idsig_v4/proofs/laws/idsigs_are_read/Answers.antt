use Rattle.idsig_v4.proofs.Spelled.{read_again}
use Rattle.idsig_v4.proofs.laws.idsigs_are_read.Goals as goal

pub returns : goal.returns
returns c = read_again

use Rattle.guest_laws.proofs.Writes.{written_is_read}
use Rattle.guest_laws.proofs.laws.written_is_read.Goals as goal

pub returns : goal.returns
returns c = written_is_read

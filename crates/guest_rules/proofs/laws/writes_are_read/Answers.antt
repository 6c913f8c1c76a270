use Rattle.guest_rules.proofs.Writing.{all_read}
use Rattle.guest_rules.proofs.laws.writes_are_read.Goals as goal

pub returns : goal.returns
returns c = all_read

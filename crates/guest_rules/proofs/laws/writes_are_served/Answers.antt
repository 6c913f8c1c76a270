use Rattle.guest_rules.proofs.Completing.{writes_served}
use Rattle.guest_rules.proofs.laws.writes_are_served.Goals as goal

pub returns : goal.returns
returns c = writes_served

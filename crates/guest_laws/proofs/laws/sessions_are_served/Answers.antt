use Rattle.guest_laws.proofs.Sat.{sessions_served}
use Rattle.guest_laws.proofs.laws.sessions_are_served.Goals as goal

pub returns : goal.returns
returns c = sessions_served

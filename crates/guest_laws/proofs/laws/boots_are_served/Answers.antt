use Rattle.guest_laws.proofs.Sat.{boots_served}
use Rattle.guest_laws.proofs.laws.boots_are_served.Goals as goal

pub returns : goal.returns
returns c = boots_served

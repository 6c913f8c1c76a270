use Rattle.guest_laws.proofs.Naming.{names_stay}
use Rattle.guest_laws.proofs.laws.names_stay.Goals as goal

pub returns : goal.returns
returns c = names_stay

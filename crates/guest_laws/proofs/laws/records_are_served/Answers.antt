use Rattle.guest_laws.proofs.Keeping.{records_served}
use Rattle.guest_laws.proofs.laws.records_are_served.Goals as goal

pub returns : goal.returns
returns c = records_served

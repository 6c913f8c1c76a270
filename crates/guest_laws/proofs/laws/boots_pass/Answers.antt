use Rattle.guest_laws.proofs.Boots.{boots_pass}
use Rattle.guest_laws.proofs.laws.boots_pass.Goals as goal

pub returns : goal.returns
returns c = boots_pass

use Rattle.guest_laws.proofs.Keyed.{secrets_there}
use Rattle.guest_laws.proofs.laws.instances_have_secrets.Goals as goal

pub returns : goal.returns
returns c = secrets_there

use Rattle.guest_laws.proofs.Causes.{causes_none}
use Rattle.guest_laws.proofs.laws.honest_hosts_cause_none.Goals as goal

pub returns : goal.returns
returns c = causes_none

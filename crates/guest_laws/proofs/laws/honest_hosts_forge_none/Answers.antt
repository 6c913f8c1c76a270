use Rattle.guest_laws.proofs.Seals.{none_forged, gets_none}
use Rattle.guest_laws.proofs.laws.honest_hosts_forge_none.Goals as goal

pub returns-clause-seals : goal.returns-clause-seals
returns-clause-seals c = none_forged

pub returns-clause-gets : goal.returns-clause-gets
returns-clause-gets c = gets_none

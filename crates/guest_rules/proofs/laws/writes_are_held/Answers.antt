use Rattle.guest_rules.proofs.Agreeing.{hosts_agree, runs_agree}
use Rattle.guest_rules.proofs.laws.writes_are_held.Goals as goal

pub returns-clause-request : goal.returns-clause-request
returns-clause-request c = hosts_agree

pub returns-clause-run : goal.returns-clause-run
returns-clause-run c = runs_agree

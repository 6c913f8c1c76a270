use Rattle.guest_boot.proofs.Plans.{plan_served, plan_numbered}
use Rattle.guest_boot.proofs.laws.plans_are_served.Goals as goal

pub returns-clause-served : goal.returns-clause-served
returns-clause-served c = plan_served

pub returns-clause-numbered : goal.returns-clause-numbered
returns-clause-numbered c = plan_numbered

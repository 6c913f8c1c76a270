use Rattle.std.proofs.Common.{subst}
use Rattle.guest_plan.specs.Plans.{Tells}
use Rattle.guest_plan.proofs.Whole.{found_is, plan_again}
use Rattle.guest_plan.proofs.reading.read_plan.Goals as goal

pub returns-clause-found : goal.returns-clause-found
returns-clause-found c = found_is c.args.bytes.now c.read.result c.read.ensures

pub returns-clause-only : goal.returns-clause-only
returns-clause-only c = λ k h. subst (Tells c.read.result) (plan_again c.args.bytes.now k h) c.read.ensures

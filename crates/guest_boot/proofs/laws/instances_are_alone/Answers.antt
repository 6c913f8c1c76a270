use Rattle.guest_boot.proofs.Plans.{alone, plan_salted}
use Rattle.guest_boot.proofs.Instances.{stands}
use Rattle.guest_boot.proofs.laws.instances_are_alone.Goals as goal

pub returns-clause-stands : goal.returns-clause-stands
returns-clause-stands c = stands

pub returns-clause-alone : goal.returns-clause-alone
returns-clause-alone c = alone

pub returns-clause-salted : goal.returns-clause-salted
returns-clause-salted c = plan_salted

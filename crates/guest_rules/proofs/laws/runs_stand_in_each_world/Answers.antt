use Rattle.guest_rules.proofs.Standing.{runs_stand}
use Rattle.guest_rules.proofs.laws.runs_stand_in_each_world.Goals as goal

pub returns : goal.returns
returns c = runs_stand

use Rattle.guest_plan.specs.Plans.{known}
use Rattle.guest_plan.proofs.Written.{written_is}
use Rattle.guest_plan.proofs.writing.write_plan.Goals as goal

pub returns-in-Err-clause-again : goal.returns-in-Err-clause-again
returns-in-Err-clause-again c = written_is (known c.args.plan.now) c.requires

pub returns-in-Ok-extend_from_slice-clause-again : goal.returns-in-Ok-extend_from_slice-clause-again
returns-in-Ok-extend_from_slice-clause-again c = written_is (known c.args.plan.now) c.requires

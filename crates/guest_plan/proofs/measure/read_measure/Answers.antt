use Rattle.guest_plan.proofs.Whole.{measure_is, measure_is_none}
use Rattle.guest_plan.proofs.measure.read_measure.Goals as goal

pub returns-in-Ok : goal.returns-in-Ok
returns-in-Ok c = measure_is c.args.text.now c.in-Ok.measure c.in-Ok.ensures.value

pub returns-in-Err : goal.returns-in-Err
returns-in-Err c = measure_is_none c.args.text.now c.in-Err.field-0 c.in-Err.ensures.value c.in-Err.ensures.kind

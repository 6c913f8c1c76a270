use Rattle.guest_plan.proofs.Uuids.{no_uuid}
use Rattle.guest_plan.proofs.items.uuid_of.Goals as goal

pub returns-in_default : goal.returns-in_default
returns-in_default c = no_uuid c.args.text.now (λ is. c.in_default.ensures.cases.0 is)

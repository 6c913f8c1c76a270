use Rattle.guest_plan.proofs.Written.{empty_written}
use Rattle.test_guest.proofs.texts.writes_a_plan.Goals as goal

pub write_plan-requires : goal.write_plan-requires
write_plan-requires g c = empty_written c.new.result.items c.new-2.result.items c.new.ensures.items c.new-2.ensures.items

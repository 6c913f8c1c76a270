use Rattle.std.proofs.Common.{◌≡◌, drop}
use Rattle.std.specs.List.{list_any}
use Rattle.guest_plan.specs.Plans.{clash}
use Rattle.guest_plan.proofs.adding.is_taken.Given as goal

abbrev pub invariant-loop-other : goal.invariant-loop-other
invariant-loop-other l = list_any (clash l.line) l.lines ≡ list_any (clash l.line) (drop l.other-index l.lines)

use Rattle.std.proofs.Common.{◌≡◌, drop}
use Rattle.std.specs.List.{list_any}
use Rattle.guest_plan.specs.Plans.{is_instance}
use Rattle.guest_plan.proofs.missing.has_instance.Given as goal

abbrev pub invariant-loop-line : goal.invariant-loop-line
invariant-loop-line l = list_any is_instance l.lines ≡ list_any is_instance (drop l.line-index l.lines)

use Rattle.std.proofs.Common.{◌≡◌, drop}
use Rattle.guest_plan.specs.Plans.{first_lacking}
use Rattle.guest_plan.proofs.missing.first_lacking.Given as goal

abbrev pub invariant-loop-i : goal.invariant-loop-i
invariant-loop-i l = first_lacking l.keyed l.there l.lines l.numbers ≡ first_lacking l.keyed l.there (drop l.i l.lines) (drop l.i l.numbers)

use Rattle.std.proofs.Common.{◌≡◌, drop}
use Rattle.std.specs.List.{list_any}
use Rattle.guest_plan.specs.Stores.{adds_kept}
use Rattle.guest_plan.proofs.store_reading.is_added.Given as goal

abbrev pub invariant-loop-line : goal.invariant-loop-line
invariant-loop-line l = list_any (adds_kept l.keep) l.lines ≡ list_any (adds_kept l.keep) (drop l.line-index l.lines)

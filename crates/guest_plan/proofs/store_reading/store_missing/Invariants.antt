use Rattle.std.proofs.Common.{◌≡◌, ◌+◌, drop}
use Rattle.guest_plan.specs.Stores.{first_lacking_in}
use Rattle.guest_plan.proofs.store_reading.store_missing.Given as goal

abbrev pub invariant-loop-line : goal.invariant-loop-line
invariant-loop-line l = record {
  count : l.number ≡ l.line-index + 2;
  same : first_lacking_in l.lines l.lines 2 ≡ first_lacking_in l.lines (drop l.line-index l.lines) l.number;
}

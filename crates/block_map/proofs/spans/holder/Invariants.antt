use Rattle.std.proofs.Common.{◌<◌, ◌≤◌, ◌-◌, length}
use Rattle.composite_spec.specs.Said.{composite}
use Rattle.block_map.specs.Disk.{begin_of}
use Rattle.block_map.proofs.spans.holder.Given as goal

abbrev pub invariant-loop-high : goal.invariant-loop-high
invariant-loop-high l = record {
  within : l.high ≤ length (composite l.spec).components;
  order : l.low < l.high;
  begins : begin_of (composite l.spec) l.low ≤ l.at;
  later : l.high < length (composite l.spec).components → l.at < begin_of (composite l.spec) l.high;
}

abbrev pub decreases-loop-high : goal.decreases-loop-high
decreases-loop-high l = l.high - l.low

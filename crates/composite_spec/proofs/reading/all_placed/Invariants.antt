use Rattle.std.proofs.Common.{◌≡◌, ◌≤◌, ◌-◌, length, map, drop, None}
use Rattle.composite_spec.specs.Said.{placed}
use Rattle.composite_spec.specs.Reading.{part_by, all_placed}
use Rattle.composite_spec.proofs.Rules.{joined}
use Rattle.composite_spec.proofs.reading.all_placed.Given as goal

abbrev pub invariant-loop-index : goal.invariant-loop-index
invariant-loop-index l = record {
  inside : l.index ≤ length l.parts;
  same : joined (map placed l.components.items) (all_placed l.index l.before (drop l.index (map part_by l.parts))) ≡ all_placed 0 None (map part_by l.parts);
}

abbrev pub decreases-loop-index : goal.decreases-loop-index
decreases-loop-index l = length l.parts - l.index

use Rattle.std.proofs.Common.{◌<◌, ◌≤◌, ◌-◌, length}
use Rattle.composite_spec.specs.Said.{composite}
use Rattle.block_map.specs.Disk.{contents, end_of, MayWriteBelow}
use Rattle.block_map.proofs.moves.judge.Given as goal

abbrev pub invariant-loop-index : goal.invariant-loop-index
invariant-loop-index l = record {
  within : l.index ≤ length (composite l.spec).components;
  ahead : l.index < length (composite l.spec).components → l.at < end_of (composite l.spec) l.index;
  passed : MayWriteBelow (composite l.spec) (contents l.files) l.at l.end l.index;
}

abbrev pub decreases-loop-index : goal.decreases-loop-index
decreases-loop-index l = length (composite l.spec).components - l.index

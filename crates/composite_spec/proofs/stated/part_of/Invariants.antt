use Rattle.std.proofs.Common.{◌≤◌, length}
use Rattle.composite_spec.specs.Reading.{part_by, part_step, part_of}
use Rattle.composite_spec.proofs.Walks.{Walks}
use Rattle.composite_spec.proofs.stated.part_of.Given as goal

abbrev pub invariant-loop-rest : goal.invariant-loop-rest
invariant-loop-rest l = record {
  inside : length l.rest ≤ l.end;
  walks : Walks (part_step l.end) (part_by l.part) l.rest (part_of l.end l.bytes);
}

abbrev pub decreases-loop-rest : goal.decreases-loop-rest
decreases-loop-rest l = length l.rest

use Rattle.std.proofs.Common.{◌≤◌, length}
use Rattle.composite_spec.specs.Reading.{disk_by, disk_step, disk_of}
use Rattle.composite_spec.proofs.Walks.{Walks}
use Rattle.composite_spec.proofs.stated.disk_of.Given as goal

abbrev pub invariant-loop-rest : goal.invariant-loop-rest
invariant-loop-rest l = record {
  inside : length l.rest ≤ l.end;
  walks : Walks (disk_step l.end) (disk_by l.disk) l.rest (disk_of l.end l.bytes);
}

abbrev pub decreases-loop-rest : goal.decreases-loop-rest
decreases-loop-rest l = length l.rest

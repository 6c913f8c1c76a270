use Rattle.std.proofs.Common.{◌<◌, ◌≤◌, ◌+◌, ◌-◌, length, take}
use Rattle.composite_spec.specs.Said.{composite}
use Rattle.block_map.specs.Disk.{contents, AreWritten}
use Rattle.block_map.proofs.Offsets.{Holds}
use Rattle.block_map.proofs.moves.overwrite.Given as goal

abbrev pub invariant-loop-done : goal.invariant-loop-done
invariant-loop-done l = record {
  within : l.done ≤ length l.bytes;
  here : l.done < length l.bytes → Holds (composite l.spec) (l.at + l.done) l.index;
  wrote : AreWritten (composite l.spec) l.at (take l.done l.bytes) (contents l.initial.files) (contents l.files);
}

abbrev pub decreases-loop-done : goal.decreases-loop-done
decreases-loop-done l = length l.bytes - l.done

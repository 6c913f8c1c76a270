use Rattle.std.proofs.Common.{◌≡◌, ◌<◌, ◌≤◌, ◌+◌, ◌-◌, ℕ, length, slice_index}
use Rattle.composite_spec.specs.Said.{composite}
use Rattle.block_map.specs.Disk.{contents, byte_at}
use Rattle.block_map.proofs.Offsets.{Holds}
use Rattle.block_map.proofs.moves.copy.Given as goal

abbrev pub invariant-loop-done : goal.invariant-loop-done
invariant-loop-done l = record {
  within : l.done ≤ length l.out;
  here : l.done < length l.out → Holds (composite l.spec) (l.at + l.done) l.index;
  so_far : (k : ℕ) → k < l.done → slice_index l.out k ≡ byte_at (l.at + k) 0 (composite l.spec).components (contents l.files);
}

abbrev pub decreases-loop-done : goal.decreases-loop-done
decreases-loop-done l = length l.out - l.done

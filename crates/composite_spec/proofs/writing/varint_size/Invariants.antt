use Rattle.std.proofs.Common.{◌≡◌, ◌≤◌, ◌+◌, ℕ, length}
use Rattle.composite_spec.specs.Writing.{digits_within, varint_bytes}
use Rattle.composite_spec.proofs.writing.varint_size.Given as goal

abbrev pub invariant-loop-left : goal.invariant-loop-left
invariant-loop-left l = record {
  most : ℕ;
  room : l.left ≤ most;
  so_far : l.size + length (digits_within most l.left) ≡ length (varint_bytes l.fn.n) + 1;
}

abbrev pub decreases-loop-left : goal.decreases-loop-left
decreases-loop-left l = l.left

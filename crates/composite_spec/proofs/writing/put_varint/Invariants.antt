use Rattle.std.proofs.Common.{◌≡◌, ◌≤◌, ◌++◌, ℕ, length, take}
use Rattle.composite_spec.specs.Writing.{digits_within, varint_bytes}
use Rattle.composite_spec.proofs.writing.put_varint.Given as goal

abbrev pub invariant-loop-left : goal.invariant-loop-left
invariant-loop-left l = record {
  most : ℕ;
  room : l.left ≤ most;
  so_far : l.out.items ++ digits_within most l.left ≡ l.fn.out.items ++ varint_bytes l.fn.n;
  kept : take (length l.fn.out.items) l.out.items ≡ l.fn.out.items;
}

abbrev pub decreases-loop-left : goal.decreases-loop-left
decreases-loop-left l = l.left

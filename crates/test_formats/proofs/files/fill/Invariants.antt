use Rattle.std.proofs.Common.{◌≡◌, ◌≤◌, length}
use Rattle.test_formats.proofs.files.fill.Given as goal

abbrev pub invariant-loop : goal.invariant-loop
invariant-loop l = (l.at ≤ length l.buffer) × (length l.buffer ≡ length l.initial.buffer)

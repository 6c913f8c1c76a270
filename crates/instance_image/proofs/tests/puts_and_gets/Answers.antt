use Rattle.std.proofs.Common.{arith}
use Rattle.instance_image.specs.Grammar.{taken, empty_slots}
use Rattle.instance_image.proofs.tests.puts_and_gets.Goals as goal

pub writer-requires-clause-size : goal.writer-requires-clause-size
unfolding taken
writer-requires-clause-size g c = omega arith

pub writer-requires-clause-apart : goal.writer-requires-clause-apart
unfolding empty_slots
writer-requires-clause-apart g c = (tt, tt)

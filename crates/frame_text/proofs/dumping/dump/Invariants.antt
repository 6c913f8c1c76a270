use Rattle.std.proofs.Common.{◌+◌, ◌*◌, length}
use Rattle.frame_text.proofs.Streams.{Dumped}
use Rattle.frame_text.proofs.dumping.dump.Given as goal

abbrev pub invariant-loop-channel : goal.invariant-loop-channel
invariant-loop-channel l = Dumped l.bytes l.rest l.out.items l.splitter

abbrev pub decreases-loop-channel : goal.decreases-loop-channel
decreases-loop-channel l = 2 * length l.rest + length l.splitter.held

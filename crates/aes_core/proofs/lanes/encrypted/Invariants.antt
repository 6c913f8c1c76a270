use Rattle.std.proofs.Common.{◌≡◌}
use Rattle.aes_core.specs.Aes.{rounds}
use Rattle.aes_core.specs.Inner.{outer}
use Rattle.aes_core.proofs.lanes.encrypted.Given as goal

abbrev pub invariant-loop-r : goal.invariant-loop-r
invariant-loop-r l = outer l.state ≡ rounds (outer l.keys) l.fn.block l.r

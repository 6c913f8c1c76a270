use Rattle.std.proofs.Common.{◌≡◌}
use Rattle.aes_core.specs.Aes.{rounds}
use Rattle.aes_core.specs.Inner.{outer}
use Rattle.aes_core.proofs.lanes.encrypted_two.Given as goal

abbrev pub invariant-loop-r : goal.invariant-loop-r
invariant-loop-r l = (outer l.x ≡ rounds (outer l.keys) l.fn.first l.r) × (outer l.y ≡ rounds (outer l.keys) l.fn.second l.r)

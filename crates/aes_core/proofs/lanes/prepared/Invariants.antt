use Rattle.std.proofs.Common.{◌≡◌, ◌*◌, length, take}
use Rattle.aes_core.specs.Inner.{outer}
use Rattle.aes_core.proofs.lanes.prepared.Given as goal

abbrev pub invariant-loop-r : goal.invariant-loop-r
invariant-loop-r l = (length l.all ≡ 240) × (outer (take (16 * l.r) l.all) ≡ take (16 * l.r) l.keys)

use Rattle.std.proofs.Common.{◌≡◌, drop}
use Rattle.host_bent.specs.Bent.{bend_at}
use Rattle.host_bent.proofs.bends.find.Given as goal

abbrev pub invariant-loop-at : goal.invariant-loop-at
invariant-loop-at l = bend_at (drop l.at l.bends) l.number ≡ bend_at l.bends l.number

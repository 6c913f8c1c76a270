use Rattle.std.proofs.Common.{◌≡◌, drop}
use Rattle.guest_boot.specs.Booting.{instance_from, instance_in}
use Rattle.guest_boot.proofs.instance.instance_in.Given as goal

abbrev pub invariant-loop-at : goal.invariant-loop-at
invariant-loop-at l = instance_from l.at (drop l.at l.lines) ≡ instance_in l.lines

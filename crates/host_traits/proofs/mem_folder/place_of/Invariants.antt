use Rattle.std.proofs.Common.{◌≤◌}
use Rattle.host_traits.specs.Mem.{place_in}
use Rattle.host_traits.proofs.mem_folder.place_of.Given as goal

abbrev pub invariant-loop-at : goal.invariant-loop-at
invariant-loop-at l = l.at ≤ place_in l.files l.name

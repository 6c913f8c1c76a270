use Rattle.std.proofs.Common.{◌≤◌, ◌-◌}
use Rattle.sha_tree.proofs.Levels.{Climbed}
use Rattle.sha_tree.proofs.top_level.Given as goal

abbrev pub invariant-levels : goal.invariant-levels
invariant-levels l = record {
  low : l.level ≤ 10;
  climbed : Climbed l.level (10 - l.level) l.count l.blocks;
}

abbrev pub decreases-levels : goal.decreases-levels
decreases-levels l = l.count

use Rattle.std.proofs.Common.{◌-◌}
use Rattle.host_traits.specs.Did.{Did}
use Rattle.sha_tree.specs.Tree.{top}
use Rattle.verity_path.specs.Calls.{IsOnPath}
use Rattle.verity_path.specs.Holding.{WhereHeld, IsAnchored}
use Rattle.verity_path.proofs.Walking.{IsAt, Stands}
use Rattle.verity_path.proofs.walk.walk_page.Given as goal

abbrev pub invariant-levels : goal.invariant-levels
invariant-levels g l = record {
  at : IsAt l.measure l.index l.level l.anchor;
  did : Did (IsOnPath l.layout l.measure l.index) (top l.measure.blocks - l.level) (g.H.Host.told l.initial.host) (g.H.Host.told l.host) (Stands l.layout l.measure l.index l.level l.anchor);
  held : WhereHeld l.layout l.measure (g.H.Host.told l.initial.host) (g.H.Host.told l.host) (λ content. IsAnchored l.measure content l.anchor);
}

abbrev pub decreases-levels : goal.decreases-levels
decreases-levels g l = l.level

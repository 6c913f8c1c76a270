use Rattle.std.proofs.Common.{take}
use Rattle.guest_plan.specs.Plans.{known}
use Rattle.guest_boot.specs.Recording.{DidWriting}
use Rattle.guest_boot.specs.Booting.{IsForLines, means_of, AreItems}
use Rattle.guest_boot.proofs.Runs.{most_so_far, SoFar}
use Rattle.guest_boot.proofs.lines.open_lines.Given as goal

abbrev pub invariant-loop-index : goal.invariant-loop-index
invariant-loop-index g l = record {
  booted : DidWriting (IsForLines l.plan.lines.items) (most_so_far l.plan.lines.items (take l.index l.plan.lines.items)) (g.H.Host.told l.fn.host) (g.H.Host.told l.host)
      (SoFar (means_of (known l.plan) l.fn.entropy) l.plan.lines.items (take l.index l.plan.lines.items) l.boot);
  items : AreItems l.boot.items.items;
}

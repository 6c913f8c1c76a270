use Rattle.std.proofs.Common.{◌≡◌, ◌≤◌, ◌+◌, ◌-◌, ◌^◌}
use Rattle.guest_images.specs.Feeding.{IsFedTo}
use Rattle.guest_images.proofs.feeding.feed_file.Given as goal

abbrev pub invariant-chunks : goal.invariant-chunks
invariant-chunks g l = record {
  fed : IsFedTo (g.F.Folder.files l.fn.folder) l.name l.at l.builder;
  salt : l.builder.salt ≡ l.fn.builder.salt;
  files : g.F.Folder.files l.folder ≡ g.F.Folder.files l.fn.folder;
  faults : g.F.Folder.faults l.fn.folder ≤ g.F.Folder.faults l.folder;
}

abbrev pub decreases-chunks : goal.decreases-chunks
decreases-chunks g l = 2 ^ 30 + 1 - l.at

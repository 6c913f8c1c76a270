use Rattle.std.proofs.Common.{◌≡◌, ◌≤◌, ◌-◌, length, take}
use Rattle.host_mem.specs.Mem.{mem_held}
use Rattle.guest_files.specs.Keeping.{AreStored, kept_of}
use Rattle.guest_files.proofs.keeping.keep.Given as goal

abbrev pub invariant-loop-index : goal.invariant-loop-index
invariant-loop-index g l = record {
  inside : l.index ≤ length l.lines;
  stored : AreStored (g.F.Folder.files l.fn.folder) (kept_of (mem_held l.host) (take l.index l.lines)) (g.F.Folder.files l.folder);
  faults : g.F.Folder.faults l.fn.folder ≤ g.F.Folder.faults l.folder;
}

abbrev pub decreases-loop-index : goal.decreases-loop-index
decreases-loop-index g l = length l.lines - l.index

use Rattle.std.proofs.Common.{◌≡◌, ◌≤◌, ◌-◌, ◌^◌, length, take}
use Rattle.host_mem.specs.Mem.{mem_held, unused}
use Rattle.guest_files.specs.Stocking.{Stocked, unstocked}
use Rattle.guest_files.proofs.stocking.stock.Given as goal

abbrev pub invariant-loop-index : goal.invariant-loop-index
invariant-loop-index g l = record {
  inside : l.index ≤ length l.lines;
  stocked : Stocked (g.F.Folder.files l.fn.folder) (take l.index l.lines) (unstocked l.fn.loaded) (record { held = mem_held l.host; loaded = l.loaded });
  limit : l.loaded ≤ 2 ^ 31;
  files : g.F.Folder.files l.folder ≡ g.F.Folder.files l.fn.folder;
  faults : g.F.Folder.faults l.fn.folder ≤ g.F.Folder.faults l.folder;
  count : l.host.count ≡ unused;
}

abbrev pub decreases-loop-index : goal.decreases-loop-index
decreases-loop-index g l = length l.lines - l.index

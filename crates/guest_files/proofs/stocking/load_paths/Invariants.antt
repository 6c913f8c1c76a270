use Rattle.std.proofs.Common.{◌≡◌, ◌≤◌, ◌-◌, ◌^◌, length, map, take}
use Rattle.composite_spec.specs.Said.{placed}
use Rattle.block_map.specs.Disk.{contents}
use Rattle.guest_files.specs.Files.{AreLoaded}
use Rattle.guest_files.specs.Stocking.{paths_of}
use Rattle.guest_files.proofs.stocking.load_paths.Given as goal

abbrev pub invariant-loop-index : goal.invariant-loop-index
invariant-loop-index g l = record {
  inside : l.index ≤ length l.components.items;
  same : map placed l.components.items ≡ l.map.components;
  loaded : AreLoaded (g.F.Folder.files l.fn.folder) (take l.index (paths_of l.map)) l.fn.loaded l.loaded (contents l.files.items);
  limit : l.loaded ≤ 2 ^ 31;
  files : g.F.Folder.files l.folder ≡ g.F.Folder.files l.fn.folder;
  faults : g.F.Folder.faults l.fn.folder ≤ g.F.Folder.faults l.folder;
}

abbrev pub decreases-loop-index : goal.decreases-loop-index
decreases-loop-index g l = length l.components.items - l.index

use Rattle.std.proofs.Common.{◌≡◌, ◌≤◌, ◌-◌, ◌^◌, length, take}
use Rattle.guest_images.specs.Composed.{PiecesLoaded}
use Rattle.guest_images.proofs.pieces.load_pieces.Given as goal

abbrev pub invariant-loop-index : goal.invariant-loop-index
invariant-loop-index g l = record {
  inside : l.index ≤ length l.lines;
  loaded : PiecesLoaded (g.F.Folder.files l.fn.folder) (take l.index l.lines) l.fn.loaded l.loaded l.pieces.items;
  limit : l.loaded ≤ 2 ^ 31;
  files : g.F.Folder.files l.folder ≡ g.F.Folder.files l.fn.folder;
  faults : g.F.Folder.faults l.fn.folder ≤ g.F.Folder.faults l.folder;
}

abbrev pub decreases-loop-index : goal.decreases-loop-index
decreases-loop-index g l = length l.lines - l.index

use Rattle.std.proofs.Common.{◌≡◌, map, take}
use Rattle.guest_images.specs.Composing.{part_of}
use Rattle.guest_images.proofs.composing.parts_of.Given as goal

abbrev pub invariant-loop-piece : goal.invariant-loop-piece
invariant-loop-piece l = l.parts.items ≡ map (part_of l.disk) (take l.piece-index l.pieces)

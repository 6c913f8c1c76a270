use Rattle.std.proofs.Common.{◌≡◌, drop}
use Rattle.std.specs.List.{list_any}
use Rattle.guest_images.specs.Composing.{is_empty}
use Rattle.guest_images.proofs.pieces.any_empty.Given as goal

abbrev pub invariant-loop-piece : goal.invariant-loop-piece
invariant-loop-piece l = list_any is_empty l.pieces ≡ list_any is_empty (drop l.piece-index l.pieces)

use Rattle.std.proofs.Common.{◌≡◌, drop}
use Rattle.std.specs.List.{list_any}
use Rattle.guest_images.specs.Composing.{is_uneven}
use Rattle.guest_images.proofs.pieces.any_uneven.Given as goal

abbrev pub invariant-loop-piece : goal.invariant-loop-piece
invariant-loop-piece l = list_any is_uneven l.pieces ≡ list_any is_uneven (drop l.piece-index l.pieces)

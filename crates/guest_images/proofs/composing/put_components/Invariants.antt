use Rattle.std.proofs.Common.{◌≡◌, ◌≤◌, ◌+◌, ◌*◌, ◌^◌, ◌++◌, drop, map}
use Rattle.composite_spec.specs.Said.{placed}
use Rattle.guest_images.specs.Composing.{placed_from}
use Rattle.guest_images.proofs.composing.put_components.Given as goal

abbrev pub invariant-loop-piece : goal.invariant-loop-piece
invariant-loop-piece l = record {
  text : map placed l.components.items ++ placed_from l.first (drop l.piece-index l.pieces) ≡ map placed l.fn.components.items ++ placed_from 40 l.pieces;
  few : l.first ≤ 40 + 2 ^ 22 * l.piece-index;
}

use Rattle.std.proofs.Common.{arith}
use Rattle.guest_images.proofs.Placing.{placed_more, placed_done}
use Rattle.guest_images.proofs.composing.put_components.Goals as goal

pub loop-piece-preserved : goal.loop-piece-preserved
loop-piece-preserved c = record {
  text = placed_more c.loop-piece.components.items c.push.new.self.items c.in_ok-component_of.field-0 _ c.loop-piece.first c.loop-piece.piece-index c.sectors_of.result c.args.pieces.now c.piece-item.result
      (omega arith) c.piece-item.is c.in_ok-push.ensures.items c.in_ok-component_of.ensures c.sectors_of.ensures.value c.loop-piece.invariant.text;
  few = omega (arith, c.loop-piece.invariant.few, c.sectors_of.ensures.few);
}

pub returns : goal.returns
returns c = placed_done c.loop-piece.components.items _ c.loop-piece.first c.loop-piece.piece-index c.args.pieces.now (omega arith) c.loop-piece.invariant.text

use Rattle.guest_images.proofs.Pieced.{pieces_each}
use Rattle.guest_images.proofs.pieces.load_parts.Goals as goal

pub returns-clause-each : goal.returns-clause-each
returns-clause-each g c =
    pieces_each _ c.in-Ok-listed.lines.items _ _ c.load_pieces.result c.in-Ok-listed.ensures.each (rw c.deref-2.ensures.value at c.load_pieces.ensures.ok)

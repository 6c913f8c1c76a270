use Rattle.std.proofs.Common.{◌∙◌, Option, take, subst, arith}
use Rattle.host_traits.specs.Folders.{Files}
use Rattle.guest_files.proofs.Cuts.{take_here}
use Rattle.guest_images.specs.Composed.{PieceLoaded}
use Rattle.guest_images.proofs.Pieced.{pieces_then, pieces_fail}
use Rattle.guest_images.proofs.pieces.load_pieces.Goals as goal

pub returns-in-Err-clause-err : goal.returns-in-Err-clause-err
returns-in-Err-clause-err g c =
    pieces_fail _ _ c.args.lines.now c.loop-index.index c.index-lines-index.result _ c.loop-index.loaded c.loop-index.pieces.items c.in-Err.status
    c.loop-index.invariant.files (omega (arith, c.loop-index-test.true)) c.index-lines-index.is c.loop-index.invariant.loaded c.in-Err.ensures.err

pub loop-index-preserved : goal.loop-index-preserved
loop-index-preserved g c =
    let files : Option Files = g.F.Folder.files c.args.folder.now in
    let line = c.index-lines-index.result in
    let one : PieceLoaded files line c.loop-index.loaded c.load_piece.new.loaded c.in-Ok.piece =
    subst (λ (z : Option Files). PieceLoaded z line c.loop-index.loaded c.load_piece.new.loaded c.in-Ok.piece) c.loop-index.invariant.files c.in-Ok.ensures.ok in
    let more = pieces_then files (take c.loop-index.index c.args.lines.now) line _ _ _ c.loop-index.pieces.items c.in-Ok.piece c.loop-index.invariant.loaded one in
    record {
      inside = omega (arith, c.loop-index-test.true);
      loaded = rw (take_here c.args.lines.now c.loop-index.index line (omega (arith, c.loop-index-test.true)) c.index-lines-index.is, c.in-Ok-push.ensures.items) more;
      limit = c.in-Ok.ensures.limit;
      files = c.in-Ok.ensures.files ∙ c.loop-index.invariant.files;
      faults = omega (arith, c.loop-index.invariant.faults, c.in-Ok.ensures.cause);
    }

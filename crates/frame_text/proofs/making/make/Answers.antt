use Rattle.std.proofs.Common.{arith}
use Rattle.frame_text.specs.Reading.{framed_by}
use Rattle.frame_text.proofs.Texts.{made_more}
use Rattle.frame_text.proofs.Lines.{line_takes}
use Rattle.frame_text.proofs.making.make.Goals as goal

pub put_request-requires : goal.put_request-requires
put_request-requires c = (line_takes c.in-Some.line.now (framed_by c.in-Ok.request) c.in-Ok.ensures).is

pub loop-line-preserved : goal.loop-line-preserved
loop-line-preserved c =
    record {
      made = rw c.in-Ok-put_request.ensures (made_more c.args.text.now c.loop-line.rest.now c.loop-line.out.items c.in-Some.line.now c.in-Some.after.now (framed_by c.in-Ok.request) c.loop-line.number c.loop-line.invariant.made
          c.in-Some.ensures.found c.in-Ok.ensures);
      fits = omega (arith, c.in-Some.ensures.shorter, c.loop-line.invariant.fits);
    }

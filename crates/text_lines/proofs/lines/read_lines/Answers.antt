use Rattle.std.proofs.Common.{sym, ◌∙◌, arith, subst}
use Rattle.text_lines.specs.Lines.{text_of, Refuses}
use Rattle.text_lines.proofs.Walks.{goes_on, fails_at, ends, ends_badly}
use Rattle.text_lines.proofs.lines.read_lines.Goals as goal

pub returns-in-Err : goal.returns-in-Err
returns-in-Err g c =
    let total = text_of c.args.header.now g.R.LineReader.step c.args.reader.now c.args.bytes.now in
    let told = fails_at c.args.header.now g.R.LineReader.step c.loop-line.number c.loop-line.reader c.loop-line.rest.now c.in-Some.line.now c.in-Some.after.now total c.in-Err.fault c.in-Some.ensures.found c.in-Err.ensures.value c.loop-line.invariant.same in
    subst (λ f. Refuses f total) (sym c.at_line.ensures) told

pub loop-line-preserved : goal.loop-line-preserved
loop-line-preserved g c =
    let total = text_of c.args.header.now g.R.LineReader.step c.args.reader.now c.args.bytes.now in
    record {
      low = omega arith;
      high = omega (arith, c.in-Ok.ensures.few);
      same = goes_on c.args.header.now g.R.LineReader.step c.loop-line.number c.loop-line.reader c.take_numbered.new.reader c.loop-line.rest.now c.in-Some.line.now c.in-Some.after.now total c.in-Some.ensures.found c.in-Ok.ensures.value c.loop-line.invariant.same;
    }

pub returns-then-is_end : goal.returns-then-is_end
returns-then-is_end g c =
    let total = text_of c.args.header.now g.R.LineReader.step c.args.reader.now c.args.bytes.now in
    ends c.args.header.now g.R.LineReader.step c.loop-line.number c.loop-line.reader c.loop-line.rest.now total c.in_default.ensures.found (sym c.is_end.ensures ∙ c.if-is_end.true) c.loop-line.invariant.same

pub returns : goal.returns
returns g c =
    let total = text_of c.args.header.now g.R.LineReader.step c.args.reader.now c.args.bytes.now in
    ends_badly c.args.header.now g.R.LineReader.step c.loop-line.number c.loop-line.reader c.loop-line.rest.now total c.in_default.ensures.found (sym c.is_end.ensures ∙ c.if-is_end.false) c.loop-line.invariant.same

use Rattle.std.proofs.Common.{◌≡◌, ◌≤◌, length}
use Rattle.text_lines.specs.Lines.{walk, lines_of, text_of}
use Rattle.text_lines.proofs.lines.read_lines.Given as goal

abbrev pub invariant-loop-line : goal.invariant-loop-line
invariant-loop-line g l =
    record {
      low : 1 ≤ l.number;
      high : l.number ≤ 4097;
      same : walk l.header g.R.LineReader.step l.number l.reader (lines_of l.rest).0 (lines_of l.rest).1 ≡ text_of l.header g.R.LineReader.step l.fn.reader l.bytes;
    }

abbrev pub decreases-loop-line : goal.decreases-loop-line
decreases-loop-line g l = length l.rest

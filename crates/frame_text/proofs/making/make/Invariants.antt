use Rattle.std.proofs.Common.{◌≤◌, ◌+◌, length}
use Rattle.frame_text.proofs.Texts.{Made}
use Rattle.frame_text.proofs.making.make.Given as goal

abbrev pub invariant-loop-line : goal.invariant-loop-line
invariant-loop-line l =
    record {
      made : Made l.text l.rest l.out.items l.number;
      fits : l.number + length l.rest ≤ length l.text + 1;
    }

abbrev pub decreases-loop-line : goal.decreases-loop-line
decreases-loop-line l = length l.rest

use Rattle.std.proofs.Common.{◌≡◌, take, drop}
use Rattle.text_lines.specs.Fields.{cut}
use Rattle.text_lines.proofs.Cuts.{behind}
use Rattle.frame_text.proofs.reading.first_line.Given as goal

abbrev pub invariant-loop-i : goal.invariant-loop-i
invariant-loop-i l = cut 10 l.bytes ≡ behind (take l.i l.bytes) (cut 10 (drop l.i l.bytes))

use Rattle.std.proofs.Common.{◌≡◌, take, drop}
use Rattle.text_lines.specs.Fields.{cut}
use Rattle.text_lines.proofs.Cuts.{behind}
use Rattle.text_lines.proofs.fields.cut.Given as goal

abbrev pub invariant-loop-i : goal.invariant-loop-i
invariant-loop-i l = cut l.at l.bytes ≡ behind (take l.i l.bytes) (cut l.at (drop l.i l.bytes))

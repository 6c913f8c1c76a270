use Rattle.std.proofs.Common.{◌≡◌, drop}
use Rattle.std.specs.List.{list_all}
use Rattle.text_lines.specs.Values.{is_printed}
use Rattle.text_lines.proofs.values.all_printed.Given as goal

abbrev pub invariant-loop-b : goal.invariant-loop-b
invariant-loop-b l = list_all is_printed l.text ≡ list_all is_printed (drop l.b-index l.text)

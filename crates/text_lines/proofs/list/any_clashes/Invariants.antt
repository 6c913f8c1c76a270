use Rattle.std.proofs.Common.{◌≡◌, drop}
use Rattle.std.specs.List.{list_any}
use Rattle.text_lines.proofs.list.any_clashes.Given as goal

abbrev pub invariant-loop-other : goal.invariant-loop-other
invariant-loop-other g l = list_any (g.I.ListLine.clash l.item) l.items ≡ list_any (g.I.ListLine.clash l.item) (drop l.other-index l.items)

use Rattle.std.proofs.Common.{◌≡◌, ◌++◌, take}
use Rattle.std.specs.List.{flat_map}
use Rattle.text_lines.specs.Spelling.{ended}
use Rattle.guest_plan.specs.Spelling.{line_text}
use Rattle.guest_plan.proofs.writing.put_lines.Given as goal

abbrev pub invariant-loop-line : goal.invariant-loop-line
invariant-loop-line l = l.out.items ≡ l.fn.out.items ++ flat_map (λ x. ended (line_text x)) (take l.line-index l.lines)

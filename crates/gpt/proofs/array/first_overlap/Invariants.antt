use Rattle.std.proofs.Common.{◌≡◌, [], take, drop}
use Rattle.gpt.specs.Entries.{first_overlap}
use Rattle.gpt.proofs.array.first_overlap.Given as goal

abbrev pub invariant-loop-b : goal.invariant-loop-b
invariant-loop-b l = first_overlap (take l.b l.entries) (drop l.b l.entries) ≡ first_overlap [] l.entries

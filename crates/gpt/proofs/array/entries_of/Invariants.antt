use Rattle.std.proofs.Common.{◌≡◌, ◌*◌, ◌-◌, ◌++◌, drop}
use Rattle.gpt.specs.Entries.{entries_of}
use Rattle.gpt.proofs.array.entries_of.Given as goal

abbrev pub invariant-loop-index : goal.invariant-loop-index
invariant-loop-index l = l.entries.items ++ entries_of (l.count - l.index) (drop (128 * l.index) l.array) ≡ entries_of l.count l.array

use Rattle.std.proofs.Common.{◌≡◌, drop}
use Rattle.gpt.specs.Entries.{first_outside}
use Rattle.gpt.proofs.array.first_outside.Given as goal

abbrev pub invariant-loop-entry : goal.invariant-loop-entry
invariant-loop-entry l =
    record {
      place : l.place ≡ l.entry-index;
      same : first_outside l.low l.high l.place (drop l.entry-index l.entries) ≡ first_outside l.low l.high 0 l.entries;
    }

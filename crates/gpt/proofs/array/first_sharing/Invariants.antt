use Rattle.std.proofs.Common.{◌≡◌, drop}
use Rattle.gpt.specs.Entries.{first_sharing}
use Rattle.gpt.proofs.array.first_sharing.Given as goal

abbrev pub invariant-loop-other : goal.invariant-loop-other
invariant-loop-other l =
    record {
      place : l.place ≡ l.other-index;
      same : first_sharing l.place l.entry (drop l.other-index l.entries) ≡ first_sharing 0 l.entry l.entries;
    }

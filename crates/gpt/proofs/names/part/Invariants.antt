use Rattle.std.proofs.Common.{◌≡◌, drop}
use Rattle.gpt.specs.Names.{part}
use Rattle.gpt.proofs.names.part.Given as goal

abbrev pub invariant-loop-entry : goal.invariant-loop-entry
invariant-loop-entry l = part l.text (drop l.entry-index l.entries) ≡ part l.text l.entries

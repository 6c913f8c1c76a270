use Rattle.std.proofs.Common.{◌≡◌, drop}
use Rattle.gpt.specs.Names.{after_units}
use Rattle.gpt.proofs.names.after_units.Given as goal

abbrev pub invariant-loop-unit : goal.invariant-loop-unit
invariant-loop-unit l = after_units (drop l.unit-index l.units) l.rest ≡ after_units l.units l.field

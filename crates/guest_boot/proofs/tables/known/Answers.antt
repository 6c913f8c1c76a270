use Rattle.std.proofs.Common.{sym, ◌∙◌}
use Rattle.guest_boot.proofs.Finds.{known_at}
use Rattle.guest_boot.proofs.tables.known.Goals as goal

pub returns-then-is_on-clause-known : goal.returns-then-is_on-clause-known
returns-then-is_on-clause-known c =
    known_at c.args.disk c.args.tables.now c.loop-place.place c.index-tables-place.result c.loop-place-test.true c.index-tables-place.is (sym c.is_on.ensures ∙ c.if-is_on.true) c.loop-place.invariant

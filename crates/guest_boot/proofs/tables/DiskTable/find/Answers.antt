use Rattle.std.proofs.Common.{Option, subst, sym}
use Rattle.std.specs.Prelude.{IfSome}
use Rattle.mg_base.specs.declared.values.Span.{Span}
use Rattle.guest_boot.specs.Finding.{IsSpan}
use Rattle.guest_boot.proofs.Finds.{part_is_span}
use Rattle.guest_boot.proofs.tables.DiskTable.find.Goals as goal

pub returns-clause-span : goal.returns-clause-span
returns-clause-span c = subst (λ (r : Option Span). IfSome r IsSpan) (sym c.find.ensures) (part_is_span c.as_str.result.now c.self.inside.table.entries c.self.invariant)

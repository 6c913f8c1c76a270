use Rattle.guest_laws.proofs.Lies.{items_lie, reads_lie}
use Rattle.guest_laws.proofs.laws.mismatches_lie.Goals as goal

pub returns-clause-items : goal.returns-clause-items
returns-clause-items c = items_lie

pub returns-clause-files : goal.returns-clause-files
returns-clause-files c = reads_lie

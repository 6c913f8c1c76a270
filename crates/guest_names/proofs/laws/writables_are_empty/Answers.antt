use Rattle.guest_names.proofs.Making.{empty_at_boot}
use Rattle.guest_names.proofs.laws.writables_are_empty.Goals as goal

pub returns : goal.returns
returns c = empty_at_boot

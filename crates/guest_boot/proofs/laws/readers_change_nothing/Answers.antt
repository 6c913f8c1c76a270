use Rattle.guest_boot.proofs.Plans.{stays, only_read}
use Rattle.guest_boot.proofs.laws.readers_change_nothing.Goals as goal

pub returns-clause-stays : goal.returns-clause-stays
returns-clause-stays c = stays

pub returns-clause-reads : goal.returns-clause-reads
returns-clause-reads c = only_read

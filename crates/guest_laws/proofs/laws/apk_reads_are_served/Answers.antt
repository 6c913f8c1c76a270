use Rattle.guest_laws.proofs.Served.{apk_reads_served}
use Rattle.guest_laws.proofs.laws.apk_reads_are_served.Goals as goal

pub returns : goal.returns
returns c = apk_reads_served

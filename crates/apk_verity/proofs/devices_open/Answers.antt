use Rattle.apk_verity.proofs.Outcomes.{part_opens}
use Rattle.apk_verity.proofs.devices_open.Goals as goal

pub returns : goal.returns
returns c = part_opens c.idsigs_are_read.ensures

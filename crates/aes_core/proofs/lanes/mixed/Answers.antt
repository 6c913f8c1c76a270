use Rattle.aes_core.proofs.Mixing.{mixed_inner}
use Rattle.aes_core.proofs.lanes.mixed.Goals as goal

pub returns : goal.returns
returns c = λ x long ee ed. mixed_inner x c.args.entries c.args.doubles long c.fits-entries.0 c.fits-doubles.0 ee ed

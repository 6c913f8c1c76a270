use Rattle.guest_laws.proofs.Measures.{measures_sealed}
use Rattle.guest_laws.proofs.laws.measures_were_sealed.Goals as goal

pub returns : goal.returns
returns c = measures_sealed

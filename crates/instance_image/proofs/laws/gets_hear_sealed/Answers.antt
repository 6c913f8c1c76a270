use Rattle.instance_image.proofs.Hearing as hearing
use Rattle.instance_image.proofs.laws.gets_hear_sealed.Goals as goal

pub returns : goal.returns
returns c = hearing.gets_hear_sealed

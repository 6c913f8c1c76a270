use Rattle.verity_path.proofs.Blaming.{mismatch_lies}
use Rattle.verity_path.proofs.laws.mismatches_lie.Goals as goal

pub returns : goal.returns
returns c = mismatch_lies

use Rattle.std.specs.Prelude.{IsTrue}
use Rattle.sha_tree.proofs.Sound.{all_sound, measured_tree}
use Rattle.sha_tree.proofs.laws.paths_are_sound.Goals as goal

pub returns-clause-law : goal.returns-clause-law
returns-clause-law c =
    λ piece hashed m content tree some apart pieces inputs.
    all_sound (λ p. IsTrue (piece p)) (λ x. IsTrue (hashed x)) m content tree some apart pieces inputs

pub returns-clause-devices : goal.returns-clause-devices
returns-clause-devices c = measured_tree

use Rattle.guest_names.proofs.Sound.{names_found, no_other}
use Rattle.guest_names.proofs.laws.names_are_found.Goals as goal

pub returns-clause-found : goal.returns-clause-found
returns-clause-found c = names_found

pub returns-clause-others : goal.returns-clause-others
returns-clause-others c = no_other

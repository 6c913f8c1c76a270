use Rattle.guest_rules.proofs.Serving.{all_served, files_served}
use Rattle.guest_rules.proofs.laws.reads_are_served.Goals as goal

pub returns-clause-items : goal.returns-clause-items
returns-clause-items c = all_served

pub returns-clause-files : goal.returns-clause-files
returns-clause-files c = files_served

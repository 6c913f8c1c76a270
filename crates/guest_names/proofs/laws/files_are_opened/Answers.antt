use Rattle.guest_names.proofs.Making.{counted, files_opened}
use Rattle.guest_names.proofs.laws.files_are_opened.Goals as goal

pub returns-clause-count : goal.returns-clause-count
returns-clause-count c = counted

pub returns-clause-files : goal.returns-clause-files
returns-clause-files c = files_opened

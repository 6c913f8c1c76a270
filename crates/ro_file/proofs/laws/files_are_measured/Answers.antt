use Rattle.ro_file.proofs.Standing.{are_measured, reads_are_slices, lies, open_whole}
use Rattle.ro_file.proofs.laws.files_are_measured.Goals as goal

pub returns-clause-file : goal.returns-clause-file
returns-clause-file c = are_measured

pub returns-clause-bytes : goal.returns-clause-bytes
returns-clause-bytes c = reads_are_slices

pub returns-clause-mismatches : goal.returns-clause-mismatches
returns-clause-mismatches c = lies

pub returns-clause-opens : goal.returns-clause-opens
returns-clause-opens c = open_whole

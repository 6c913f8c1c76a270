use Rattle.rw_file.proofs.Failing.{tree_on, read_on, write_on, cut_on}
use Rattle.rw_file.proofs.Others.{others}
use Rattle.rw_file.proofs.laws.others_stay.Goals as goal

pub returns-clause-read : goal.returns-clause-read
returns-clause-read g c = λ file size at len. others _ file (read_on _ file size at len)

pub returns-clause-write : goal.returns-clause-write
returns-clause-write g c = λ file size at len. others _ file (write_on _ file size at len)

pub returns-clause-cut : goal.returns-clause-cut
returns-clause-cut g c = λ file size to. others _ file (cut_on _ file size to)

pub returns-clause-sync : goal.returns-clause-sync
returns-clause-sync g c = λ file size. others _ file (tree_on _ file _ _)

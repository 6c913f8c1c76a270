use Rattle.rw_file.proofs.Honest.{read_served, write_done, cut_done, sync_done}
use Rattle.rw_file.proofs.laws.files_are_served.Goals as goal

pub returns-clause-read : goal.returns-clause-read
returns-clause-read g c = λ s t file size. read_served _ file size _ _

pub returns-clause-write : goal.returns-clause-write
returns-clause-write g c = λ s t file size new. write_done _ file size _ _

pub returns-clause-cut : goal.returns-clause-cut
returns-clause-cut g c = λ s t file size new. cut_done _ file size _ _

pub returns-clause-sync : goal.returns-clause-sync
returns-clause-sync g c = λ s t file size. sync_done _ file size _ _

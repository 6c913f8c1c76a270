use Rattle.host_mem.proofs.Serving.{tells_listed, tells_done}
use Rattle.host_mem.proofs.host.MemHostHost.file_descriptor.Goals as goal

pub returns-then-begin-clause-tells : goal.returns-then-begin-clause-tells
returns-then-begin-clause-tells c = rw (← c.self.view_is) (tells_listed _ _ _ _ _ (rw c.if-begin.true at c.begin.ensures))

pub returns-clause-tells : goal.returns-clause-tells
returns-clause-tells c = rw (← c.self.view_is) (tells_done _ _ _ _ _ _ _ (rw c.if-begin.false at c.begin.ensures) (c.read_descriptor-answer.ensures.does c.self.inside.disks.entries c.self.inside.dirs.entries) c.end.ensures)

use Rattle.host_mem.proofs.Serving.{tells_listed, tells_done}
use Rattle.host_mem.proofs.host.MemHostHost.file_create.Goals as goal

pub returns-then-begin : goal.returns-then-begin
returns-then-begin c = record { tells = rw (← c.self.view_is) (tells_listed _ _ _ _ _ (rw c.if-begin.true at c.begin.ensures)) }

pub returns : goal.returns
returns c = record { tells = rw (← c.self.view_is) (tells_done _ _ _ _ _ _ _ (rw c.if-begin.false at c.begin.ensures) (c.create-answer.ensures c.self.inside.disks.entries) c.end.ensures) }

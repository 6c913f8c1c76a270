use Rattle.host_mem.proofs.Serving.{tells_listed, tells_done}
use Rattle.host_mem.proofs.host.MemHostHost.block_write.Goals as goal

pub returns-then-begin : goal.returns-then-begin
returns-then-begin c = record { tells = rw (← c.self.view_is) (tells_listed _ _ _ _ _ (rw c.if-begin.true at c.begin.ensures)) }

pub returns : goal.returns
returns c = record { tells = rw (← c.self.view_is) (tells_done _ _ _ _ _ _ _ (rw c.if-begin.false at c.begin.ensures) (c.write-answer.ensures c.self.inside.files.entries c.self.inside.dirs.entries) c.end.ensures) }

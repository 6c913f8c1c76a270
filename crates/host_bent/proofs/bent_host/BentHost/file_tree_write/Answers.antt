use Rattle.host_bent.proofs.Bending.{is_bent}
use Rattle.host_bent.proofs.bent_host.BentHost.file_tree_write.Goals as goal

pub returns : goal.returns
returns c = record { bent = rw (← c.self.view_is) (is_bent _ _ _ _ _ _ _ _ _ _ _ c.file_tree_write-own.ensures.tells c.done.ensures.small c.done.ensures.bent c.done.ensures.ended) }

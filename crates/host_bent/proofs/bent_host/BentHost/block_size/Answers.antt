use Rattle.host_bent.proofs.Bending.{is_bent}
use Rattle.host_bent.proofs.bent_host.BentHost.block_size.Goals as goal

pub returns : goal.returns
returns c = record { bent = rw (← c.self.view_is) (is_bent _ _ _ _ _ _ _ _ _ _ _ c.block_size-own.ensures.tells c.number.ensures.small c.number.ensures.bent c.number.ensures.ended) }

use Rattle.host_bent.proofs.Bending.{is_bent, no_room_bent}
use Rattle.host_bent.proofs.bent_host.BentHost.file_read.Goals as goal

pub returns-in-Err-clause-bent : goal.returns-in-Err-clause-bent
returns-in-Err-clause-bent c = rw (← c.self.view_is) (no_room_bent _ _ _ _ _ _ _ c.in-Err.ensures.flips c.no_room.ensures)

pub returns-clause-bent : goal.returns-clause-bent
returns-clause-bent c = rw (← c.self.view_is) (is_bent _ _ _ _ _ _ _ _ _ _ _ c.file_read-own.ensures.tells c.bytes.ensures.small c.bytes.ensures.bent c.bytes.ensures.ended)

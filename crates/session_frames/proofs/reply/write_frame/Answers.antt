use Rattle.session_frames.proofs.reply.write_frame.Goals as goal

pub returns-in-Code-clause-ok : goal.returns-in-Code-clause-ok
returns-in-Code-clause-ok g c = rw c.in-Code.is (rw c.head-short.ensures at c.write_all.ensures.ok)

pub returns-in-Code-clause-err : goal.returns-in-Code-clause-err
returns-in-Code-clause-err g c = rw c.in-Code.is (rw c.head-short.ensures at c.write_all.ensures.err)

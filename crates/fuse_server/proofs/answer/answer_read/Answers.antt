use Rattle.fuse_server.proofs.Ends.{read_row, read_right}
use Rattle.fuse_server.proofs.answer.answer_read.Goals as goal

pub returns-clause-did : goal.returns-clause-did
returns-clause-did g c = rw c.read_end.ensures (read_row c.args.reading.now.file c.args.reading.now.offset c.args.reading.now.size c.args.unique c.read-done.new.served _ _ c.read-done.result c.read-done.ensures.did)

pub returns-clause-held : goal.returns-clause-held
returns-clause-held g c = rw c.read_end.ensures (read_right c.args.reading.now.file c.args.reading.now.offset c.args.reading.now.size c.args.unique c.read-done.new.served _ _ c.read-done.result c.read-done.ensures.held)

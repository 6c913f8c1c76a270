use Rattle.fuse_server.proofs.Working.{same_file, loaded}
use Rattle.fuse_server.proofs.written.load.Goals as goal

pub returns-clause-did : goal.returns-clause-did
returns-clause-did g c = λ f there.
    let w = c.get_mut.follows.holds c.read-done.new.self in
    rw (same_file c.args.files.now.entries c.args.loading.now.number c.in-Some.file.now f c.in-Some.ensures.value there)
    (loaded c.args.loading.now.number c.in-Some.file.now c.read-done.new.self c.args.files.now.entries (c.get_mut.follows.lender c.read-done.new.self).entries _ _ w.0 c.read-done.ensures.same.0 _ _
    c.args.loading.now.offset c.args.loading.now.size c.read-done.new.served c.read-done.result c.read-done.ensures.same.1 (c.end.ensures.answer _) c.end.ensures.cause c.read-done.ensures.did)

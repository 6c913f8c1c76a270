use Rattle.fuse_server.proofs.Working.{same_file, synced}
use Rattle.fuse_server.proofs.written.sync.Goals as goal

pub returns-clause-did : goal.returns-clause-did
returns-clause-did g c = λ f there served.
    let w = c.get_mut.follows.holds c.sync-done.new.self in
    rw (same_file c.args.files.now.entries c.args.number c.in-Some.file.now f c.in-Some.ensures.value there)
    (synced c.args.number c.in-Some.file.now c.sync-done.new.self c.args.files.now.entries (c.get_mut.follows.lender c.sync-done.new.self).entries _ _ w.0 c.sync-done.ensures.same.0 _ _
    c.sync-done.result c.sync-done.ensures.same.1 (c.end.ensures.answer served) c.end.ensures.cause c.sync-done.ensures.did)

use Rattle.fuse_server.proofs.Working.{same_file, stored}
use Rattle.fuse_server.proofs.written.store.Goals as goal

pub returns-clause-did : goal.returns-clause-did
returns-clause-did g c = λ f there served.
    let w = c.get_mut.follows.holds c.write-done.new.self in
    rw (same_file c.args.files.now.entries c.args.storing.now.number c.in-Some.file.now f c.in-Some.ensures.value there)
    (stored c.args.storing.now.number c.in-Some.file.now c.write-done.new.self c.args.files.now.entries (c.get_mut.follows.lender c.write-done.new.self).entries _ _ w.0 c.write-done.ensures.same _ _
    c.args.storing.now.offset c.args.storing.now.bytes.now c.write-done.result c.write-done.ensures.size (c.write_end.ensures.answer served) c.write_end.ensures.cause c.write-done.ensures.did)

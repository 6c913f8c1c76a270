use Rattle.std.proofs.Common.{◌∙◌, ap}
use Rattle.fuse_codec.specs.Reply.{attributes}
use Rattle.fuse_server.specs.FileRows.{answer_if}
use Rattle.fuse_server.proofs.Working.{same_file, size_by, resized}
use Rattle.fuse_server.proofs.written.cut.Goals as goal

pub returns-clause-did : goal.returns-clause-did
returns-clause-did g c = λ f there served.
    let w = c.get_mut.follows.holds c.truncate-done.new.self in
    rw (same_file c.args.files.now.entries c.args.cutting.now.number c.in-Some.file.now f c.in-Some.ensures.value there)
    (resized c.args.cutting.now.number c.in-Some.file.now c.truncate-done.new.self c.args.files.now.entries (c.get_mut.follows.lender c.truncate-done.new.self).entries _ _ w.0 c.truncate-done.ensures.same _ _
    c.args.cutting.now.node c.args.cutting.now.size c.truncate-done.result (size_by _ _ _ c.truncate-done.result c.truncate-done.ensures.ok c.truncate-done.ensures.err)
    (c.end.ensures.answer served ∙ ap (λ a. answer_if (attributes a) c.truncate-done.result) c.attr_of_size-attr.ensures) c.end.ensures.cause c.truncate-done.ensures.did)

use Rattle.std.proofs.Common.{◌∙◌}
use Rattle.mem_files.proofs.Kept.{sparse_over, sparse_same}
use Rattle.mem_files.proofs.sparse.Sparse.write.Goals as goal

pub returns-in-Err-clause-err : goal.returns-in-Err-clause-err
returns-in-Err-clause-err c = sparse_same c.self.inside.size c.self.inside.pages.entries c.overwrite.new.pages.entries c.in-Err.ensures.err ∙ c.self.view_is

pub returns-clause-ok : goal.returns-clause-ok
returns-clause-ok c =
    rw (← c.self.view_is) (sparse_over c.self.inside.size c.self.inside.pages.entries c.overwrite.new.pages.entries c.args.at c.max-self-inside.result c.args.bytes.now c.self.invariant c.in-Ok.ensures.ok c.max-self-inside.ensures)

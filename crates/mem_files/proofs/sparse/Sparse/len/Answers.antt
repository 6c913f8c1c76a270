use Rattle.std.proofs.Common.{◌∙◌, length, sym, ap}
use Rattle.mem_files.proofs.Kept.{sparse-length}
use Rattle.mem_files.proofs.sparse.Sparse.len.Goals as goal

pub returns : goal.returns
returns c = sym (sparse-length c.self.inside.size c.self.inside.pages.entries) ∙ ap length c.self.view_is

use Rattle.std.proofs.Common.{◌≡◌, ◌∙◌, length, sym, ap, arith}
use Rattle.mem_files.proofs.Kept.{sparse-length, sparse-range}
use Rattle.mem_files.proofs.sparse.Sparse.fill.Goals as goal

pub returns : goal.returns
returns c =
    let size : c.self.inside.size ≡ length c.args.self.now = sym (sparse-length c.self.inside.size c.self.inside.pages.entries) ∙ ap length c.self.view_is in
    let range = sparse-range c.self.inside.size c.self.inside.pages.entries c.args.at (length c.args.out.now) (omega (arith, size, c.requires)) in
    rw (← c.self.view_is, ← range) c.fill.ensures

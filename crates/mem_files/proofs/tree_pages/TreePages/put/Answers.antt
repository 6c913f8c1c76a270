use Rattle.std.proofs.Common.{◌≡◌, ◌∙◌}
use Rattle.mem_files.proofs.TreeKeys.{page_put, tree_put}
use Rattle.mem_files.proofs.tree_pages.TreePages.put.Goals as goal

pub returns-clause-ok : goal.returns-clause-ok
returns-clause-ok c = λ l i.
    let page : c.put.new.self ≡ c.args.bytes.now = c.put.ensures.value ∙ page_put c.in-Ok.page c.args.bytes.now c.requires c.put.ensures.len in
    let u = c.in-Ok-insert.ensures.updates in
    rw (← c.self.view_is, ← c.if-replace.ensures.none) (tree_put c.replace.new.pages.entries c.insert.new.self.entries c.args.level c.args.index c.put.new.self c.args.bytes.now page u.0 l i)

use Rattle.std.proofs.Common.{◌≡◌, ◌∙◌, sym, ap, None}
use Rattle.std.specs.BTreeMap.{is_at}
use Rattle.std.specs.Map.{lookup}
use Rattle.mem_files.specs.Files.{or_zeros, page_in, place_cmp}
use Rattle.mem_files.proofs.tree_pages.TreePages.read.Goals as goal

pub returns-in-None-clause-value : goal.returns-in-None-clause-value
returns-in-None-clause-value c =
    let none : lookup (is_at (place_cmp (c.args.level, c.args.index))) c.self.inside.pages.entries ≡ None = sym c.in-None.ensures.value in
    c.put-in-None.ensures ∙ sym (ap or_zeros none) ∙ ap (λ pages. page_in pages c.args.level c.args.index) c.self.view_is

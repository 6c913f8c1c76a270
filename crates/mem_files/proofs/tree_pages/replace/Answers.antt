use Rattle.std.proofs.Common.{◌≡◌, ◌∙◌, Some, sym, refl}
use Rattle.std.specs.Prelude.{IsSome}
use Rattle.std.specs.Map.{lookup}
use Rattle.std.specs.BTreeMap.{is_at}
use Rattle.mem_files.specs.Files.{place_cmp}
use Rattle.mem_files.proofs.TreeKeys.{page_put, tree_put}
use Rattle.mem_files.proofs.tree_pages.replace.Goals as goal

pub returns-in-Some-clause-put : goal.returns-in-Some-clause-put
returns-in-Some-clause-put c = λ l i.
    let old = c.args.pages.now.entries in
    let page = c.in-Some.page.now in
    let there : lookup (is_at (place_cmp (c.args.level, c.args.index))) old ≡ Some page = sym c.in-Some.ensures.value in
    let here : IsSome (lookup (is_at (place_cmp (c.args.level, c.args.index))) old) = rw there refl in
    let w = c.get_mut.follows.holds c.put.new.self in
    let new = (c.get_mut.follows.lender c.put.new.self).entries in
    let is = c.put.ensures.value ∙ page_put page c.args.bytes.now c.requires c.put.ensures.len in
    tree_put old new c.args.level c.args.index c.put.new.self c.args.bytes.now is (w.3 here).0 l i

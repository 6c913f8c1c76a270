use Rattle.std.proofs.Common.{◌≡◌, ◌∙◌, ◌++◌, ◌-◌, take, Some, None, sym, refl, ap}
use Rattle.std.specs.Prelude.{IsSome, replicate}
use Rattle.mem_files.specs.Files.{at, Puts, byte_in}
use Rattle.mem_files.proofs.Kept.{page_cleared, none_cleared}
use Rattle.mem_files.proofs.page_map.clear_rest.Goals as goal

pub returns-in-Some : goal.returns-in-Some
returns-in-Some c =
    let old = c.args.pages.now.entries in
    let page = c.in-Some.kept.now in
    let there : at old c.args.page ≡ Some page = sym c.in-Some.ensures.value in
    let here : IsSome (at old c.args.page) = rw there refl in
    let w = c.get_mut.follows.holds c.clear_from.new.self in
    let new = (c.get_mut.follows.lender c.clear_from.new.self).entries in
    let puts : Puts old new c.args.page (take c.args.from page ++ replicate (4096 - c.args.from) 0) = rw (← c.clear_from.ensures.value) (w.3 here).0 in
    page_cleared old new c.args.page c.args.from page c.requires c.clear_from.ensures.len there puts

pub returns-in-None : goal.returns-in-None
returns-in-None c = λ place.
    let old = c.args.pages.now.entries in
    let none : at old c.args.page ≡ None = sym c.in-None.ensures.value in
    let same = ap (λ pages. byte_in pages.entries place) c.get_mut.follows.holds-at-none in
    same ∙ none_cleared old c.args.page c.args.from none place

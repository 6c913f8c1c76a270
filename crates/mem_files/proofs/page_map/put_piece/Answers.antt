use Rattle.std.proofs.Common.{◌≡◌, ◌++◌, ◌+◌, length, take, drop, Some, sym, refl}
use Rattle.std.specs.Prelude.{IsSome}
use Rattle.mem_files.specs.Files.{at, Puts}
use Rattle.mem_files.proofs.Kept.{piece_put}
use Rattle.mem_files.proofs.page_map.put_piece.Goals as goal

pub returns-in-Some-clause-put : goal.returns-in-Some-clause-put
returns-in-Some-clause-put c =
    let old = c.args.pages.now.entries in
    let page = c.in-Some.kept.now in
    let there : at old c.args.page ≡ Some page = sym c.in-Some.ensures.value in
    let here : IsSome (at old c.args.page) = rw there refl in
    let w = c.get_mut.follows.holds c.put.new.self in
    let new = (c.get_mut.follows.lender c.put.new.self).entries in
    let puts : Puts old new c.args.page (take c.args.from page ++ c.args.piece.now ++ drop (c.args.from + length c.args.piece.now) page) = rw (← c.put.ensures.value) (w.3 here).0 in
    piece_put old new c.args.page c.args.from page c.args.piece.now c.requires.fits c.put.ensures.len there puts

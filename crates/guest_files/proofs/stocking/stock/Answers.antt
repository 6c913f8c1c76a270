use Rattle.std.proofs.Common.{Option, ◌≡◌, ◌+◌, ◌++◌, ◌∷◌, [], ℕ, List, length, suc, take, drop, sym, subst, ap, ◌∙◌, arith, length-take}
use Rattle.host_traits.specs.Folders.{Files}
use Rattle.host_mem.specs.Mem.{mem_held}
use Rattle.guest_plan.specs.declared.store.StoreLine.{StoreLine}
use Rattle.guest_files.specs.Stocking.{Stock, Adds, unstocked}
use Rattle.guest_files.proofs.Cuts.{cut_here, take_here}
use Rattle.guest_files.proofs.Refusals.{stock_fails}
use Rattle.guest_files.proofs.Stocks.{free_next, stocked_then}
use Rattle.guest_files.proofs.stocking.stock.Goals as goal

pub add_line-requires-clause-number : goal.add_line-requires-clause-number
add_line-requires-clause-number g c =
    let cut = cut_here c.args.lines.now c.loop-index.index c.index-lines-index.result c.loop-index-test.true c.index-lines-index.is in
    free_next _ c.requires.list.0 c.args.lines.now _ c.index-lines-index.result _ c.args.loaded.now _ c.requires.list.1 cut c.loop-index.invariant.stocked

pub returns-in-Err-clause-err : goal.returns-in-Err-clause-err
returns-in-Err-clause-err g c =
    let count : length (take c.loop-index.index c.args.lines.now) + 2 ≡ c.loop-index.index + 2 = omega (arith, length-take c.loop-index.index c.args.lines.now, c.loop-index-test.true) in
    stock_fails _ _ c.args.lines.now c.index-lines-index.result c.loop-index.index (c.loop-index.index + 2) _ _ c.in-Err.refusal c.loop-index.invariant.files c.loop-index-test.true c.index-lines-index.is count c.loop-index.invariant.stocked c.in-Err.ensures.err

pub loop-index-preserved : goal.loop-index-preserved
loop-index-preserved g c =
    let i = c.loop-index.index in
    let files : Option Files = g.F.Folder.files c.args.folder.now in
    let line : StoreLine = c.index-lines-index.result in
    let lines : List StoreLine = c.args.lines.now in
    let old : Stock = record { held = mem_held c.loop-index.host; loaded = c.loop-index.loaded } in
    let new : Stock = record { held = mem_held c.add_line.new.host; loaded = c.add_line.new.loaded } in
    let one : Adds files line old new = subst (λ (z : Option Files). Adds z line old new) c.loop-index.invariant.files c.in-Ok.ensures.ok in
    let more = stocked_then files (take i lines) line (unstocked c.args.loaded.now) old new c.loop-index.invariant.stocked one in
    record {
      inside = omega (arith, c.loop-index-test.true);
      stocked = rw (take_here lines i line c.loop-index-test.true c.index-lines-index.is) more;
      limit = c.in-Ok.ensures.limit;
      files = c.in-Ok.ensures.files ∙ c.loop-index.invariant.files;
      faults = omega (arith, c.loop-index.invariant.faults, c.in-Ok.ensures.cause);
      count = c.in-Ok.ensures.count ∙ c.loop-index.invariant.count;
    }

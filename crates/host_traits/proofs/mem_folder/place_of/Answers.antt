use Rattle.std.proofs.Common.{arith, sym, ◌∙◌}
use Rattle.host_traits.proofs.Places.{place_most, place_hit, place_miss}
use Rattle.host_traits.proofs.mem_folder.place_of.Goals as goal

pub returns-then-is : goal.returns-then-is
returns-then-is c =
    let most = place_hit c.args.files.now c.loop-at.at c.index-files-at.result c.args.name.now c.loop-at-test.true c.index-files-at.is (sym c.is.ensures ∙ c.if-is.true) in
    omega (arith, most, c.loop-at.invariant)

pub loop-at-preserved : goal.loop-at-preserved
loop-at-preserved c = place_miss c.args.files.now c.loop-at.at c.index-files-at.result c.args.name.now c.loop-at-test.true c.index-files-at.is (sym c.is.ensures ∙ c.if-is.false) c.loop-at.invariant

pub returns : goal.returns
returns c =
    let most = place_most c.args.files.now c.args.name.now in
    omega (arith, most, c.loop-at.invariant, c.loop-at-test.false)

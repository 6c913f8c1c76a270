use Rattle.std.proofs.Common.{List, ℕ, drop, subst, arith, length-take, length-drop}
use Rattle.std.proofs.lemmas.List.{take_rest, drop_all}
use Rattle.host_tape.specs.Reading.{Reads}
use Rattle.host_tape.proofs.Steps.{one_counted}
use Rattle.host_tape.proofs.reading.count_records.Goals as goal

pub loop-at-preserved : goal.loop-at-preserved
loop-at-preserved c =
    let text = c.args.text.now in
    let at = c.loop-at.at in
    let n = c.in-Some.n in
    let so_far = c.loop-at.invariant.reads in
    let found = rw take_rest at c.in-Some.ensures.found in
    record {
      low = omega arith;
      high = omega (arith, c.in-Some.ensures.within, length-take {A = ℕ}, length-drop {A = ℕ});
      few = omega (arith, c.in-Some.ensures.some, c.loop-at.invariant.few);
      reads = one_counted text at n c.loop-at.count _ so_far found;
    }

pub returns-in-None : goal.returns-in-None
returns-in-None c =
    let text = c.args.text.now in
    let so_far = c.loop-at.invariant.reads in
    let found = rw take_rest at c.in-None.ensures.found in
    (c.loop-at.invariant.low, c.loop-at-test.true, (so_far.items, so_far.reads), found)

pub returns : goal.returns
returns c =
    let text = c.args.text.now in
    let so_far = c.loop-at.invariant.reads in
    record { items = so_far.items; are = so_far.are; reads = subst (λ (x : List ℕ). Reads (drop 13 text) so_far.items x) (drop_all c.loop-at.at text c.loop-at-test.false) so_far.reads }

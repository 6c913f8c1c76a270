use Rattle.std.proofs.Common.{◌≡◌, ◌+◌, get_or, sym, ◌∙◌, arith, rules}
use Rattle.guest_plan.proofs.Lacking.{lacking_next, lacking_none}
use Rattle.guest_plan.proofs.missing.first_lacking.Goals as goal

pub loop-i-preserved : goal.loop-i-preserved
loop-i-preserved c =
    let r = c.index-lines-i.result in
    let at : get_or c.args.lines.now c.loop-i.i r ≡ r = search rules in
    c.loop-i.invariant ∙ lacking_next c.args.keyed c.args.there c.args.lines.now c.args.numbers.now c.loop-i.i (c.loop-i.i + 1) r r (omega arith) (omega arith) (omega arith) at (sym c.lacks.ensures ∙ c.if-lacks.false)

pub returns : goal.returns
returns c = sym (c.loop-i.invariant ∙ lacking_none c.args.keyed c.args.there c.args.lines.now c.args.numbers.now c.loop-i.i (omega arith))

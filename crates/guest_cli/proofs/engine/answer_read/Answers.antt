use Rattle.std.proofs.Common.{◌≡◌, ◌∙◌, ◌<◌, Some, ap, sym, length, arith}
use Rattle.std.specs.Prelude.{slice_get}
use Rattle.std.proofs.lemmas.Option.{slice_get-get_or}
use Rattle.guest_cli.specs.Works.{instance_of}
use Rattle.guest_cli.proofs.Steps.{absent_step, absent_served, large_step, large_served, read_step, read_served}
use Rattle.guest_cli.proofs.engine.answer_read.Goals as goal

pub returns-then-question-len-clause-step : goal.returns-then-question-len-clause-step
returns-then-question-len-clause-step g c = rw (c.code.ensures, ← c.engine.view_is) (absent_step _ _ _ c.args.payload.now (omega (arith, c.parse-question.ensures.item)))

pub returns-then-question-gt131072-clause-step : goal.returns-then-question-gt131072-clause-step
returns-then-question-gt131072-clause-step g c = rw (c.code-then-question-gt131072.ensures, ← c.engine.view_is)
    (large_step _ _ _ c.args.payload.now (omega (arith, c.parse-question.ensures.item)) (omega (arith, c.parse-question.ensures.size)))

pub overflow_mul-it : goal.overflow_mul-it
overflow_mul-it g c =
    let there : c.parse-question.result.item < length c.engine.inside.items.items = omega arith in
    let at : slice_get c.engine.inside.items.items c.parse-question.result.item ≡ Some c.index-it.result.now = slice_get-get_or c.engine.inside.items.items c.parse-question.result.item c.index-it.result.now there ∙ ap Some (sym c.index-it.ensures) in
    let it = c.engine.invariant c.parse-question.result.item c.index-it.result.now at in
    omega (arith, it.most)

pub read_range-done-requires-clause-limit : goal.read_range-done-requires-clause-limit
read_range-done-requires-clause-limit g c =
    let there : c.parse-question.result.item < length c.engine.inside.items.items = omega arith in
    let at : slice_get c.engine.inside.items.items c.parse-question.result.item ≡ Some c.index-it.result.now = slice_get-get_or c.engine.inside.items.items c.parse-question.result.item c.index-it.result.now there ∙ ap Some (sym c.index-it.ensures) in
    (c.engine.invariant c.parse-question.result.item c.index-it.result.now at).most

pub read_range-done-requires-clause-suits : goal.read_range-done-requires-clause-suits
read_range-done-requires-clause-suits g c =
    let there : c.parse-question.result.item < length c.engine.inside.items.items = omega arith in
    let at : slice_get c.engine.inside.items.items c.parse-question.result.item ≡ Some c.index-it.result.now = slice_get-get_or c.engine.inside.items.items c.parse-question.result.item c.index-it.result.now there ∙ ap Some (sym c.index-it.ensures) in
    (c.engine.invariant c.parse-question.result.item c.index-it.result.now at).suits

pub returns-clause-step : goal.returns-clause-step
returns-clause-step g c =
    let there : c.parse-question.result.item < length c.engine.inside.items.items = omega arith in
    let at : slice_get c.engine.inside.items.items c.parse-question.result.item ≡ Some c.index-it.result.now = slice_get-get_or c.engine.inside.items.items c.parse-question.result.item c.index-it.result.now there ∙ ap Some (sym c.index-it.ensures) in
    let item = c.parse-question.ensures.item in
    let size = c.parse-question.ensures.size in
    let offset = c.parse-question.ensures.offset in
    rw (c.read_answer.ensures, ← c.engine.view_is)
    (read_step _ _ _ c.args.payload.now c.index-it.result.now (omega (arith, item, there)) (rw item at at) (omega (arith, size)) _ _ c.read_range-done.result (rw (offset, size) at c.read_range-done.ensures.did))

pub returns-then-question-len-clause-served : goal.returns-then-question-len-clause-served
returns-then-question-len-clause-served g c = rw (c.code.ensures, ← c.engine.view_is) (absent_served (record { items = c.engine.inside.items.items; image = instance_of c.engine.inside.records }) _ c.args.payload.now _ _ (omega (arith, c.parse-question.ensures.item)))

pub returns-then-question-gt131072-clause-served : goal.returns-then-question-gt131072-clause-served
returns-then-question-gt131072-clause-served g c = rw (c.code-then-question-gt131072.ensures, ← c.engine.view_is)
    (large_served (record { items = c.engine.inside.items.items; image = instance_of c.engine.inside.records }) _ c.args.payload.now (omega (arith, c.parse-question.ensures.size)))

pub returns-clause-served : goal.returns-clause-served
returns-clause-served g c =
    let there : c.parse-question.result.item < length c.engine.inside.items.items = omega arith in
    let at : slice_get c.engine.inside.items.items c.parse-question.result.item ≡ Some c.index-it.result.now = slice_get-get_or c.engine.inside.items.items c.parse-question.result.item c.index-it.result.now there ∙ ap Some (sym c.index-it.ensures) in
    let item = c.parse-question.ensures.item in
    let size = c.parse-question.ensures.size in
    let offset = c.parse-question.ensures.offset in
    rw (c.read_answer.ensures, ← c.engine.view_is)
    (read_served (record { items = c.engine.inside.items.items; image = instance_of c.engine.inside.records }) _ _ c.args.payload.now c.index-it.result.now (omega (arith, item, there)) (rw item at at) (omega (arith, size)) _ c.read_range-done.result (rw (offset, size) at c.read_range-done.ensures.did)
    (rw (offset, size) at c.read_range-done.ensures.held))

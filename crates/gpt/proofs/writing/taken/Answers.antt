use Rattle.std.proofs.Common.{arith}
use Rattle.gpt.proofs.ImageLaws.{taken-drop, taken-end}
use Rattle.gpt.proofs.writing.taken.Goals as goal

pub overflow_add-sum : goal.overflow_add-sum
overflow_add-sum c =
    let e = taken-drop c.args.parts.now c.loop-part.part-index (omega arith) in
    omega (arith, e, c.loop-part.invariant, c.requires)

pub loop-part-preserved : goal.loop-part-preserved
loop-part-preserved c =
    let e = taken-drop c.args.parts.now c.loop-part.part-index (omega arith) in
    omega (arith, e, c.loop-part.invariant)

pub returns : goal.returns
returns c =
    let e = taken-end c.args.parts.now c.loop-part.part-index (omega arith) in
    omega (arith, e, c.loop-part.invariant)

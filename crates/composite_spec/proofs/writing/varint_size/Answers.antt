use Rattle.std.proofs.Common.{◌-◌, ℕ, length, ap, arith}
use Rattle.composite_spec.proofs.Varints.{digits_on, digits_end, varint_few}
use Rattle.composite_spec.proofs.writing.varint_size.Goals as goal

pub overflow_add-size : goal.overflow_add-size
overflow_add-size c =
    let few = varint_few c.args.n (omega arith) in
    omega (arith, c.loop-left.invariant.so_far)

pub loop-left-preserved : goal.loop-left-preserved
loop-left-preserved c =
    let most : ℕ = c.loop-left.invariant.most in
    let left : ℕ = c.loop-left.left in
    let on = ap length (digits_on most left c.loop-left.invariant.room (omega arith)) in
    record {
      most = most - 1;
      room = omega (arith, c.loop-left.invariant.room);
      so_far = omega (arith, c.loop-left.invariant.so_far);
    }

pub returns-clause-value : goal.returns-clause-value
returns-clause-value c = omega (arith, c.loop-left.invariant.so_far, ap length (digits_end c.loop-left.invariant.most c.loop-left.left (omega arith)))

pub returns-clause-few : goal.returns-clause-few
returns-clause-few c = omega (arith, c.loop-left.invariant.so_far, ap length (digits_end c.loop-left.invariant.most c.loop-left.left (omega arith)), varint_few c.args.n (omega arith))

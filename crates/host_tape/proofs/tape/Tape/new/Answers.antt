use Rattle.std.proofs.Common.{arith}
use Rattle.std.specs.Prelude.{vec_capacity}
use Rattle.host_tape.proofs.Steps.{kept_new}
use Rattle.host_tape.proofs.tape.Tape.new.Goals as goal

pub invariant_of-result : goal.invariant_of-result
invariant_of-result c =
    rw c.in-Ok.ensures.items (kept_new c.args.text.items c.args.count (vec_capacity c.in-Ok.calls) c.requires.header c.requires.finds (omega (arith, c.in-Ok.ensures.capacity)))

use Rattle.std.proofs.Common.{arith}
use Rattle.mg_base.specs.Salts.{IsSaltOf-padded}
use Rattle.mg_base.proofs.salt.Salt.new.Goals as goal

pub invariant_of-result : goal.invariant_of-result
invariant_of-result c =
    rw c.copy_from_slice.ensures.after (IsSaltOf-padded c.args.bytes.now (omega arith))

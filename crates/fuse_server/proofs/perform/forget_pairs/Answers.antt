use Rattle.std.proofs.Common.{◌∙◌, arith}
use Rattle.fuse_server.proofs.Pairs.{forget_last}
use Rattle.fuse_server.proofs.perform.forget_pairs.Goals as goal

pub returns : goal.returns
returns c = forget_last _ _ _ _ (omega (arith, c.loop-place-test.false, c.loop-place.auto.place-end)) ∙ c.loop-place.invariant

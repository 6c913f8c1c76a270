use Rattle.std.proofs.Common.{◌+◌, arith}
use Rattle.aes_core.specs.Inner.{outer}
use Rattle.aes_core.proofs.Mixing.{first_state, last, more, outer_key}
use Rattle.aes_core.proofs.lanes.encrypted.Goals as goal

pub loop-r-init : goal.loop-r-init
loop-r-init c =
    let keys = c.args.keys.now in
    first_state (outer keys) c.args.block (outer c.key_of.result) (outer c.first_round-state.result)
    (outer_key keys c.key_of.result 0 c.key_of.ensures) c.first_round-state.ensures

pub loop-r-preserved : goal.loop-r-preserved
loop-r-preserved c =
    let keys = c.args.keys.now in
    more (outer keys) c.args.block (outer c.loop-r.state) (outer c.round-next.result) (outer c.key_of-in-loop-r.result) c.loop-r.r c.loop-r.invariant
    (outer_key keys c.key_of-in-loop-r.result (c.loop-r.r + 1) c.key_of-in-loop-r.ensures) c.round-next.ensures

pub returns : goal.returns
returns c =
    last (outer c.args.keys.now) c.args.block (outer c.loop-r.state) c.last_round.result c.args.last c.loop-r.r (omega (arith, c.loop-r.auto.r-end))
    c.loop-r.invariant c.requires c.last_round.ensures

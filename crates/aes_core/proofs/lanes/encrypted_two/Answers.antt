use Rattle.std.proofs.Common.{◌+◌, arith}
use Rattle.aes_core.specs.Inner.{outer}
use Rattle.aes_core.proofs.Mixing.{first_state, last, more, outer_key}
use Rattle.aes_core.proofs.lanes.encrypted_two.Goals as goal

pub loop-r-init : goal.loop-r-init
loop-r-init c =
    let keys = c.args.keys.now in
    let key = outer_key keys c.key_of-start.result 0 c.key_of-start.ensures in (
      first_state (outer keys) c.args.first (outer c.key_of-start.result) (outer c.first_round-x.result) key c.first_round-x.ensures,
      first_state (outer keys) c.args.second (outer c.key_of-start.result) (outer c.first_round-y.result) key c.first_round-y.ensures,
    )

pub loop-r-preserved : goal.loop-r-preserved
loop-r-preserved c =
    let keys = c.args.keys.now in
    let key = outer_key keys c.key_of-key.result (c.loop-r.r + 1) c.key_of-key.ensures in (
      more (outer keys) c.args.first (outer c.loop-r.x) (outer c.round-x.result) (outer c.key_of-key.result) c.loop-r.r c.loop-r.invariant.0 key c.round-x.ensures,
      more (outer keys) c.args.second (outer c.loop-r.y) (outer c.round-y.result) (outer c.key_of-key.result) c.loop-r.r c.loop-r.invariant.1 key c.round-y.ensures,
    )

pub returns-clause-first : goal.returns-clause-first
returns-clause-first c =
    last (outer c.args.keys.now) c.args.first (outer c.loop-r.x) c.last_round.result c.args.last c.loop-r.r (omega (arith, c.loop-r.auto.r-end))
    c.loop-r.invariant.0 c.requires c.last_round.ensures

pub returns-clause-second : goal.returns-clause-second
returns-clause-second c =
    last (outer c.args.keys.now) c.args.second (outer c.loop-r.y) c.last_round-2.result c.args.last c.loop-r.r (omega (arith, c.loop-r.auto.r-end))
    c.loop-r.invariant.1 c.requires c.last_round-2.ensures

use Rattle.std.proofs.Common.{◌≡◌, ◌<◌, [], arith}
use Rattle.verity_path.specs.Range.{end_of}
use Rattle.verity_path.proofs.Ranges.{range_none, range_start, range_on, range_bad, range_end}
use Rattle.verity_path.proofs.Right.{right_none, right_start, right_on, right_bad, right_all}
use Rattle.verity_path.proofs.device.read_range.Goals as goal
use Rattle.verity_path.proofs.device.read_range.Goals.{then-len-eq0-via-then-len-eq0, then-len-eq0-via-else-len-eq0+then-at-size}

pub returns-then-len-eq0-clause-did : goal.returns-then-len-eq0-clause-did
returns-then-len-eq0-clause-did g c = elim c.then-len-eq0.branch [
  | then-len-eq0-via-then-len-eq0 w ↦
      range_none c.args.device.now.layout c.args.device.now.measure c.args.size c.args.at c.args.len _ _ _ (omega (arith, w.if-len-eq0.true)) c.requires.empty
  | then-len-eq0-via-else-len-eq0+then-at-size w ↦
      range_none c.args.device.now.layout c.args.device.now.measure c.args.size c.args.at c.args.len _ _ _ (omega (arith, w.if-at-size.true)) c.requires.empty
]

pub returns-then-len-eq0-clause-held : goal.returns-then-len-eq0-clause-held
returns-then-len-eq0-clause-held g c = elim c.then-len-eq0.branch [
  | then-len-eq0-via-then-len-eq0 w ↦
      right_none c.args.device.now.layout c.args.device.now.measure c.args.size c.args.at c.args.len _ _ _ (omega (arith, w.if-len-eq0.true)) c.requires.empty
  | then-len-eq0-via-else-len-eq0+then-at-size w ↦
      right_none c.args.device.now.layout c.args.device.now.measure c.args.size c.args.at c.args.len _ _ _ (omega (arith, w.if-at-size.true)) c.requires.empty
]

pub loop-index-init : goal.loop-index-init
loop-index-init g c =
    let end_is : c.min-end.result ≡ end_of c.args.size c.args.at c.args.len = omega (arith, c.min-end.ensures, c.saturating_add.ensures) in
    let some : c.args.at < c.min-end.result = omega (arith, c.min-end.ensures, c.saturating_add.ensures) in
    record {
      did = range_start c.args.device.now.layout c.args.device.now.measure c.args.size c.args.at c.args.len c.min-end.result end_is some _ _ c.requires.empty;
      held = right_start c.args.device.now.layout c.args.device.now.measure c.args.size c.args.at c.args.len c.min-end.result end_is some _ _ c.requires.empty;
    }

pub push-requires-clause-room : goal.push-requires-clause-room
push-requires-clause-room g c = omega (arith, c.loop-index.invariant.did.outcome.1.len, c.min.ensures, c.max.ensures, c.min-end.ensures, c.saturating_add.ensures)

pub returns-in-Err-clause-did : goal.returns-in-Err-clause-did
returns-in-Err-clause-did g c =
    let end_is : c.min-end.result ≡ end_of c.args.size c.args.at c.args.len = omega (arith, c.min-end.ensures, c.saturating_add.ensures) in
    let some : c.args.at < c.min-end.result = omega (arith, c.min-end.ensures, c.saturating_add.ensures) in
    range_bad c.args.device.now.layout c.args.device.now.measure c.args.size c.args.at c.args.len c.min-end.result end_is some
    _ _ _ c.loop-index.index _ [] _ (omega arith) (omega arith) c.loop-index.invariant.did c.in-Err.ensures.did

pub returns-in-Err-clause-held : goal.returns-in-Err-clause-held
returns-in-Err-clause-held g c =
    let end_is : c.min-end.result ≡ end_of c.args.size c.args.at c.args.len = omega (arith, c.min-end.ensures, c.saturating_add.ensures) in
    let some : c.args.at < c.min-end.result = omega (arith, c.min-end.ensures, c.saturating_add.ensures) in
    right_bad c.args.device.now.layout c.args.device.now.measure c.args.size c.args.at c.args.len c.min-end.result end_is some
    _ _ _ _ _ c.loop-index.index _ [] _ c.loop-index.invariant.did.talked c.in-Err.ensures.did.talked c.loop-index.invariant.held c.in-Err.ensures.held

pub loop-index-preserved : goal.loop-index-preserved
loop-index-preserved g c =
    let end_is : c.min-end.result ≡ end_of c.args.size c.args.at c.args.len = omega (arith, c.min-end.ensures, c.saturating_add.ensures) in
    let some : c.args.at < c.min-end.result = omega (arith, c.min-end.ensures, c.saturating_add.ensures) in
    record {
      did = rw (c.push.ensures.value, c.min.ensures, c.max.ensures)
          (range_on c.args.device.now.layout c.args.device.now.measure c.args.size c.args.at c.args.len c.min-end.result end_is some
          _ _ _ c.loop-index.index _ _ (omega arith) (omega arith) c.loop-index.invariant.did c.in-Ok.ensures.did);
      held = rw (c.push.ensures.value, c.min.ensures, c.max.ensures)
          (right_on c.args.device.now.layout c.args.device.now.measure c.args.size c.args.at c.args.len c.min-end.result end_is some
          _ _ _ _ _ c.loop-index.index _ c.in-Ok.block c.loop-index.invariant.did.talked c.in-Ok.ensures.did.talked (omega arith) (omega arith) c.loop-index.invariant.held c.in-Ok.ensures.held);
    }

pub returns-clause-did : goal.returns-clause-did
returns-clause-did g c =
    let end_is : c.min-end.result ≡ end_of c.args.size c.args.at c.args.len = omega (arith, c.min-end.ensures, c.saturating_add.ensures) in
    let some : c.args.at < c.min-end.result = omega (arith, c.min-end.ensures, c.saturating_add.ensures) in
    range_end c.args.device.now.layout c.args.device.now.measure c.args.size c.args.at c.args.len c.min-end.result end_is some
    _ _ c.loop-index.index _ _ (omega arith) c.loop-index.invariant.did

pub returns-clause-held : goal.returns-clause-held
returns-clause-held g c =
    let end_is : c.min-end.result ≡ end_of c.args.size c.args.at c.args.len = omega (arith, c.min-end.ensures, c.saturating_add.ensures) in
    let some : c.args.at < c.min-end.result = omega (arith, c.min-end.ensures, c.saturating_add.ensures) in
    right_all c.args.device.now.layout c.args.device.now.measure c.args.size c.args.at c.args.len c.min-end.result end_is some
    _ _ c.loop-index.index _ _ (omega arith) c.loop-index.invariant.held

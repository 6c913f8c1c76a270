use Rattle.std.proofs.Common.{◌<◌, length, arith, rules}
use Rattle.composite_spec.specs.Reading.{part_by, no_part, part_step, part_of}
use Rattle.composite_spec.proofs.Walks.{begins, goes_on, stops, ends}
use Rattle.composite_spec.proofs.stated.part_of.Goals as goal

pub loop-rest-init : goal.loop-rest-init
unfolding part_of
loop-rest-init c = record { inside = search rules; walks = begins (part_step c.args.end) no_part c.args.bytes.now }

pub returns-in-Err : goal.returns-in-Err
returns-in-Err c =
    let some : 0 < length c.loop-rest.rest.now = search rules in
    stops (part_step c.args.end) (part_by c.loop-rest.part) c.loop-rest.rest.now (part_of c.args.end c.args.bytes.now) c.in-Err.fault some c.in-Err.ensures.value c.loop-rest.invariant.walks

pub loop-rest-preserved : goal.loop-rest-preserved
loop-rest-preserved c =
    let some : 0 < length c.loop-rest.rest.now = search rules in
    record {
      inside = omega (arith, c.loop-rest.invariant.inside, c.in-Ok.ensures.shorter);
      walks = goes_on (part_step c.args.end) (part_by c.loop-rest.part) (part_by c.in-Ok.next) c.loop-rest.rest.now c.in-Ok.after.now (part_of c.args.end c.args.bytes.now) some c.in-Ok.ensures.shorter c.in-Ok.ensures.value c.loop-rest.invariant.walks;
    }

pub returns : goal.returns
returns c = ends (part_step c.args.end) (part_by c.loop-rest.part) c.loop-rest.rest.now (part_of c.args.end c.args.bytes.now) (search rules) c.loop-rest.invariant.walks

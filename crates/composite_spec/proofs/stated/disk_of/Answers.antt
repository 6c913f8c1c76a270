use Rattle.std.proofs.Common.{◌<◌, length, List, map, arith, rules, subst, sym}
use Rattle.composite_spec.specs.declared.stated.Stated.{Stated}
use Rattle.composite_spec.specs.Reading.{part_by, disk_by, no_disk, disk_step, disk_of}
use Rattle.composite_spec.proofs.Walks.{Walks, begins, goes_on, stops_fails, ends}
use Rattle.composite_spec.proofs.stated.disk_of.Goals as goal

pub loop-rest-init : goal.loop-rest-init
unfolding disk_of
loop-rest-init c = record { inside = search rules; walks = subst (λ (x : List Stated). Walks (disk_step c.args.end) (record { version = 0; parts = map part_by x; length = 0 }) c.args.bytes.now (disk_of c.args.end c.args.bytes.now)) (sym c.new.ensures.items) (begins (disk_step c.args.end) no_disk c.args.bytes.now) }

pub returns-in-Err : goal.returns-in-Err
returns-in-Err c =
    let some : 0 < length c.loop-rest.rest.now = search rules in
    stops_fails (disk_step c.args.end) (disk_by c.loop-rest.disk) c.loop-rest.rest.now (disk_of c.args.end c.args.bytes.now) c.in-Err.fault some c.in-Err.ensures.value c.loop-rest.invariant.walks

pub loop-rest-preserved : goal.loop-rest-preserved
loop-rest-preserved c =
    let some : 0 < length c.loop-rest.rest.now = search rules in
    record {
      inside = omega (arith, c.loop-rest.invariant.inside, c.in-Ok.ensures.shorter);
      walks = goes_on (disk_step c.args.end) (disk_by c.loop-rest.disk) (disk_by c.disk_step.new.disk) c.loop-rest.rest.now c.in-Ok.after.now (disk_of c.args.end c.args.bytes.now) some c.in-Ok.ensures.shorter c.in-Ok.ensures.value c.loop-rest.invariant.walks;
    }

pub returns : goal.returns
returns c = ends (disk_step c.args.end) (disk_by c.loop-rest.disk) c.loop-rest.rest.now (disk_of c.args.end c.args.bytes.now) (search rules) c.loop-rest.invariant.walks

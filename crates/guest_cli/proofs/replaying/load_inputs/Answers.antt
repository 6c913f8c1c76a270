use Rattle.std.proofs.Common.{◌+◌, length, refl, arith}
use Rattle.guest_plan.specs.Plans.{known}
use Rattle.guest_cli.specs.Outside.{PlanRead}
use Rattle.guest_cli.specs.Replay.{TapeRead}
use Rattle.guest_cli.proofs.Loading.{loaded_behind, taped_fails, tape_fails, entropy_fails}
use Rattle.guest_cli.proofs.replaying.load_inputs.Goals as goal

pub returns-in-Err-load-clause-err : goal.returns-in-Err-load-clause-err
returns-in-Err-load-clause-err g c =
    let text = c.deref.ensures.value in
    let read : PlanRead _ c.args.plan.now = record { text = c.in-Ok.text.items; there = loaded_behind _ c.args.plan.now _ _ 0 c.in-Ok.text.items refl c.in-Ok.ensures.ok; plan = known c.in-Ok-planned.plan; is = (rw text at c.in-Ok-planned.ensures).0; built = (rw text at c.in-Ok-planned.ensures).1 } in
    tape_fails _ c.args.plan.now c.args.tape.now c.args.entropy.now _ c.in-Err-load.status read (omega (arith, c.in-Ok.ensures.ok.count)) (rw c.in-Ok.ensures.files at c.in-Err-load.ensures.err)

pub returns-in-Err-taped-clause-err : goal.returns-in-Err-taped-clause-err
returns-in-Err-taped-clause-err g c =
    let text = c.deref.ensures.value in
    taped_fails _ c.args.plan.now c.args.tape.now c.args.entropy.now c.in-Ok-load.bytes.items c.in-Err-taped.status
    (record { text = c.in-Ok.text.items; there = loaded_behind _ c.args.plan.now _ _ 0 c.in-Ok.text.items refl c.in-Ok.ensures.ok; plan = known c.in-Ok-planned.plan; is = (rw text at c.in-Ok-planned.ensures).0; built = (rw text at c.in-Ok-planned.ensures).1 })
    (loaded_behind _ c.args.tape.now _ _ (length c.in-Ok.text.items) c.in-Ok-load.bytes.items (omega (arith, c.in-Ok.ensures.ok.count)) (rw c.in-Ok.ensures.files at c.in-Ok-load.ensures.ok)) c.in-Err-taped.ensures

pub returns-in-Err-load-2-clause-err : goal.returns-in-Err-load-2-clause-err
returns-in-Err-load-2-clause-err g c =
    let text = c.deref.ensures.value in
    let there = loaded_behind _ c.args.tape.now _ _ (length c.in-Ok.text.items) c.in-Ok-load.bytes.items (omega (arith, c.in-Ok.ensures.ok.count)) (rw c.in-Ok.ensures.files at c.in-Ok-load.ensures.ok) in
    let read : PlanRead _ c.args.plan.now = record { text = c.in-Ok.text.items; there = loaded_behind _ c.args.plan.now _ _ 0 c.in-Ok.text.items refl c.in-Ok.ensures.ok; plan = known c.in-Ok-planned.plan; is = (rw text at c.in-Ok-planned.ensures).0; built = (rw text at c.in-Ok-planned.ensures).1 } in
    let taped : TapeRead _ c.args.tape.now (length c.in-Ok.text.items) = record { text = c.in-Ok-load.bytes.items; there = there; records = c.in-Ok-taped.tape.records; is = c.in-Ok-taped.ensures.0 } in
    entropy_fails _ c.args.plan.now c.args.tape.now c.args.entropy.now _ c.in-Err-load-2.status read taped (omega (arith, c.in-Ok.ensures.ok.count, c.in-Ok-load.ensures.ok.count)) (rw (c.in-Ok-load.ensures.files, c.in-Ok.ensures.files) at c.in-Err-load-2.ensures.err)

pub returns-clause-ok : goal.returns-clause-ok
returns-clause-ok g c =
    let planned = rw c.deref.ensures.value at c.in-Ok-planned.ensures in
    record {
      text = c.in-Ok.text.items;
      there = loaded_behind _ c.args.plan.now _ _ 0 c.in-Ok.text.items refl c.in-Ok.ensures.ok;
      is = planned.0;
      built = planned.1;
      grammar = planned.2;
      tape_text = c.in-Ok-load.bytes.items;
      tape_there = loaded_behind _ c.args.tape.now _ _ (length c.in-Ok.text.items) c.in-Ok-load.bytes.items (omega (arith, c.in-Ok.ensures.ok.count)) (rw c.in-Ok.ensures.files at c.in-Ok-load.ensures.ok);
      is_tape = c.in-Ok-taped.ensures.0;
      fresh = c.in-Ok-taped.ensures.1;
      entropy_there = rw c.new-entropy.ensures (loaded_behind _ c.args.entropy.now _ _ (length c.in-Ok.text.items + length c.in-Ok-load.bytes.items) c.in-Ok-load-2.entropy.items
          (omega (arith, c.in-Ok.ensures.ok.count, c.in-Ok-load.ensures.ok.count)) (rw (c.in-Ok-load.ensures.files, c.in-Ok.ensures.files) at c.in-Ok-load-2.ensures.ok));
    }

use Rattle.std.proofs.Common.{◌≡◌, ℕ, List, length, refl, subst, arith, Err}
use Rattle.host_mem.specs.Mem.{mem_held}
use Rattle.guest_plan.specs.Plans.{known}
use Rattle.guest_cli.specs.Outside.{PlanRead}
use Rattle.guest_cli.specs.Loads.{Listed}
use Rattle.guest_cli.specs.Serve.{ListRead, HostMade, loaded_with}
use Rattle.guest_cli.proofs.Loading.{loaded_behind, list_fails, listed_fails, lines_fail, last_fails}
use Rattle.guest_cli.proofs.serving.load_inputs.Goals as goal

pub returns-in-Err-load-clause-err : goal.returns-in-Err-load-clause-err
returns-in-Err-load-clause-err g c =
    let text = c.deref.ensures.value in
    let read : PlanRead _ c.args.plan.now = record { text = c.in-Ok.text.items; there = loaded_behind _ c.args.plan.now _ _ 0 c.in-Ok.text.items refl c.in-Ok.ensures.ok; plan = known c.in-Ok-planned.plan; is = (rw text at c.in-Ok-planned.ensures).0; built = (rw text at c.in-Ok-planned.ensures).1 } in
    list_fails _ c.args.plan.now c.args.store.now c.args.entropy.now _ c.in-Err-load.status read (omega (arith, c.in-Ok.ensures.ok.count)) (rw c.in-Ok.ensures.files at c.in-Err-load.ensures.err)

pub returns-in-Err-listed-clause-err : goal.returns-in-Err-listed-clause-err
returns-in-Err-listed-clause-err g c =
    let text = c.deref.ensures.value in
    let read : PlanRead _ c.args.plan.now = record { text = c.in-Ok.text.items; there = loaded_behind _ c.args.plan.now _ _ 0 c.in-Ok.text.items refl c.in-Ok.ensures.ok; plan = known c.in-Ok-planned.plan; is = (rw text at c.in-Ok-planned.ensures).0; built = (rw text at c.in-Ok-planned.ensures).1 } in
    listed_fails _ c.args.plan.now c.args.store.now c.args.entropy.now c.in-Ok-load.text.items c.in-Err-listed.status read (loaded_behind _ c.args.store.now _ _ (length c.in-Ok.text.items) c.in-Ok-load.text.items (omega (arith, c.in-Ok.ensures.ok.count)) (rw c.in-Ok.ensures.files at c.in-Ok-load.ensures.ok)) (subst (λ (z : List ℕ). Listed z (Err c.in-Err-listed.status)) c.deref-2.ensures.value c.in-Err-listed.ensures)

pub returns-in-Err-stock-clause-err : goal.returns-in-Err-stock-clause-err
returns-in-Err-stock-clause-err g c =
    let text = c.deref.ensures.value in
    let listed = rw c.deref-2.ensures.value at c.in-Ok-listed.ensures in
    let read : PlanRead _ c.args.plan.now = record { text = c.in-Ok.text.items; there = loaded_behind _ c.args.plan.now _ _ 0 c.in-Ok.text.items refl c.in-Ok.ensures.ok; plan = known c.in-Ok-planned.plan; is = (rw text at c.in-Ok-planned.ensures).0; built = (rw text at c.in-Ok-planned.ensures).1 } in
    let list : ListRead _ c.args.store.now (length c.in-Ok.text.items) = record { text = c.in-Ok-load.text.items; there = loaded_behind _ c.args.store.now _ _ (length c.in-Ok.text.items) c.in-Ok-load.text.items (omega (arith, c.in-Ok.ensures.ok.count)) (rw c.in-Ok.ensures.files at c.in-Ok-load.ensures.ok); lines = c.in-Ok-listed.list.lines.items; is = listed.0 } in
    rw c.refused.ensures (lines_fail _ c.args.plan.now c.args.store.now c.args.entropy.now _ c.in-Err-stock.refusal read list (omega (arith, c.in-Ok.ensures.ok.count, c.in-Ok-load.ensures.ok.count))
    (rw (c.deref-3.ensures.value, c.in-Ok-load.ensures.files, c.in-Ok.ensures.files) at c.in-Err-stock.ensures.err))

pub returns-in-Err-load-2-clause-err : goal.returns-in-Err-load-2-clause-err
returns-in-Err-load-2-clause-err g c =
    let text = c.deref.ensures.value in
    let listed = rw c.deref-2.ensures.value at c.in-Ok-listed.ensures in
    let read : PlanRead _ c.args.plan.now = record { text = c.in-Ok.text.items; there = loaded_behind _ c.args.plan.now _ _ 0 c.in-Ok.text.items refl c.in-Ok.ensures.ok; plan = known c.in-Ok-planned.plan; is = (rw text at c.in-Ok-planned.ensures).0; built = (rw text at c.in-Ok-planned.ensures).1 } in
    let list : ListRead _ c.args.store.now (length c.in-Ok.text.items) = record { text = c.in-Ok-load.text.items; there = loaded_behind _ c.args.store.now _ _ (length c.in-Ok.text.items) c.in-Ok-load.text.items (omega (arith, c.in-Ok.ensures.ok.count)) (rw c.in-Ok.ensures.files at c.in-Ok-load.ensures.ok); lines = c.in-Ok-listed.list.lines.items; is = listed.0 } in
    let count : c.load-2.new.loaded ≡ loaded_with read list = omega (arith, c.in-Ok.ensures.ok.count, c.in-Ok-load.ensures.ok.count) in
    let stocked = rw (c.deref-3.ensures.value, c.in-Ok-load.ensures.files, c.in-Ok.ensures.files) at c.in-Ok-stock.ensures.ok in
    let made : HostMade _ c.args.plan.now c.args.store.now = record {
      planned = read;
      listed = list;
      stock = record { held = mem_held c.in-Ok-stock.host; loaded = c.stock.new.loaded };
      stocked = rw count at stocked;
    } in
    last_fails _ c.args.plan.now c.args.store.now c.args.entropy.now c.in-Err-load-2.status made (rw (c.in-Ok-stock.ensures.files, c.in-Ok-load.ensures.files, c.in-Ok.ensures.files) at c.in-Err-load-2.ensures.err)

pub returns-clause-ok : goal.returns-clause-ok
returns-clause-ok g c =
    let text = c.deref.ensures.value in
    let planned = rw text at c.in-Ok-planned.ensures in
    let listed = rw c.deref-2.ensures.value at c.in-Ok-listed.ensures in
    let read : PlanRead _ c.args.plan.now = record { text = c.in-Ok.text.items; there = loaded_behind _ c.args.plan.now _ _ 0 c.in-Ok.text.items refl c.in-Ok.ensures.ok; plan = known c.in-Ok-planned.plan; is = planned.0; built = planned.1 } in
    let list : ListRead _ c.args.store.now (length c.in-Ok.text.items) = record { text = c.in-Ok-load.text.items; there = loaded_behind _ c.args.store.now _ _ (length c.in-Ok.text.items) c.in-Ok-load.text.items (omega (arith, c.in-Ok.ensures.ok.count)) (rw c.in-Ok.ensures.files at c.in-Ok-load.ensures.ok); lines = c.in-Ok-listed.list.lines.items; is = listed.0 } in
    let count : c.load-2.new.loaded ≡ loaded_with read list = omega (arith, c.in-Ok.ensures.ok.count, c.in-Ok-load.ensures.ok.count) in
    let stocked = rw (c.deref-3.ensures.value, c.in-Ok-load.ensures.files, c.in-Ok.ensures.files) at c.in-Ok-stock.ensures.ok in
    record {
      made = record {
        planned = read;
        listed = list;
        stock = record { held = mem_held c.in-Ok-stock.host; loaded = c.stock.new.loaded };
        stocked = rw count at stocked;
      };
      plan_is = refl;
      grammar = planned.2;
      lines_are = refl;
      held_is = refl;
      entropy_there = rw c.new-entropy.ensures (loaded_behind _ c.args.entropy.now _ _ _ c.in-Ok-load-2.entropy.items refl (rw (c.in-Ok-stock.ensures.files, c.in-Ok-load.ensures.files, c.in-Ok.ensures.files) at c.in-Ok-load-2.ensures.ok));
    }

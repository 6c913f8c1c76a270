use Rattle.guest_cli.proofs.Served.{stored_serves, ended_serves}
use Rattle.guest_cli.proofs.serving.serve_list.Goals as goal

pub returns-in-Ok-sit-clause-serves : goal.returns-in-Ok-sit-clause-serves
returns-in-Ok-sit-clause-serves g c =
    stored_serves _ c.args.plan.now c.args.store.now c.args.entropy.now _ _ _ _ _ _ _ _ c.args.tape_out.now c.in-Ok-sit.host _ _ c.store_all.result c.in-Ok.ensures.ok c.in-Ok-sit.ensures.sat c.store_all.ensures.each
    (rw (c.deref.ensures.value, c.in-Ok.ensures.files) at c.store_all.ensures.stored) c.store_all.ensures.cause

pub returns-clause-serves : goal.returns-clause-serves
returns-clause-serves g c =
    rw c.in-Ok.ensures.files (ended_serves _ c.args.plan.now c.args.store.now c.args.entropy.now _ _ _ _ _ _ _ c.args.tape_out.now c.in-Err-sit.status c.in-Ok.ensures.ok c.in-Err-sit.ensures.sat)

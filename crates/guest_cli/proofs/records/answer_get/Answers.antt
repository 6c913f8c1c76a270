use Rattle.std.proofs.Common.{◌≡◌, ◌∙◌, ℕ, List, Some, refl, ap, subst, arith}
use Rattle.std.proofs.lemmas.List.{take_all}
use Rattle.host_traits.specs.Did.{Did}
use Rattle.instance_image.specs.Access.{IsGetCall, GetOutcome}
use Rattle.instance_image.specs.Promised.{RecordIsGot}
use Rattle.guest_cli.specs.Works.{instance_of}
use Rattle.guest_cli.proofs.Sealing.{get_none, get_step, is_got}
use Rattle.guest_cli.proofs.records.answer_get.Goals as goal

pub returns-in_default-clause-step : goal.returns-in_default-clause-step
returns-in_default-clause-step g c = rw (c.code.ensures, ← c.engine.view_is) (get_none _ _ (g.H.Host.told c.args.host.now) c.args.payload.now _ (ap instance_of c.in_default.is))

pub returns-clause-step : goal.returns-clause-step
returns-clause-step g c =
    let uuid : c.uuid_of-uuid.result.0 ≡ c.args.payload.now = c.uuid_of-uuid.ensures ∙ take_all 16 c.args.payload.now (omega (arith, c.requires)) in
    let did = subst (λ (u : List ℕ). Did (IsGetCall c.in-Some.records.image u) 1 (g.H.Host.told c.args.host.now) (g.H.Host.told c.get-done.new.host)
    (GetOutcome c.in-Some.records.image c.in-Some.records.secret u c.get-done.result)) uuid c.get-done.ensures.did in
    rw (c.get_answer.ensures, ← c.engine.view_is, c.in-Some.is)
    (get_step (record { items = c.engine.inside.items.items; image = instance_of (Some c.in-Some.records) }) _ _ c.args.payload.now
    (record { fuse = c.engine.inside.server; entropy = c.engine.inside.entropy; parts = c.in-Some.records.image.parts }) _ refl c.get-done.result c.engine.inside.served did)

pub returns-clause-served : goal.returns-clause-served
returns-clause-served g c =
    let uuid : c.uuid_of-uuid.result.0 ≡ c.args.payload.now = c.uuid_of-uuid.ensures ∙ take_all 16 c.args.payload.now (omega (arith, c.requires)) in
    let held = subst (λ (u : List ℕ). RecordIsGot c.in-Some.records.image c.in-Some.records.secret u (g.H.Host.told c.args.host.now) (g.H.Host.told c.get-done.new.host) c.get-done.result)
    uuid c.get-done.ensures.held in
    rw (c.get_answer.ensures, ← c.engine.view_is, c.in-Some.is)
    (is_got (record { items = c.engine.inside.items.items; image = instance_of (Some c.in-Some.records) }) _ _ c.args.payload.now
    (record { fuse = c.engine.inside.server; entropy = c.engine.inside.entropy; parts = c.in-Some.records.image.parts }) _ refl c.get-done.result c.engine.inside.served held)

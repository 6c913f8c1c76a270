use Rattle.std.proofs.Common.{◌∙◌, ◌-◌, ℕ, List, Some, length, take, drop, refl, sym, ap, subst}
use Rattle.host_traits.specs.Did.{DidBy}
use Rattle.instance_image.specs.Records.{Kept}
use Rattle.instance_image.specs.Access.{IsPutting, PutOutcome}
use Rattle.instance_image.specs.Promised.{PutIsKept}
use Rattle.guest_cli.specs.Works.{instance_of}
use Rattle.guest_cli.proofs.Sealing.{rest_is, put_none, put_refused, put_unsealed, put_step, is_put, fits_err, fits_ok, no_cause, image_stays}
use Rattle.guest_cli.proofs.records.answer_put.Goals as goal

pub returns-in_default-clause-step : goal.returns-in_default-clause-step
returns-in_default-clause-step g c = rw (c.code.ensures, ← c.engine.view_is) (put_none _ _ (g.H.Host.told c.args.host.now) c.args.payload.now _ (ap instance_of c.in_default.is))

pub returns-in-Err-clause-step : goal.returns-in-Err-clause-step
returns-in-Err-clause-step g c =
    let does = fits_err _ c.in-Err.fault (sym c.fits.ensures ∙ c.in-Err.is) in
    rw (c.put_answer.ensures, ← c.engine.view_is, c.in-Some.is, no_cause _ _ _ c.in-Err.fault does)
    (put_refused _ _ (g.H.Host.told c.args.host.now) c.args.payload.now c.uuid_of-uuid.result.0 (take (length c.args.payload.now - 16) (drop 16 c.args.payload.now)) c.uuid_of-uuid.ensures (rest_is c.args.payload.now) _ _ c.in-Err.fault refl does)

pub returns-in_default-nonce-clause-step : goal.returns-in_default-nonce-clause-step
returns-in_default-nonce-clause-step g c =
    let does = fits_ok _ c.in-Ok.field-0 (sym c.fits.ensures ∙ c.in-Ok.is) in
    rw (c.code-in_default-nonce.ensures, c.nonce.ensures.kept c.in_default-nonce.is, ← c.engine.view_is, c.in-Some.is)
    (put_unsealed _ _ (g.H.Host.told c.args.host.now) c.args.payload.now c.uuid_of-uuid.result.0 (take (length c.args.payload.now - 16) (drop 16 c.args.payload.now)) c.uuid_of-uuid.ensures (rest_is c.args.payload.now) _ _ does.0 refl does.1
    (c.nonce.ensures.few c.in_default-nonce.is))

pub returns-clause-step : goal.returns-clause-step
returns-clause-step g c =
    let does = fits_ok _ c.in-Ok.field-0 (sym c.fits.ensures ∙ c.in-Ok.is) in
    let did = subst (λ (n : List ℕ). DidBy (IsPutting c.in-Some.records.image c.in-Some.records.secret c.uuid_of-uuid.result.0 n (take (length c.args.payload.now - 16) (drop 16 c.args.payload.now))) 1 (g.H.Host.told c.args.host.now) (g.H.Host.told c.put-done.new.host)
    (PutOutcome c.in-Some.records.image c.uuid_of-uuid.result.0 (take (length c.args.payload.now - 16) (drop 16 c.args.payload.now)) c.put-done.new.self c.put-done.result)) c.in-Some-nonce.ensures.next c.put-done.ensures.did in
    let same = image_stays c.in-Some.records.image c.uuid_of-uuid.result.0 (take (length c.args.payload.now - 16) (drop 16 c.args.payload.now)) c.put-done.new.self c.put-done.result _ did.outcome in
    rw (c.put_answer-2.ensures, c.in-Some-nonce.ensures.left, ← c.engine.view_is, c.in-Some.is)
    (put_step _ _ _ c.args.payload.now c.uuid_of-uuid.result.0 (take (length c.args.payload.now - 16) (drop 16 c.args.payload.now)) c.uuid_of-uuid.ensures (rest_is c.args.payload.now) _ _ _ refl does.0 does.1 c.in-Some-nonce.ensures.enough c.put-done.result
    (subst (λ (z : Kept). DidBy (IsPutting c.in-Some.records.image c.in-Some.records.secret c.uuid_of-uuid.result.0 (take 12 c.engine.inside.entropy) (take (length c.args.payload.now - 16) (drop 16 c.args.payload.now))) 1 (g.H.Host.told c.args.host.now) (g.H.Host.told c.put-done.new.host)
    (PutOutcome c.in-Some.records.image c.uuid_of-uuid.result.0 (take (length c.args.payload.now - 16) (drop 16 c.args.payload.now)) z c.put-done.result)) same did) refl)

pub returns-clause-served : goal.returns-clause-served
returns-clause-served g c =
    let does = fits_ok _ c.in-Ok.field-0 (sym c.fits.ensures ∙ c.in-Ok.is) in
    let held = subst (λ (n : List ℕ). PutIsKept c.in-Some.records.image c.in-Some.records.secret c.uuid_of-uuid.result.0 n (take (length c.args.payload.now - 16) (drop 16 c.args.payload.now)) (g.H.Host.told c.args.host.now) (g.H.Host.told c.put-done.new.host) c.put-done.result)
    c.in-Some-nonce.ensures.next c.put-done.ensures.held in
    rw (c.put_answer-2.ensures, ← c.engine.view_is, c.in-Some.is)
    (is_put (record { items = c.engine.inside.items.items; image = instance_of (Some c.in-Some.records) }) _ _ c.args.payload.now c.uuid_of-uuid.result.0 (take (length c.args.payload.now - 16) (drop 16 c.args.payload.now)) c.uuid_of-uuid.ensures (rest_is c.args.payload.now) _ (record { fuse = c.engine.inside.server; entropy = c.nonce.new.self; parts = c.put-done.new.self.parts }) _ refl does.0 does.1 c.in-Some-nonce.ensures.enough c.put-done.result held)

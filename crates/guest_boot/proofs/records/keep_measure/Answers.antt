use Rattle.std.proofs.Common.{◌≡◌, ℕ, List, Ok, Err, refl, sym, subst, ◌∙◌}
use Rattle.host_traits.specs.Did.{DidBy}
use Rattle.instance_image.specs.Access.{IsPutting, PutOutcome}
use Rattle.guest_plan.specs.Spelling.{measure_text}
use Rattle.guest_boot.proofs.Recording.{keep_refused, keep_starved, keep_put, keep_unput}
use Rattle.guest_boot.proofs.records.keep_measure.Goals as goal

pub returns-in-Err : goal.returns-in-Err
returns-in-Err g c =
    rw c.put_cause.ensures (keep_refused c.args.image.now c.args.secret.now c.args.uuid.now.0 c.args.entropy.now c.args.measure.now c.requires c.args.image.now c.args.entropy.now c.in-Err.fault _ (sym (rw (c.bytes.ensures, c.measure_text-text.ensures.value) at c.in-Err.ensures)))

pub returns-in_default : goal.returns-in_default
returns-in_default g c =
    keep_starved c.args.image.now c.args.secret.now c.args.uuid.now.0 c.args.entropy.now c.args.measure.now c.args.image.now c.args.entropy.now c.left-left.result _ c.in-Ok.field-0 (sym (rw (c.bytes.ensures, c.measure_text-text.ensures.value) at c.in-Ok.ensures)) c.left-left.ensures (c.in_default.ensures.few refl)

pub returns-in-Ok-put : goal.returns-in-Ok-put
returns-in-Ok-put g c =
    let said : c.bytes-2.result.now ≡ measure_text c.args.measure.now = c.bytes-2.ensures ∙ c.measure_text-text.ensures.value in
    keep_put c.args.image.now c.args.secret.now c.args.uuid.now.0 c.args.entropy.now c.args.measure.now c.in-Some.nonce c.put.new.self c.nonce.new.self _ _ c.in-Ok.field-0
    (sym (rw (c.bytes.ensures, c.measure_text-text.ensures.value) at c.in-Ok.ensures)) c.in-Some.ensures.enough c.in-Some.ensures.next c.in-Ok-put.field-0 c.in-Some.ensures.left
    (subst (λ (t : List ℕ). DidBy (IsPutting c.args.image.now c.args.secret.now c.args.uuid.now.0 c.in-Some.nonce t) 1 (g.H.Host.told c.args.host.now) (g.H.Host.told c.put.new.host) (PutOutcome c.args.image.now c.args.uuid.now.0 t c.put.new.self (Ok c.in-Ok-put.field-0))) said c.in-Ok-put.ensures.did)

pub returns-in-Err-put : goal.returns-in-Err-put
returns-in-Err-put g c =
    let said : c.bytes-2.result.now ≡ measure_text c.args.measure.now = c.bytes-2.ensures ∙ c.measure_text-text.ensures.value in
    rw c.put_cause-in-Err-put.ensures (keep_unput c.args.image.now c.args.secret.now c.args.uuid.now.0 c.args.entropy.now c.args.measure.now c.in-Some.nonce c.put.new.self c.nonce.new.self _ _ c.in-Ok.field-0
    (sym (rw (c.bytes.ensures, c.measure_text-text.ensures.value) at c.in-Ok.ensures)) c.in-Some.ensures.enough c.in-Some.ensures.next c.in-Err-put.fault
    (subst (λ (t : List ℕ). DidBy (IsPutting c.args.image.now c.args.secret.now c.args.uuid.now.0 c.in-Some.nonce t) 1 (g.H.Host.told c.args.host.now) (g.H.Host.told c.put.new.host) (PutOutcome c.args.image.now c.args.uuid.now.0 t c.put.new.self (Err c.in-Err-put.fault))) said c.in-Err-put.ensures.did))

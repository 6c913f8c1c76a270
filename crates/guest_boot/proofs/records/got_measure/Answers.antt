use Rattle.std.proofs.Common.{ℕ, List, sym, subst}
use Rattle.sha_tree.specs.declared.measure.Measure.{Measure}
use Rattle.guest_plan.specs.Measures.{IsMeasureText}
use Rattle.guest_boot.proofs.Recording.{got_failed, got_measure, got_other}
use Rattle.guest_boot.proofs.records.got_measure.Goals as goal

pub returns-in-Err-clause-did : goal.returns-in-Err-clause-did
returns-in-Err-clause-did g c =
    rw c.get_cause.ensures (got_failed c.args.image.now c.args.secret.now c.args.uuid.now.0 _ _ c.in-Some.size (sym c.in-Some.ensures) c.if-size-eq0.false c.in-Err.fault c.in-Err.ensures.did)

pub returns-in-Some-read_measure-clause-did : goal.returns-in-Some-read_measure-clause-did
returns-in-Some-read_measure-clause-did g c =
    got_measure c.args.image.now c.args.secret.now c.args.uuid.now.0 _ _ c.in-Some.size (sym c.in-Some.ensures) c.if-size-eq0.false _ c.in-Ok.ensures.did c.in-Some-read_measure.measure (subst (λ (t : List ℕ). IsMeasureText t c.in-Some-read_measure.measure) c.bytes.ensures.value c.in-Some-read_measure.ensures)

pub returns-clause-did : goal.returns-clause-did
returns-clause-did g c =
    got_other c.args.image.now c.args.secret.now c.args.uuid.now.0 _ _ c.in-Some.size (sym c.in-Some.ensures) c.if-size-eq0.false _ c.in-Ok.ensures.did (subst (λ (t : List ℕ). (m : Measure) → ¬ IsMeasureText t m) c.bytes.ensures.value c.in-None.ensures)

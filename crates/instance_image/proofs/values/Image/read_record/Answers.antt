use Rattle.std.proofs.Common.{◌≡◌, ℕ, ◌+◌, ◌≤◌, ap, arith, subst, Some, inl, inr, Err}
use Rattle.host_traits.specs.Did.{Did}
use Rattle.instance_image.specs.declared.faults.GetFault.TheVariants as gets
use Rattle.instance_image.specs.declared.values.Part.{Part}
use Rattle.instance_image.specs.Records.{Kept, find_part, IsPartAt}
use Rattle.instance_image.specs.Access.{IsGetCall, GetOutcome, AnswerOutcome}
use Rattle.instance_image.proofs.Partitions.{found_is}
use Rattle.instance_image.proofs.Accesses.{get_heard, get_failed, get_unheard, get_roomless}
use Rattle.instance_image.proofs.values.Image.read_record.Goals as goal

pub sectors_of-count-requires : goal.sectors_of-count-requires
sectors_of-count-requires g c =
    let found : find_part c.self.inside.parts.items c.args.uuid.now.0 ≡ Some c.in-Some.part.now = rw c.as_slice.ensures.value at c.in-Some.ensures in
    let lies : IsPartAt c.self.inside.first c.in-Some.part.now = found_is (IsPartAt c.self.inside.first) c.self.inside.parts.items c.args.uuid.now.0 c.in-Some.part.now c.self.invariant.kept found in
    elim lies.payload [ inl none ↦ omega (arith, none) | inr some ↦ some.most ]

pub overflow_add-self-inside : goal.overflow_add-self-inside
overflow_add-self-inside g c =
    let found : find_part c.self.inside.parts.items c.args.uuid.now.0 ≡ Some c.in-Some.part.now = rw c.as_slice.ensures.value at c.in-Some.ensures in
    let lies : IsPartAt c.self.inside.first c.in-Some.part.now = found_is (IsPartAt c.self.inside.first) c.self.inside.parts.items c.args.uuid.now.0 c.in-Some.part.now c.self.invariant.kept found in
    omega (arith, lies.end)

pub text_of-requires-clause-least : goal.text_of-requires-clause-least
text_of-requires-clause-least g c =
    let found : find_part c.self.inside.parts.items c.args.uuid.now.0 ≡ Some c.in-Some.part.now = rw c.as_slice.ensures.value at c.in-Some.ensures in
    let lies : IsPartAt c.self.inside.first c.in-Some.part.now = found_is (IsPartAt c.self.inside.first) c.self.inside.parts.items c.args.uuid.now.0 c.in-Some.part.now c.self.invariant.kept found in
    elim lies.payload [ inl none ↦ absurd (c.if-part-eq0.false none) | inr some ↦ some.least ]

pub text_of-requires-clause-most : goal.text_of-requires-clause-most
text_of-requires-clause-most g c =
    let found : find_part c.self.inside.parts.items c.args.uuid.now.0 ≡ Some c.in-Some.part.now = rw c.as_slice.ensures.value at c.in-Some.ensures in
    let lies : IsPartAt c.self.inside.first c.in-Some.part.now = found_is (IsPartAt c.self.inside.first) c.self.inside.parts.items c.args.uuid.now.0 c.in-Some.part.now c.self.invariant.kept found in
    elim lies.payload [ inl none ↦ omega (arith, none) | inr some ↦ some.most ]

pub returns : goal.returns
returns g c =
    let p : Part = c.in-Some.part.now in
    let k : Kept = record { disk = c.self.inside.disk; first = c.self.inside.first; salt = c.self.inside.salt; parts = c.self.inside.parts.items } in
    let found : find_part k.parts c.args.uuid.now.0 ≡ Some p = rw c.as_slice.ensures.value at c.in-Some.ensures in
    let lies : IsPartAt k.first p = found_is (IsPartAt k.first) k.parts c.args.uuid.now.0 p c.self.invariant.kept found in
    let least : 28 ≤ p.size = elim lies.payload [ inl none ↦ absurd (c.if-part-eq0.false none) | inr some ↦ some.least ] in
    let most : p.size ≤ 65564 = elim lies.payload [ inl none ↦ absurd (c.if-part-eq0.false none) | inr some ↦ some.most ] in
    let makes : AnswerOutcome k.salt c.args.secret.now c.args.uuid.now.0 p c.block_read.new.raw c.text_of.result = rw c.layout.ensures at c.text_of.ensures in
    subst (λ (x : Kept). Did (IsGetCall x c.args.uuid.now.0) 1 (g.H.Host.told c.args.host.now) (g.H.Host.told c.block_read.new.self) (GetOutcome x c.args.secret.now c.args.uuid.now.0 c.text_of.result)) c.self.view_is
    (get_heard k c.args.secret.now c.args.uuid.now.0 p _ c.block_read.new.raw c.text_of.result _ _ found least most (ap (λ (n : ℕ). 1 + n) c.sectors_of-count.ensures.value) c.in-Ok-block_read.ensures.asked makes)

pub returns-in-Err-Failed : goal.returns-in-Err-Failed
returns-in-Err-Failed g c =
    let p : Part = c.in-Some.part.now in
    let k : Kept = record { disk = c.self.inside.disk; first = c.self.inside.first; salt = c.self.inside.salt; parts = c.self.inside.parts.items } in
    let found : find_part k.parts c.args.uuid.now.0 ≡ Some p = rw c.as_slice.ensures.value at c.in-Some.ensures in
    let lies : IsPartAt k.first p = found_is (IsPartAt k.first) k.parts c.args.uuid.now.0 p c.self.invariant.kept found in
    let least : 28 ≤ p.size = elim lies.payload [ inl none ↦ absurd (c.if-part-eq0.false none) | inr some ↦ some.least ] in
    let most : p.size ≤ 65564 = elim lies.payload [ inl none ↦ absurd (c.if-part-eq0.false none) | inr some ↦ some.most ] in
    subst (λ (x : Kept). Did (IsGetCall x c.args.uuid.now.0) 1 (g.H.Host.told c.args.host.now) (g.H.Host.told c.block_read.new.self) (GetOutcome x c.args.secret.now c.args.uuid.now.0 (Err (gets.Failed c.faults-faults.result)))) c.self.view_is
    (get_failed k c.args.secret.now c.args.uuid.now.0 p _ c.faults-faults.result _ _ found least most (ap (λ (n : ℕ). 1 + n) c.sectors_of-count.ensures.value) (rw c.in-Err-Failed.field-0-is at c.in-Err-Failed.ensures.asked) c.faults-faults.ensures)

pub returns-in-Err-Memory : goal.returns-in-Err-Memory
returns-in-Err-Memory g c =
    let p : Part = c.in-Some.part.now in
    let k : Kept = record { disk = c.self.inside.disk; first = c.self.inside.first; salt = c.self.inside.salt; parts = c.self.inside.parts.items } in
    let found : find_part k.parts c.args.uuid.now.0 ≡ Some p = rw c.as_slice.ensures.value at c.in-Some.ensures in
    let lies : IsPartAt k.first p = found_is (IsPartAt k.first) k.parts c.args.uuid.now.0 p c.self.invariant.kept found in
    let least : 28 ≤ p.size = elim lies.payload [ inl none ↦ absurd (c.if-part-eq0.false none) | inr some ↦ some.least ] in
    let most : p.size ≤ 65564 = elim lies.payload [ inl none ↦ absurd (c.if-part-eq0.false none) | inr some ↦ some.most ] in
    subst (λ (x : Kept). Did (IsGetCall x c.args.uuid.now.0) 1 (g.H.Host.told c.args.host.now) (g.H.Host.told c.block_read.new.self) (GetOutcome x c.args.secret.now c.args.uuid.now.0 (Err gets.Memory))) c.self.view_is
    (get_unheard k c.args.secret.now c.args.uuid.now.0 p _ _ found least most (rw c.in-Err-Memory.field-0-is at c.in-Err-Memory.ensures.asked))

pub returns-in-Err : goal.returns-in-Err
returns-in-Err g c =
    let p : Part = c.in-Some.part.now in
    let k : Kept = record { disk = c.self.inside.disk; first = c.self.inside.first; salt = c.self.inside.salt; parts = c.self.inside.parts.items } in
    let found : find_part k.parts c.args.uuid.now.0 ≡ Some p = rw c.as_slice.ensures.value at c.in-Some.ensures in
    let lies : IsPartAt k.first p = found_is (IsPartAt k.first) k.parts c.args.uuid.now.0 p c.self.invariant.kept found in
    let least : 28 ≤ p.size = elim lies.payload [ inl none ↦ absurd (c.if-part-eq0.false none) | inr some ↦ some.least ] in
    let most : p.size ≤ 65564 = elim lies.payload [ inl none ↦ absurd (c.if-part-eq0.false none) | inr some ↦ some.most ] in
    subst (λ (x : Kept). Did (IsGetCall x c.args.uuid.now.0) 1 (g.H.Host.told c.args.host.now) (g.H.Host.told c.args.host.now) (GetOutcome x c.args.secret.now c.args.uuid.now.0 (Err gets.Memory))) c.self.view_is
    (get_roomless k c.args.secret.now c.args.uuid.now.0 p _ found least most)

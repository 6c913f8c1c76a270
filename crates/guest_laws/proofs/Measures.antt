-- The measure that boot gets from a record was sealed.
use Rattle.std.proofs.Common.{false, ℕ, List, None, Ok, refl, subst, sym}
use Rattle.host_traits.specs.Did.{Trace}
use Rattle.instance_image.specs.Access.{IsAnswered}
use Rattle.instance_image.proofs.Promises.{was_sealed}
use Rattle.guest_plan.specs.Measures.{IsMeasureText}
use Rattle.guest_laws.specs.Measures.{MeasuresWereSealed}

pub measures_sealed : MeasuresWereSealed
measures_sealed k secret uuid own m sealings g only =
    let t : Trace = record { heard = own; own = own; failed = 0; before = 0; after = 0; last_failed = None; scarce = false } in
    let answered : IsAnswered k secret uuid t (Ok g.text) = record { failed = refl; part = g.part; has = g.has; bytes = g.bytes; own = g.own_is; makes = g.opens } in
    let w = was_sealed k secret uuid g.text t sealings answered only in
    record { sealing = w.sealing; was = w.was; uuid_is = w.uuid_is; says = subst (λ (x : List ℕ). IsMeasureText x m) (sym w.text_is) g.says }

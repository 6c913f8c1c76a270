use Rattle.std.proofs.Common.{ap, ◌∙◌, subst, Some, [], refl}
use Rattle.host_traits.specs.declared.calls.Said.TheVariants.{Number as SaidNumber}
use Rattle.host_traits.specs.declared.calls.TapeItem.TheVariants.{Number}
use Rattle.host_traits.specs.Told.{answer_of}
use Rattle.host_tape.specs.declared.next.Next.TheVariants as lent
use Rattle.host_tape.proofs.Taken.{IsNext, answers_by, answered_by}
use Rattle.host_tape.proofs.tape.Tape.number.Goals as goal

pub returns-in_default : goal.returns-in_default
returns-in_default c = c.fail.ensures _

pub answer-requires : goal.answer-requires
answer-requires c =
    let n = c.in-Some-Number.number in
    let next = subst (λ o. IsNext o c.args.self.now) (c.in-Some-Number.is ∙ ap Some c.in-Some-Number.field-0-is) c.next.ensures in
    answers_by c.args.self.now c.args.call (lent.Number n) (SaidNumber n) 0 next (ap (λ k. answer_of k (Number n)) c.requires) refl

pub returns : goal.returns
returns c =
    let n = c.in-Some-Number.number in
    let next = subst (λ o. IsNext o c.args.self.now) (c.in-Some-Number.is ∙ ap Some c.in-Some-Number.field-0-is) c.next.ensures in
    answered_by c.args.self.now c.answer.new.self c.args.call [] (lent.Number n) (SaidNumber n) next (ap (λ k. answer_of k (Number n)) c.requires) c.answer.ensures

use Rattle.std.proofs.Common.{ap, ◌∙◌, subst, Some}
use Rattle.host_traits.specs.declared.calls.Said.TheVariants.{Done as SaidDone}
use Rattle.host_traits.specs.declared.calls.TapeItem.TheVariants.{Done}
use Rattle.host_traits.specs.Told.{answer_of}
use Rattle.host_tape.specs.declared.next.Next.TheVariants as lent
use Rattle.host_tape.proofs.Taken.{IsNext, answered_by}
use Rattle.host_tape.proofs.tape.Tape.done.Goals as goal

pub returns-in_default : goal.returns-in_default
returns-in_default c = c.fail.ensures _

pub returns : goal.returns
returns c =
    let next = subst (λ o. IsNext o c.args.self.now) (c.in-Some-Done.is ∙ ap Some c.in-Some-Done.field-0-is) c.next.ensures in
    answered_by c.args.self.now c.answer.new.self c.args.call c.args.given.now lent.Done SaidDone next (ap (λ k. answer_of k Done) c.requires) c.answer.ensures

use Rattle.std.proofs.Common.{◌≡◌, ap, ◌∙◌, sym, subst, Some, [], take, length, arith}
use Rattle.std.proofs.lemmas.List.{length-take}
use Rattle.std.proofs.lemmas.Grind.{common_steps}
use Rattle.host_traits.specs.declared.calls.Said.TheVariants.{Bytes as SaidBytes}
use Rattle.host_traits.specs.declared.calls.TapeItem.TheVariants.{Bytes}
use Rattle.host_traits.specs.Told.{answer_of}
use Rattle.host_tape.specs.declared.next.Next.TheVariants as lent
use Rattle.host_tape.proofs.Taken.{IsNext, answers_by, answered_by}
use Rattle.host_tape.proofs.tape.Tape.hear.Goals as goal

pub returns-in_default-clause-asked : goal.returns-in_default-clause-asked
returns-in_default-clause-asked c = c.fail.ensures _

pub answer-requires : goal.answer-requires
answer-requires c =
    let bytes = c.in-Some-Bytes.bytes in
    let next = subst (λ o. IsNext o c.args.self.now) (c.in-Some-Bytes.is ∙ ap Some c.in-Some-Bytes.field-0-is) c.next.ensures in
    let size : c.min-len.result ≡ length (take c.args.most bytes.now) = simp length-take (omega (arith, c.min-len.ensures)) in
    answers_by c.args.self.now c.args.call (lent.Bytes bytes) (SaidBytes (take c.args.most bytes.now)) c.min-len.result next (ap (λ k. answer_of k (Bytes bytes.now)) c.requires.kind) size

pub returns-clause-asked : goal.returns-clause-asked
returns-clause-asked c =
    let bytes = c.in-Some-Bytes.bytes in
    let next = subst (λ o. IsNext o c.args.self.now) (c.in-Some-Bytes.is ∙ ap Some c.in-Some-Bytes.field-0-is) c.next.ensures in
    let said : c.put.new.self ≡ take c.args.most bytes.now = grind (arith, common_steps) in
    answered_by c.args.self.now c.answer.new.self c.args.call [] (lent.Bytes bytes) (SaidBytes c.put.new.self) next (ap (λ k. answer_of k (Bytes bytes.now)) c.requires.kind ∙ ap (λ x. Some (SaidBytes x)) (sym said)) c.answer.ensures

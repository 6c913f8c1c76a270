use Rattle.guest_cli.proofs.Steps.{message_step, message_served}
use Rattle.guest_cli.proofs.engine.answer_message.Goals as goal

pub returns-clause-step : goal.returns-clause-step
returns-clause-step g c = rw (c.message_frame.ensures, ← c.engine.view_is)
    (message_step _ _ _ _ c.args.message.now c.answer-answer.result.reply _ c.answer-answer.result.cause c.answer-answer.ensures.number c.answer-answer.ensures.did _ _ _ c.answer-answer.ensures.next)

pub returns-clause-served : goal.returns-clause-served
returns-clause-served g c = rw (c.message_frame.ensures, ← c.engine.view_is)
    (message_served _ _ _ _ c.args.message.now c.answer-answer.result.reply _ c.answer-answer.result.cause c.answer-answer.ensures.number c.answer-answer.ensures.did c.answer-answer.ensures.next c.answer-answer.ensures.held)

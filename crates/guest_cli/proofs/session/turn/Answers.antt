use Rattle.std.proofs.Common.{refl, inl}
use Rattle.guest_cli.proofs.Sessions.{turn_written}
use Rattle.guest_cli.proofs.session.turn.Goals as goal

pub returns-in-Err-clause-turn : goal.returns-in-Err-clause-turn
returns-in-Err-clause-turn g c = record {
  sent = _;
  cause = _;
  step = c.answer_frame-answer.ensures.step;
  written = inl (refl, c.in-Err.ensures.err _);
}

pub returns-clause-turn : goal.returns-clause-turn
returns-clause-turn g c =
    turn_written _ _ _ _ _ c.args.at _ _ _ _ c.args.channel c.args.payload.now _ _ c.write_reply.result c.answer_frame-answer.ensures.step (c.in-Ok.ensures.ok _)
    (rw c.served.ensures at c.write_reply.ensures.ok) (rw c.served.ensures at c.write_reply.ensures.err)

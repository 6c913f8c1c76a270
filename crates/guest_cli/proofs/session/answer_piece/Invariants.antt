use Rattle.std.proofs.Common.{◌≡◌, ◌≤◌, ◌++◌, ℕ, List, length}
use Rattle.session_frames.specs.Frames.{IsCutOff}
use Rattle.guest_rules.specs.Machine.{Turn}
use Rattle.guest_cli.specs.Session.{AnsweredOver}
use Rattle.guest_cli.proofs.session.answer_piece.Given as goal

abbrev pub invariant-loop-left : goal.invariant-loop-left
invariant-loop-left g l = record {
  setting : l.engine.setting ≡ l.fn.engine.setting;
  answered : (front : List ℕ) × (turns : List Turn) × (l.piece ≡ front ++ l.left) × AnsweredOver l.fn.engine.setting l.fn.engine.state l.engine.state (g.H.Host.told l.fn.host) (g.H.Host.told l.host)
      (g.K.Sink.holds l.fn.out) (g.K.Sink.holds l.out) (g.L.Sink.holds l.fn.log) (g.L.Sink.holds l.log) l.fn.splitter front l.splitter turns;
  cut : IsCutOff l.splitter.held;
  outs : g.K.Sink.faults l.fn.out ≤ g.K.Sink.faults l.out;
  logs : g.L.Sink.faults l.fn.log ≤ g.L.Sink.faults l.log;
}

abbrev pub decreases-loop-left : goal.decreases-loop-left
decreases-loop-left g l = length l.left

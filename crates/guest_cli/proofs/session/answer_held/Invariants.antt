use Rattle.std.proofs.Common.{◌≡◌, ◌≤◌, List, length}
use Rattle.guest_rules.specs.Machine.{Turn}
use Rattle.guest_cli.specs.Session.{Answered}
use Rattle.guest_cli.proofs.session.answer_held.Given as goal

abbrev pub invariant-loop-channel : goal.invariant-loop-channel
invariant-loop-channel g l = record {
  setting : l.engine.setting ≡ l.fn.engine.setting;
  answered : (turns : List Turn) × Answered l.fn.engine.setting l.fn.engine.state l.engine.state (g.H.Host.told l.fn.host) (g.H.Host.told l.host)
      (g.K.Sink.holds l.fn.out) (g.K.Sink.holds l.out) (g.L.Sink.holds l.fn.log) (g.L.Sink.holds l.log) l.fn.splitter l.splitter turns;
  outs : g.K.Sink.faults l.fn.out ≤ g.K.Sink.faults l.out;
  logs : g.L.Sink.faults l.fn.log ≤ g.L.Sink.faults l.log;
}

abbrev pub decreases-loop-channel : goal.decreases-loop-channel
decreases-loop-channel g l = length l.splitter.held

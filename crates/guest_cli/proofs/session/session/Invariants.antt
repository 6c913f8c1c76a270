use Rattle.std.proofs.Common.{◌≡◌, ◌≤◌, List}
use Rattle.session_frames.specs.Session.{SoFar}
use Rattle.guest_rules.specs.Machine.{Turn}
use Rattle.guest_rules.specs.Run.{Ran, frames_of}
use Rattle.guest_cli.proofs.session.session.Given as goal

abbrev pub invariant-loop-turn : goal.invariant-loop-turn
invariant-loop-turn g l = record {
  setting : l.engine.setting ≡ l.fn.engine.setting;
  answered : (turns : List Turn) × SoFar (g.S.Source.left l.fn.input) (g.S.Source.left l.input) l.splitter l.total (frames_of turns)
      × Ran l.fn.engine.setting l.fn.engine.state l.engine.state (g.H.Host.told l.fn.host) (g.H.Host.told l.host) 0 (g.K.Sink.holds l.fn.out) (g.K.Sink.holds l.out) (g.L.Sink.holds l.fn.log) (g.L.Sink.holds l.log) turns;
  turns : l.turn ≤ l.total;
  most : l.total ≤ 1073741824;
  reads : g.S.Source.faults l.fn.input ≤ g.S.Source.faults l.input;
  outs : g.K.Sink.faults l.fn.out ≤ g.K.Sink.faults l.out;
  logs : g.L.Sink.faults l.fn.log ≤ g.L.Sink.faults l.log;
}

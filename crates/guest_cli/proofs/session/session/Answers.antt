use Rattle.std.proofs.Common.{◌≡◌, ◌-◌, ◌+◌, ◌≤◌, ◌∙◌, refl, [], length, take, drop, arith, rules}
use Rattle.std.proofs.lemmas.List.{length-drop, length-take}
use Rattle.std.specs.Io.KnownBytes.{Consumes}
use Rattle.session_frames.proofs.Sessions.{so_far_not}
use Rattle.session_frames.proofs.Streams.{nothing_is_cut}
use Rattle.guest_rules.proofs.Runs.{ran_none}
use Rattle.guest_cli.proofs.Endings.{cut_piece, ends_stopped_by, ends_inside, ends_past, ends_read, goes_on}
use Rattle.guest_cli.proofs.session.session.Goals as goal

pub loop-turn-init : goal.loop-turn-init
loop-turn-init g c = record {
  setting = refl;
  answered = ([], so_far_not _ _ c.requires nothing_is_cut, ran_none _ _ _ 0 _ _);
  turns = omega arith;
  most = omega arith;
  reads = omega arith;
  outs = omega arith;
  logs = omega arith;
}

pub returns-in-Err-answer_piece-clause-run : goal.returns-in-Err-answer_piece-clause-run
returns-in-Err-answer_piece-clause-run g c =
    let v = c.loop-turn.invariant.answered in
    let room : length c.read.new.out ≡ 4096 = search rules in
    let within : c.min-within.result ≤ c.in-Ok.got = omega (arith, c.min-within.ensures) in
    let few : c.loop-turn.total + length (take c.min-within.result c.read.new.out) ≤ 1073741824 = omega (arith, length-take c.min-within.result c.read.new.out, c.min-within.ensures, c.loop-turn.invariant.most) in
    rw c.ended.ensures (ends_stopped_by _ _ _ _ _ _ _ _ _ _ _ _ _ v.0 v.1 v.2 _ _ _ _ _ _ c.answer_piece.new.splitter (take c.in-Ok.got c.read.new.out) (take c.min-within.result c.read.new.out) _ c.in-Err-answer_piece.stop c.at.result
    c.loop-turn.invariant.setting c.in-Ok.ensures.given.0 (cut_piece c.read.new.out c.min-within.result c.in-Ok.got within) few c.at.ensures c.in-Err-answer_piece.ensures.piece)

pub returns-then-within-got-clause-run : goal.returns-then-within-got-clause-run
returns-then-within-got-clause-run g c =
    let v = c.loop-turn.invariant.answered in
    let room : length c.read.new.out ≡ 4096 = search rules in
    let within : c.min-within.result ≤ c.in-Ok.got = omega (arith, c.min-within.ensures) in
    let w = rw (c.loop-turn.invariant.setting) at c.in-Ok-answer_piece.ensures.piece in
    let piece : length (take c.min-within.result c.read.new.out) ≡ c.min-within.result = omega (arith, length-take c.min-within.result c.read.new.out, c.in-Ok.ensures.most, room) in
    let over : length (drop c.min-within.result (take c.in-Ok.got c.read.new.out)) ≡ c.in-Ok.got - c.min-within.result = omega (arith, length-drop c.min-within.result (take c.in-Ok.got c.read.new.out), length-take c.in-Ok.got c.read.new.out, c.in-Ok.ensures.most, room) in
    ends_past _ _ _ _ _ _ _ _ _ _ _ _ _ v.0 v.1 v.2 _ _ _ _ _ c.answer_piece.new.splitter (take c.in-Ok.got c.read.new.out) (take c.min-within.result c.read.new.out) (drop c.min-within.result (take c.in-Ok.got c.read.new.out)) w.0
    c.in-Ok.ensures.given.0 (cut_piece c.read.new.out c.min-within.result c.in-Ok.got within) (omega (arith, over, c.if-within-got.true)) (omega (arith, piece, c.min-within.ensures, c.if-within-got.true, c.loop-turn.invariant.most)) w.1 w.2

pub loop-turn-preserved : goal.loop-turn-preserved
loop-turn-preserved g c =
    let v = c.loop-turn.invariant.answered in
    let room : length c.read.new.out ≡ 4096 = search rules in
    let w = rw (c.loop-turn.invariant.setting) at c.in-Ok-answer_piece.ensures.piece in
    let same : c.in-Ok.got ≡ c.min-within.result = omega (arith, c.min-within.ensures, c.if-within-got.false) in
    let came : Consumes (g.S.Source.left c.loop-turn.input) (g.S.Source.left c.read.new.self) (take c.min-within.result c.read.new.out) = rw same at c.in-Ok.ensures.given.0 in
    let piece : length (take c.min-within.result c.read.new.out) ≡ c.min-within.result = omega (arith, length-take c.min-within.result c.read.new.out, c.in-Ok.ensures.most, room, same) in
    record {
      setting = c.in-Ok-answer_piece.ensures.setting ∙ c.loop-turn.invariant.setting;
      answered = goes_on _ _ _ _ _ _ _ _ _ _ _ _ _ v.0 v.1 v.2 _ _ _ _ _ c.answer_piece.new.splitter (take c.min-within.result c.read.new.out) _ w.0 came w.1 w.2 (omega (arith, piece));
      turns = omega (arith, c.loop-turn.invariant.turns, c.if-got-eq0.false, same);
      most = omega (arith, c.min-within.ensures, c.loop-turn.invariant.most);
      reads = omega (arith, c.loop-turn.invariant.reads, c.in-Ok.ensures.cause.later);
      outs = omega (arith, c.loop-turn.invariant.outs, c.in-Ok-answer_piece.ensures.out);
      logs = omega (arith, c.loop-turn.invariant.logs, c.in-Ok-answer_piece.ensures.log);
    }

pub returns-in-Err-clause-run : goal.returns-in-Err-clause-run
returns-in-Err-clause-run g c =
    let v = c.loop-turn.invariant.answered in
    ends_read _ _ _ _ _ _ _ _ _ _ _ _ _ v.0 v.1 v.2 _ c.in-Err.ensures.given c.loop-turn.invariant.most

pub returns-then-got-eq0-clause-run : goal.returns-then-got-eq0-clause-run
returns-then-got-eq0-clause-run g c =
    let v = c.loop-turn.invariant.answered in
    let room : length c.read.new.out ≡ 4096 = search rules in
    let none : c.in-Ok.got ≡ 0 = omega (arith, c.if-got-eq0.true) in
    let came : Consumes (g.S.Source.left c.loop-turn.input) (g.S.Source.left c.read.new.self) (take 0 c.read.new.out) = rw none at c.in-Ok.ensures.given.0 in
    let some : length c.loop-turn.splitter.held ≡ 0 → ⊥ = λ e. omega (arith, e, c.len.ensures, c.if-len-eq0.false) in
    ends_inside _ _ _ _ _ _ _ _ _ _ _ _ _ v.0 v.1 v.2 _ c.read.new.out c.at-at.result came (c.in-Ok.ensures.given.1 none (omega (arith, room))) c.loop-turn.invariant.most some c.at-at.ensures

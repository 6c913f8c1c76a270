use Rattle.std.proofs.Common.{◌≡◌, ◌-◌, ◌++◌, ◌∙◌, sym, ap, refl, ℕ, List, [], length, take, drop, arith}
use Rattle.std.proofs.lemmas.List.{take_all, take-append-drop, length-append, length-drop, length-take, append_assoc}
use Rattle.session_frames.proofs.Streams.{cut_fits}
use Rattle.session_frames.proofs.Sessions.{over_bound}
use Rattle.guest_cli.proofs.Sessions.{over_start, over_more}
use Rattle.guest_cli.proofs.Endings.{piece_stopped_by}
use Rattle.guest_cli.proofs.session.answer_piece.Goals as goal

-- a piece is its taken part and the part that is left
all_of_it : (left : List ℕ) (n : ℕ) → take (length left - n) (drop n left) ≡ drop n left
all_of_it left n = take_all (length left - n) (drop n left) (omega (arith, length-drop n left))

parts : (piece front left : List ℕ) (n : ℕ) → piece ≡ front ++ left → piece ≡ (front ++ take n left) ++ take (length left - n) (drop n left)
parts piece front left n e = e ∙ ap (λ (t : List ℕ). front ++ t) (sym (take-append-drop n left)) ∙ sym (append_assoc front (take n left) (drop n left)) ∙ ap (λ (t : List ℕ). (front ++ take n left) ++ t) (sym (all_of_it left n))

pub loop-left-init : goal.loop-left-init
loop-left-init g c = record { setting = refl; answered = ([], [], refl, over_start _ _ _ _ _ _); cut = c.requires.cut; outs = omega arith; logs = omega arith }

pub answer_held-requires : goal.answer_held-requires
answer_held-requires g c =
    let v = c.loop-left.invariant.answered in
    omega (arith, over_bound _ _ _ v.0 v.3.went, ap length v.2, length-append v.0 c.loop-left.left.now, ap length c.feed-taken.ensures.held, length-append c.loop-left.splitter.held (take c.feed-taken.result c.loop-left.left.now), length-take c.feed-taken.result c.loop-left.left.now, c.feed-taken.ensures.at, c.requires.at)

pub loop-left-smaller : goal.loop-left-smaller
loop-left-smaller g c =
    omega (arith, ap length (all_of_it c.loop-left.left.now c.feed-taken.result), length-drop c.feed-taken.result c.loop-left.left.now, cut_fits c.loop-left.splitter.held c.loop-left.invariant.cut, c.feed-taken.ensures.count, c.loop-left-test.true)

pub loop-left-preserved : goal.loop-left-preserved
loop-left-preserved g c =
    let v = c.loop-left.invariant.answered in
    let w = rw (c.loop-left.invariant.setting) at c.in-Ok.ensures.held in
    record {
      setting = c.in-Ok.ensures.setting ∙ c.loop-left.invariant.setting;
      answered = (
        v.0 ++ take c.feed-taken.result c.loop-left.left.now,
        _,
        parts c.args.piece.now v.0 c.loop-left.left.now c.feed-taken.result v.2,
        over_more _ _ _ _ _ _ _ _ _ _ _ c.feed-taken.new.self v.0 (take c.feed-taken.result c.loop-left.left.now) v.1 v.3 c.feed-taken.ensures.held c.feed-taken.ensures.at _ _ _ _ _ w.0 w.1,
      );
      cut = w.2;
      outs = omega (arith, c.loop-left.invariant.outs, c.in-Ok.ensures.out);
      logs = omega (arith, c.loop-left.invariant.logs, c.in-Ok.ensures.log);
    }

pub returns-in-Err-clause-piece : goal.returns-in-Err-clause-piece
returns-in-Err-clause-piece g c =
    let v = c.loop-left.invariant.answered in
    piece_stopped_by _ _ _ _ _ _ _ _ _ _ _ _ _ _ _ _ c.feed-taken.new.self _ c.args.piece.now v.0 (take c.feed-taken.result c.loop-left.left.now) (take (length c.loop-left.left.now - c.feed-taken.result) (drop c.feed-taken.result c.loop-left.left.now)) v.1 c.in-Err.stop
    c.loop-left.invariant.setting v.3 c.feed-taken.ensures.held c.feed-taken.ensures.at (parts c.args.piece.now v.0 c.loop-left.left.now c.feed-taken.result v.2) c.in-Err.ensures.held

use Rattle.std.proofs.Common.{◌≡◌, ◌-◌, ◌++◌, ◌∙◌, List, ℕ, length, take, drop, ap, sym, append_assoc, arith}
use Rattle.std.proofs.lemmas.List.{take-append-drop, length-drop}
use Rattle.std.proofs.Math.Seq.{take-length}
use Rattle.session_frames.proofs.Streams.{cut_fits}
use Rattle.frame_text.proofs.dumping.feed.Goals as goal

pub returns-clause-whole : goal.returns-clause-whole
returns-clause-whole c =
    let n = c.feed-count.result in
    let rest = c.args.rest.now in
    let all : take (length rest - n) (drop n rest) ≡ drop n rest = ap (λ (m : ℕ). take m (drop n rest)) (sym (length-drop n rest)) ∙ take-length (drop n rest) in
    ap (λ (t : List ℕ). t ++ take (length rest - n) (drop n rest)) c.feed-count.ensures.held
    ∙ append_assoc c.args.splitter.now.held (take n rest) (take (length rest - n) (drop n rest))
    ∙ ap (λ (t : List ℕ). c.args.splitter.now.held ++ (take n rest ++ t)) all
    ∙ ap (λ (t : List ℕ). c.args.splitter.now.held ++ t) (take-append-drop n rest)

pub returns-clause-less : goal.returns-clause-less
returns-clause-less c = omega (arith, c.feed-count.ensures.count, c.requires.some, cut_fits c.args.splitter.now.held c.requires.cut, length-drop c.feed-count.result c.args.rest.now)

use Rattle.std.proofs.Common.{◌<◌, ℕ, All, get_or, inl, ◌∙◌, arith, rules}
use Rattle.std.proofs.lemmas.List.Elements.{All-from_get_or}
use Rattle.gpt.proofs.Pieces.{IsByte}
use Rattle.gpt.proofs.CopyLaws.{gpt_of-sized, found_is, bounded_is, gpt_only}
use Rattle.gpt.proofs.reading.read_gpt.Goals as goal

pub returns-in-Ok-clause-found : goal.returns-in-Ok-clause-found
returns-in-Ok-clause-found c =
    let head_at : (i : ℕ) → get_or c.args.head.now i 0 < 256 = λ i. search rules in
    let tail_at : (i : ℕ) → get_or c.args.tail.now i 0 < 256 = λ i. search rules in
    let head : All IsByte c.args.head.now = All-from_get_or IsByte c.args.head.now 0 (λ i lt. head_at i) in
    let tail : All IsByte c.args.tail.now = All-from_get_or IsByte c.args.tail.now 0 (λ i lt. tail_at i) in
    found_is c.args.head.now c.args.tail.now c.args.sectors c.in-Ok.answer c.requires.head c.requires.tail head tail
    (c.in-Ok.ensures ∙ gpt_of-sized c.args.head.now c.args.tail.now c.args.sectors (omega arith) (omega arith))

pub returns-in-Ok-clause-only : goal.returns-in-Ok-clause-only
returns-in-Ok-clause-only c =
    let head_at : (i : ℕ) → get_or c.args.head.now i 0 < 256 = λ i. search rules in
    let head : All IsByte c.args.head.now = All-from_get_or IsByte c.args.head.now 0 (λ i lt. head_at i) in
    λ t g. inl (c.in-Ok.ensures ∙ gpt_of-sized c.args.head.now c.args.tail.now c.args.sectors (omega arith) (omega arith)
    ∙ gpt_only c.args.head.now c.args.tail.now c.args.sectors t c.requires.head head g)

pub returns-in-Ok-clause-bounded : goal.returns-in-Ok-clause-bounded
returns-in-Ok-clause-bounded c =
    bounded_is c.args.head.now c.args.tail.now c.args.sectors c.in-Ok.answer (returns-in-Ok-clause-found c)

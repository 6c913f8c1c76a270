use Rattle.std.proofs.Common.{◌∙◌, ap, sym, take, List, ℕ, arith}
use Rattle.aes_core.specs.Aes.{key_schedule, round_key}
use Rattle.aes_core.proofs.Words.{take-key_words}
use Rattle.aes_core.proofs.Aes256.new.Goals as goal

pub returns : goal.returns
returns c =
    ap (take 32) (c.prepared.ensures.inner ∙ c.expanded.ensures) ∙ (take-key_words c.args.key.now 52 (omega arith)).1

pub invariant_of-result : goal.invariant_of-result
invariant_of-result c =
    let all = c.prepared.ensures.inner ∙ c.expanded.ensures in
    let key = ap (take 32) all ∙ (take-key_words c.args.key.now 52 (omega arith)).1 in
    (all ∙ ap key_schedule (sym key), c.prepared.ensures.last ∙ ap (λ (l : List ℕ). round_key l 14) (sym c.prepared.ensures.inner))

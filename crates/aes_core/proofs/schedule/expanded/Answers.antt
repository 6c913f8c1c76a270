use Rattle.std.proofs.Common.{rules, ◌≡◌, ◌+◌, ◌*◌, ◌∙◌, length, arith}
use Rattle.std.proofs.lemmas.List.{places, take_at}
use Rattle.std.proofs.lemmas.Slice.{take-put_mid}
use Rattle.aes_core.specs.Aes.{key_words}
use Rattle.aes_core.proofs.Words.{key_words_more}
use Rattle.aes_core.proofs.schedule.expanded.Goals as goal

pub loop-n-init : goal.loop-n-init
unfolding key_words
loop-n-init c = (search (rules, places), take_at _ _ 32 (omega arith) ∙ c.copy_from_slice.ensures.after)

pub loop-n-preserved : goal.loop-n-preserved
loop-n-preserved c =
    let keys = c.loop-n.keys in
    let n = c.loop-n.n in
    let w = c.copy_from_slice-in-loop-n.new.self in
    let is = c.copy_from_slice-in-loop-n.ensures.after ∙ c.next_word-word.ensures in
    let four : length w ≡ 4 = omega arith in (
      search (rules, places),
      take-put_mid (4 * (n + 8)) _ keys w (4 * (n + 1 + 8)) (omega arith) (omega arith)
          ∙ key_words_more c.args.key.now keys w n c.loop-n.invariant.1 is,
    )

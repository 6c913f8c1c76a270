use Rattle.std.proofs.Common.{◌≡◌, ◌∙◌, ap, arith, refl, ℕ}
use Rattle.aes_gcm.specs.Parts.{shifts}
use Rattle.aes_gcm.proofs.Linear.{shifts-next}
use Rattle.aes_gcm.proofs.ghash.shift_word.Goals as goal

pub loop-n-init : goal.loop-n-init
unfolding shifts
loop-n-init c = refl

pub loop-n-preserved : goal.loop-n-preserved
loop-n-preserved c = shifts-next c.loop-n.n c.args.h c.loop-n.v c.shift-v.result c.loop-n.invariant c.shift-v.ensures

pub returns : goal.returns
returns c =
    let all : c.loop-n.n ≡ 32 = omega (arith, c.loop-n.auto.n-end) in
    c.loop-n.invariant ∙ ap (λ (k : ℕ). shifts k c.args.h) all

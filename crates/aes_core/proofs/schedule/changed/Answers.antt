use Rattle.std.proofs.Common.{arith, ◌≡◌, ◌/◌, ◌-◌, ◌%◌, ◌∷◌, [], bit_xor}
use Rattle.aes_core.proofs.Words.{power_entry}
use Rattle.aes_core.proofs.schedule.changed.Goals as goal

pub returns-then-i-eq0 : goal.returns-then-i-eq0
returns-then-i-eq0 c =
    let zero_rest : c.args.i % 8 ≡ 0 = c.if-i-eq0.true in
    rw (zero_rest) (λ j. bit_xor (c.sub.ensures j) (power_entry (c.args.i / 8 - 1) (omega arith) j) ∷ bit_xor (c.sub-then-i-eq0.ensures j) 0
    ∷ bit_xor (c.sub-then-i-eq0-2.ensures j) 0 ∷ bit_xor (c.sub-then-i-eq0-3.ensures j) 0 ∷ [])

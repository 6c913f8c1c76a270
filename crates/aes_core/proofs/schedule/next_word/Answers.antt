use Rattle.std.proofs.Common.{◌*◌, ◌-◌, ap, arith}
use Rattle.aes_core.specs.Aes.{next_word, quad, xor_bytes}
use Rattle.aes_core.proofs.Words.{quad_of}
use Rattle.aes_core.proofs.schedule.next_word.Goals as goal

pub returns : goal.returns
unfolding next_word
returns c =
    let keys = c.args.keys.now in
    ap (xor_bytes (quad keys (4 * (c.args.i - 8)))) (quad_of c.changed-added.result _ c.changed-added.ensures (omega arith))

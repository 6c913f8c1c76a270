use Rattle.std.proofs.Common.{◌*◌}
use Rattle.aes_gcm.specs.Parts.{IsUnder}
use Rattle.aes_gcm.proofs.gcm.add_pairs.Given as goal

abbrev pub invariant-pairs : goal.invariant-pairs
invariant-pairs l = IsUnder l.aes l.nonce l.fn.text l.text (2 * l.p)

use Rattle.aes_gcm.specs.Parts.{IsUnder}
use Rattle.aes_gcm.proofs.gcm.add_stream.Given as goal

abbrev pub invariant-loop-i : goal.invariant-loop-i
invariant-loop-i l = IsUnder l.aes l.nonce l.fn.text l.text l.i

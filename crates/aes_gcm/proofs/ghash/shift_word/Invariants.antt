use Rattle.std.proofs.Common.{◌≡◌}
use Rattle.aes_gcm.specs.Parts.{shifts}
use Rattle.aes_gcm.proofs.ghash.shift_word.Given as goal

abbrev pub invariant-loop-n : goal.invariant-loop-n
invariant-loop-n l = l.v ≡ shifts l.n l.h

use Rattle.std.proofs.Common.{◌≡◌, ◌+◌, ◌*◌, length, take}
use Rattle.aes_core.specs.Aes.{key_words}
use Rattle.aes_core.proofs.schedule.expanded.Given as goal

abbrev pub invariant-loop-n : goal.invariant-loop-n
invariant-loop-n l = (length l.keys ≡ 240) × (take (4 * (l.n + 8)) l.keys ≡ key_words l.key l.n)

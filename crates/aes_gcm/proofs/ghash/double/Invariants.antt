use Rattle.std.proofs.Common.{◌≡◌, ℕ, ◌+◌, ◌<◌, slice_index, bit_xor}
use Rattle.aes_gcm.proofs.ghash.double.Given as goal

abbrev pub invariant-loop-k : goal.invariant-loop-k
invariant-loop-k l = ((j : ℕ) → j < l.count → slice_index l.table j ≡ slice_index l.fn.table j)
    × ((j : ℕ) → j < l.k → slice_index l.table (l.count + j) ≡ bit_xor l.product (slice_index l.fn.table j))

use Rattle.std.proofs.Common.{◌≡◌, ℕ, ◌^◌, ◌<◌, slice_index}
use Rattle.aes_gcm.specs.Ghash.{product_steps}
use Rattle.aes_gcm.proofs.ghash.byte_products.Given as goal

abbrev pub invariant-loop-bit : goal.invariant-loop-bit
invariant-loop-bit l = (k : ℕ) → k < 2 ^ l.bit → slice_index l.table k ≡ product_steps 8 k l.h

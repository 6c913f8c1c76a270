use Rattle.std.proofs.Common.{◌≡◌, sym, arith}
use Rattle.std.proofs.lemmas.Nat.{one_shl}
use Rattle.aes_gcm.proofs.Linear.{doubled, steps-none_of}
use Rattle.aes_gcm.proofs.ghash.byte_products.Goals as goal

pub loop-bit-init : goal.loop-bit-init
loop-bit-init c = λ k lt.
    let none : k ≡ 0 = omega arith in
    rw none (sym (steps-none_of c.args.h))

pub loop-bit-preserved : goal.loop-bit-preserved
loop-bit-preserved c =
    let bit = c.loop-bit.bit in
    doubled 8 c.args.h c.product_of-product.result bit _ _ c.loop-bit.table c.double.new.table
    (one_shl bit 128 (omega arith)) (one_shl bit 64 (omega arith))
    c.loop-bit.invariant c.product_of-product.ensures c.double.ensures.below c.double.ensures.above

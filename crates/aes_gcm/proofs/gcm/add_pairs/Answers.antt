use Rattle.std.proofs.Common.{◌≡◌, ◌+◌, ◌*◌, ◌/◌, ◌∙◌, ℕ, length, ap, refl, arith}
use Rattle.aes_core.specs.Aes.{cipher}
use Rattle.aes_gcm.specs.Gcm.{counter_block, key_stream}
use Rattle.aes_gcm.proofs.Streams.{IsUnder-at, IsUnder-count}
use Rattle.aes_gcm.proofs.gcm.add_pairs.Goals as goal

pub pairs-init : goal.pairs-init
unfolding key_stream
pairs-init c = (refl, refl)

pub pairs-preserved : goal.pairs-preserved
pairs-preserved c =
    let k = c.args.aes.now in
    let n = c.args.nonce.now in
    let p = c.pairs.p in
    let xs = c.args.text.now in
    let first = c.two_of_stream.result.0 in
    let second = c.two_of_stream.result.1 in
    let one : length first ≡ 16 = omega arith in
    let two : length second ≡ 16 = omega arith in
    let three : 2 * p + 2 + 1 ≡ 2 * p + 1 + 2 = omega arith in
    let next = c.two_of_stream.ensures.second ∙ ap (λ (i : ℕ). cipher k (counter_block n i)) three in
    IsUnder-count k n xs _ (2 * p + 1 + 1) (2 * (p + 1)) (omega arith)
    (IsUnder-at k n xs _ c.xor_whole-in-pairs.new.part second (2 * p + 1) (32 * p + 16) (32 * p + 32) (omega arith)
    (IsUnder-at k n xs c.pairs.text c.xor_whole.new.part first (2 * p) (32 * p) (32 * p + 16) (omega arith)
    c.pairs.invariant one (omega arith) (omega arith) c.two_of_stream.ensures.first c.xor_whole.ensures)
    two (omega arith) (omega arith) next c.xor_whole-in-pairs.ensures)

pub returns : goal.returns
returns c =
    IsUnder-count c.args.aes.now c.args.nonce.now c.args.text.now c.pairs.text (2 * c.pairs.p) (2 * (length c.args.text.now / 32))
    (omega (arith, c.pairs.auto.p-end)) c.pairs.invariant

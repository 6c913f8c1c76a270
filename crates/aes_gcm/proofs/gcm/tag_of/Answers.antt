use Rattle.std.proofs.Common.{◌≡◌, ◌∙◌, ◌++◌, length, ap, arith}
use Rattle.std.specs.Int.{w128, from_be_bytes, to_be_bytes}
use Rattle.aes_core.specs.Aes.{cipher, xor_bytes}
use Rattle.aes_gcm.specs.Ghash.{block_count, ghash, ghash_from, padded}
use Rattle.aes_gcm.specs.Gcm.{hash_key, tag}
use Rattle.aes_gcm.proofs.Streams.{ghash-parts}
use Rattle.aes_gcm.proofs.gcm.tag_of.Goals as goal

pub returns : goal.returns
unfolding tag
returns c =
    let a = c.args.head.now in
    let t = c.args.text.now in
    let h = c.from_be_bytes.result in
    let holds = c.tables_of-tables.ensures in
    let l = c.lengths_of.result in
    let el = c.lengths_of.ensures in
    let long : length l ≡ 16 = omega arith in
    let key : h ≡ hash_key c.args.aes.now = c.from_be_bytes.ensures ∙ ap (from_be_bytes w128) c.encrypt_two.ensures.first in
    let mask = c.encrypt_two.ensures.second ∙ ap (cipher c.args.aes.now) c.counter-mask.ensures in
    let e1 = c.absorb-after_head.ensures h holds in
    let e2 = c.absorb-after_text.ensures h holds ∙ (λ i. ghash_from h (e1 i) (padded t) (block_count (length t))) in
    let e3 = c.absorb-hash.ensures h holds ∙ (λ i. ghash_from h (e2 i) (padded l) (block_count (length l))) in
    let e4 = e3 ∙ ghash-parts h a t l long ∙ (λ i. ghash (key i) (padded a ++ padded t ++ el i)) in
    c.xor_in.ensures ∙ (λ i. xor_bytes ((c.to_be_bytes-result.ensures ∙ ap (to_be_bytes w128) e4) i) (mask i))

use Rattle.std.proofs.Common.{◌≡◌, ◌≢◌, ◌∙◌, ◌++◌, sym, refl, arith, rules}
use Rattle.aes_gcm.specs.Gcm.{ciphertext, tag, under_stream}
use Rattle.aes_gcm.proofs.Streams.{opens_tag, stream_twice}
use Rattle.aes_gcm.proofs.gcm.open_in_place.Goals as goal

pub returns-then-ne-clause-opened : goal.returns-then-ne-clause-opened
returns-then-ne-clause-opened c =
    let n = c.args.nonce.now in
    let a = c.args.head.now in
    let x = c.args.text.now in
    let apart : c.tag_of-computed.result ≢ c.args.tag.now = search rules in (
      search rules,
      λ op. absurd (apart (c.tag_of-computed.ensures ∙ (λ i. tag (c.new-aes.ensures i) n a x)
          ∙ opens_tag c.args.key.now n a x c.args.tag.now x (omega arith) (omega arith) op)),
    )

pub returns-then-ne-clause-nothing : goal.returns-then-ne-clause-nothing
returns-then-ne-clause-nothing c = λ t op.
    let n = c.args.nonce.now in
    let a = c.args.head.now in
    let x = c.args.text.now in
    let apart : c.tag_of-computed.result ≢ c.args.tag.now = search rules in
    apart (c.tag_of-computed.ensures ∙ (λ i. tag (c.new-aes.ensures i) n a x)
    ∙ opens_tag c.args.key.now n a x c.args.tag.now t (omega arith) (omega arith) op)

pub returns-clause-opened : goal.returns-clause-opened
unfolding ciphertext
returns-clause-opened c =
    let k = c.args.key.now in
    let key = c.new-aes.ensures in
    let n = c.args.nonce.now in
    let a = c.args.head.now in
    let t = c.args.text.now in
    let clear = c.add_stream.ensures ∙ (λ i. under_stream (key i) n t) in
    let back = (λ i. under_stream k n (clear i)) ∙ stream_twice k n t (omega arith) in
    let same : c.tag_of-computed.result ≡ c.args.tag.now = search rules in (
      λ ok i. back i ++ ((λ j. tag k n a (back j)) ∙ sym (λ j. tag (key j) n a t) ∙ sym c.tag_of-computed.ensures ∙ same) i,
      λ op. refl,
    )

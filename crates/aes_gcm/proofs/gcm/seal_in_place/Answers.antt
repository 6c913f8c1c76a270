use Rattle.std.proofs.Common.{◌∙◌, ◌++◌}
use Rattle.aes_gcm.specs.Gcm.{ciphertext, tag, under_stream}
use Rattle.aes_gcm.proofs.gcm.seal_in_place.Goals as goal

pub returns-clause-sealed : goal.returns-clause-sealed
unfolding ciphertext
returns-clause-sealed c =
    let key = c.new-aes.ensures in
    let n = c.args.nonce.now in
    let a = c.args.head.now in
    let text = c.add_stream.ensures ∙ (λ i. under_stream (key i) n c.args.text.now) in
    λ i. text i ++ (c.tag_of.ensures ∙ (λ j. tag (key j) n a (text j))) i

pub returns-clause-ciphertext : goal.returns-clause-ciphertext
unfolding ciphertext
returns-clause-ciphertext c = c.add_stream.ensures ∙ (λ i. under_stream (c.new-aes.ensures i) c.args.nonce.now c.args.text.now)

pub returns-clause-tag : goal.returns-clause-tag
returns-clause-tag c = c.tag_of.ensures ∙ (λ i. tag (c.new-aes.ensures i) c.args.nonce.now c.args.head.now c.add_stream.new.text)

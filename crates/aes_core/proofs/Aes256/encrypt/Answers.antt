use Rattle.std.proofs.Common.{◌∙◌, ap, List, ℕ}
use Rattle.aes_core.specs.Aes.{cipher, cipher_with, key_schedule}
use Rattle.aes_core.proofs.Aes256.encrypt.Goals as goal

pub returns : goal.returns
unfolding cipher
returns c =
    let b = c.args.block.now in
    c.encrypted.ensures ∙ ap (λ (ks : List ℕ). cipher_with ks b) (c.self.invariant.0 ∙ ap key_schedule c.self.view_is)

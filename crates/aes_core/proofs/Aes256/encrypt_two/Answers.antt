use Rattle.std.proofs.Common.{◌∙◌, ap, List, ℕ}
use Rattle.aes_core.specs.Aes.{cipher, cipher_with, key_schedule}
use Rattle.aes_core.proofs.Aes256.encrypt_two.Goals as goal

pub returns-clause-first : goal.returns-clause-first
unfolding cipher
returns-clause-first c =
    let b = c.args.first.now in
    c.encrypted_two.ensures.first ∙ ap (λ (ks : List ℕ). cipher_with ks b) (c.self.invariant.0 ∙ ap key_schedule c.self.view_is)

pub returns-clause-second : goal.returns-clause-second
unfolding cipher
returns-clause-second c =
    let b = c.args.second.now in
    c.encrypted_two.ensures.second ∙ ap (λ (ks : List ℕ). cipher_with ks b) (c.self.invariant.0 ∙ ap key_schedule c.self.view_is)

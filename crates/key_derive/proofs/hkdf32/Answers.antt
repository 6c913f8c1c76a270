use Rattle.std.proofs.Common.{List, ℕ, [], ◌∷◌, ◌++◌, ◌≡◌, ◌∙◌, ap, length, sym, take, arith}
use Rattle.std.proofs.lemmas.List.{take_all}
use Rattle.key_derive.specs.Derive.{expand_block, expand_blocks, hkdf, hmac}
use Rattle.key_derive.proofs.hkdf32.Goals as goal

pub returns : goal.returns
unfolding hkdf expand_blocks expand_block
returns c =
    let info = c.args.info.now in
    let first = c.hmac_of_parts.ensures ∙ ap (λ (k : List ℕ). hmac k (info ++ 1 ∷ [])) c.hmac-extracted.ensures in
    let long : length c.hmac_of_parts.result ≡ 32 = omega arith in
    sym (take_all 32 c.hmac_of_parts.result (omega arith)) ∙ ap (take 32) first

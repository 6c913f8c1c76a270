use Rattle.std.proofs.Common.{ℕ, List, ◌∙◌, ap, bit_xor}
use lib.Lanes.{zip2}
use Rattle.aes_core.specs.Inner.{outer}
use Rattle.aes_core.proofs.Scalars.{outer-zip2}
use Rattle.aes_core.proofs.Mixing.{zip2_is}
use Rattle.aes_core.proofs.lanes.first_round.Goals as goal

pub returns : goal.returns
returns c =
    outer-zip2 c.inner.result c.args.key ∙ ap (λ (l : List ℕ). zip2 bit_xor l (outer c.args.key)) c.inner.ensures ∙ zip2_is c.args.x (outer c.args.key)

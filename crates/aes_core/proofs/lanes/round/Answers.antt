use Rattle.std.proofs.Common.{◌≡◌, ℕ, List, ◌∙◌, ap, bit_xor, length}
use Rattle.std.proofs.lemmas.List.{length-map}
use lib.Lanes.{zip2}
use Rattle.aes_core.specs.Aes.{mix_columns, shift_rows, sub_bytes}
use Rattle.aes_core.specs.Inner.{outer, outer_byte}
use Rattle.aes_core.proofs.Scalars.{outer-zip2}
use Rattle.aes_core.proofs.Mixing.{zip2_is}
use Rattle.aes_core.proofs.lanes.round.Goals as goal

pub returns : goal.returns
returns c =
    let long : length (outer c.args.y) ≡ 16 = length-map c.args.y outer_byte ∙ c.fits-y.0 in
    outer-zip2 c.mixed.result c.args.key
    ∙ ap (λ (l : List ℕ). zip2 bit_xor l (outer c.args.key)) (c.mixed.ensures (outer c.args.y) long c.substituted.ensures.entries c.substituted.ensures.doubles)
    ∙ zip2_is (mix_columns (shift_rows (sub_bytes (outer c.args.y)))) (outer c.args.key)

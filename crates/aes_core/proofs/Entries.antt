-- The S-box: a test over the whole table, computed once, and the rule at each entry.
use Rattle.std.proofs.Common.{◌≡◌, ℕ, ◌<◌, List, get_or, map, refl, ap, sym, ◌∙◌, arith}
use Rattle.std.specs.List.{range_with_len}
use Rattle.std.proofs.lemmas.List.FromFn.{get_or-map-range_with_len}
use Rattle.aes_core.specs.Field.{product_bits, inverse, affine_bits, sbox}
use Rattle.aes_core.specs.declared.tables.TheConstants.{SBOX}

sbox_all : map sbox (range_with_len 0 256) ≡ SBOX
unfolding product_bits inverse affine_bits sbox
sbox_all = refl

pub sbox_entry : (x : ℕ) → x < 256 → get_or SBOX x 0 ≡ sbox x
sbox_entry x lt = ap (λ (t : List ℕ). get_or t x 0) (sym sbox_all) ∙ get_or-map-range_with_len sbox 0 256 x x 0 lt (omega arith)

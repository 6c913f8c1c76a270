use Rattle.std.proofs.Common.{◌∙◌, sym, bit_xor}
use Rattle.std.proofs.lemmas.Simd.{map-map}
use Rattle.aes_core.specs.Field.{sbox}
use Rattle.aes_core.specs.Inner.{entry, first_root, last_entry, outer_byte, second_root}
use Rattle.aes_core.specs.declared.lanes.TheConstants.{FIRST, SECOND}
use Rattle.aes_core.proofs.Looks.{places_of, same_map, splat_more, summed, then_looked}
use Rattle.aes_core.proofs.Scalars.{first_root_places, last_entry-all, second_root_places}
use Rattle.aes_core.proofs.lanes.last_entries.Goals as goal

pub look-a-requires : goal.look-a-requires
look-a-requires c = places_of first_root first_root_places c.args.y _ c.fits-y.1 c.roots.ensures.first

pub look-b-requires : goal.look-b-requires
look-b-requires c = places_of second_root second_root_places c.args.y _ c.fits-y.1 c.roots.ensures.second

pub returns : goal.returns
returns c =
    let x = c.args.y in
    let a = then_looked FIRST first_root x _ _ c.look-a.ensures c.roots.ensures.first in
    let b = then_looked SECOND second_root x _ _ c.look-b.ensures c.roots.ensures.second in
    let ab = summed (λ b. entry FIRST (first_root b)) (λ b. entry SECOND (second_root b)) x _ _ a b in
    let all = splat_more bit_xor (λ b. bit_xor (entry FIRST (first_root b)) (entry SECOND (second_root b))) x _ 0x63 c.fits-y.0 ab in
    all ∙ same_map last_entry (λ b. sbox (outer_byte b)) last_entry-all x c.fits-y.1 ∙ sym (map-map sbox outer_byte x)

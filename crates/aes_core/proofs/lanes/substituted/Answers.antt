use Rattle.std.proofs.Common.{◌∙◌, ap, sym, bit_xor}
use Rattle.std.proofs.lemmas.Simd.{map-map}
use Rattle.aes_core.specs.Field.{sbox}
use Rattle.aes_core.specs.Inner.{entry, first_root, inner_double, inner_entry, outer, outer_byte, second_root, twice}
use Rattle.aes_core.specs.declared.lanes.TheConstants.{FIRST_INNER, SECOND_INNER, FIRST_TWICE_INNER, SECOND_TWICE_INNER}
use Rattle.aes_core.proofs.Looks.{places_of, same_map, splat_more, summed, then_looked}
use Rattle.aes_core.proofs.Scalars.{first_root_places, inner_double-all, inner_entry-all, second_root_places}
use Rattle.aes_core.proofs.lanes.substituted.Goals as goal

pub look-a-requires : goal.look-a-requires
look-a-requires c = places_of first_root first_root_places c.args.y _ c.fits-y.1 c.roots.ensures.first

pub look-b-requires : goal.look-b-requires
look-b-requires c = places_of second_root second_root_places c.args.y _ c.fits-y.1 c.roots.ensures.second

pub look-c-requires : goal.look-c-requires
look-c-requires c = places_of first_root first_root_places c.args.y _ c.fits-y.1 c.roots.ensures.first

pub look-d-requires : goal.look-d-requires
look-d-requires c = places_of second_root second_root_places c.args.y _ c.fits-y.1 c.roots.ensures.second

pub returns-clause-entries : goal.returns-clause-entries
returns-clause-entries c =
    let x = c.args.y in
    let a = then_looked FIRST_INNER first_root x _ _ c.look-a.ensures c.roots.ensures.first in
    let b = then_looked SECOND_INNER second_root x _ _ c.look-b.ensures c.roots.ensures.second in
    let ab = summed (λ b. entry FIRST_INNER (first_root b)) (λ b. entry SECOND_INNER (second_root b)) x _ _ a b in
    let all = splat_more bit_xor (λ b. bit_xor (entry FIRST_INNER (first_root b)) (entry SECOND_INNER (second_root b))) x _ 120 c.fits-y.0 ab in
    ap outer all ∙ map-map outer_byte inner_entry x ∙ same_map (λ b. outer_byte (inner_entry b)) (λ b. sbox (outer_byte b)) inner_entry-all x c.fits-y.1 ∙ sym (map-map sbox outer_byte x)

pub returns-clause-doubles : goal.returns-clause-doubles
returns-clause-doubles c =
    let x = c.args.y in
    let a = then_looked FIRST_TWICE_INNER first_root x _ _ c.look-c.ensures c.roots.ensures.first in
    let b = then_looked SECOND_TWICE_INNER second_root x _ _ c.look-d.ensures c.roots.ensures.second in
    let ab = summed (λ b. entry FIRST_TWICE_INNER (first_root b)) (λ b. entry SECOND_TWICE_INNER (second_root b)) x _ _ a b in
    let all = splat_more bit_xor (λ b. bit_xor (entry FIRST_TWICE_INNER (first_root b)) (entry SECOND_TWICE_INNER (second_root b))) x _ 19 c.fits-y.0 ab in
    ap outer all ∙ map-map outer_byte inner_double x ∙ same_map (λ b. outer_byte (inner_double b)) (λ b. twice (outer_byte b)) inner_double-all x c.fits-y.1 ∙ sym (map-map twice outer_byte x)

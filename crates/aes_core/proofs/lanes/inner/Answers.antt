use Rattle.std.proofs.Common.{◌∙◌, ap, bit_and}
use Rattle.std.proofs.lemmas.Simd.{zip2_splat, map-map}
use Rattle.std.proofs.lemmas.List.{map-id}
use Rattle.aes_core.specs.Inner.{entry, high, inner_byte, low, outer, outer_byte}
use Rattle.aes_core.specs.declared.lanes.TheConstants.{IN_LOW, IN_HIGH}
use Rattle.aes_core.proofs.Looks.{down, places_of, same_map, summed, then_looked}
use Rattle.aes_core.proofs.Scalars.{high_places, inner_byte-all, low_places}
use Rattle.aes_core.proofs.lanes.inner.Goals as goal

pub look-from_low-requires : goal.look-from_low-requires
look-from_low-requires c =
    let x = c.args.x in
    let e_low = zip2_splat bit_and x 16 15 c.fits-x.0 in
    places_of low low_places x _ c.fits-x.1 e_low

pub look-from_high-requires : goal.look-from_high-requires
look-from_high-requires c =
    let x = c.args.x in
    let e_high = zip2_splat down x 16 4 c.fits-x.0 in
    places_of high high_places x _ c.fits-x.1 e_high

pub returns : goal.returns
returns c =
    let x = c.args.x in
    let e_low = zip2_splat bit_and x 16 15 c.fits-x.0 in
    let i_a = then_looked IN_LOW low x _ _ c.look-from_low.ensures e_low in
    let e_high = zip2_splat down x 16 4 c.fits-x.0 in
    let i_b = then_looked IN_HIGH high x _ _ c.look-from_high.ensures e_high in
    let i_ab = summed (λ c. entry IN_LOW (low c)) (λ c. entry IN_HIGH (high c)) x _ _ i_a i_b in
    ap outer i_ab ∙ map-map outer_byte inner_byte x ∙ same_map (λ b. outer_byte (inner_byte b)) (λ b. b) inner_byte-all x c.fits-x.1 ∙ map-id x

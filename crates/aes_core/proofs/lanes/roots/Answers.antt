use Rattle.std.proofs.Common.{bit_and}
use Rattle.std.proofs.lemmas.Simd.{zip2_splat}
use Rattle.aes_core.specs.Inner.{both, first_inverse, first_place, high, low, of_both, of_high, scaled, second_inverse, second_place}
use Rattle.aes_core.specs.declared.lanes.TheConstants.{INVERSE, SCALED}
use Rattle.aes_core.proofs.Looks.{down, places_of, summed, then_looked}
use Rattle.aes_core.proofs.Scalars.{both_places, first_place_places, second_place_places, high_places, low_places}
use Rattle.aes_core.proofs.lanes.roots.Goals as goal

pub look-scaled-requires : goal.look-scaled-requires
look-scaled-requires c =
    let x = c.args.y in
    let e_low = zip2_splat bit_and x 16 15 c.fits-y.0 in
    places_of low low_places x _ c.fits-y.1 e_low

pub look-of_high-requires : goal.look-of_high-requires
look-of_high-requires c =
    let x = c.args.y in
    let e_high = zip2_splat down x 16 4 c.fits-y.0 in
    places_of high high_places x _ c.fits-y.1 e_high

pub look-of_both-requires : goal.look-of_both-requires
look-of_both-requires c =
    let x = c.args.y in
    let e_high = zip2_splat down x 16 4 c.fits-y.0 in
    let e_low = zip2_splat bit_and x 16 15 c.fits-y.0 in
    let e_j = summed high low x _ _ e_high e_low in
    places_of both both_places x _ c.fits-y.1 e_j

pub look-first-requires : goal.look-first-requires
look-first-requires c =
    let x = c.args.y in
    let e_high = zip2_splat down x 16 4 c.fits-y.0 in
    let e_p = then_looked INVERSE high x _ _ c.look-of_high.ensures e_high in
    let e_low = zip2_splat bit_and x 16 15 c.fits-y.0 in
    let e_s = then_looked SCALED low x _ _ c.look-scaled.ensures e_low in
    let e_ps = summed of_high scaled x _ _ e_p e_s in
    places_of first_place first_place_places x _ c.fits-y.1 e_ps

pub look-second-requires : goal.look-second-requires
look-second-requires c =
    let x = c.args.y in
    let e_high = zip2_splat down x 16 4 c.fits-y.0 in
    let e_low = zip2_splat bit_and x 16 15 c.fits-y.0 in
    let e_j = summed high low x _ _ e_high e_low in
    let e_q = then_looked INVERSE both x _ _ c.look-of_both.ensures e_j in
    let e_s = then_looked SCALED low x _ _ c.look-scaled.ensures e_low in
    let e_qs = summed of_both scaled x _ _ e_q e_s in
    places_of second_place second_place_places x _ c.fits-y.1 e_qs

pub returns-clause-first : goal.returns-clause-first
returns-clause-first c =
    let x = c.args.y in
    let e_high = zip2_splat down x 16 4 c.fits-y.0 in
    let e_p = then_looked INVERSE high x _ _ c.look-of_high.ensures e_high in
    let e_low = zip2_splat bit_and x 16 15 c.fits-y.0 in
    let e_s = then_looked SCALED low x _ _ c.look-scaled.ensures e_low in
    let e_ps = summed of_high scaled x _ _ e_p e_s in
    let e_u = then_looked INVERSE first_place x _ _ c.look-first.ensures e_ps in
    let e_j = summed high low x _ _ e_high e_low in
    let e_m = summed first_inverse both x _ _ e_u e_j in
    e_m

pub returns-clause-second : goal.returns-clause-second
returns-clause-second c =
    let x = c.args.y in
    let e_high = zip2_splat down x 16 4 c.fits-y.0 in
    let e_low = zip2_splat bit_and x 16 15 c.fits-y.0 in
    let e_j = summed high low x _ _ e_high e_low in
    let e_q = then_looked INVERSE both x _ _ c.look-of_both.ensures e_j in
    let e_s = then_looked SCALED low x _ _ c.look-scaled.ensures e_low in
    let e_qs = summed of_both scaled x _ _ e_q e_s in
    let e_v = then_looked INVERSE second_place x _ _ c.look-second.ensures e_qs in
    let e_n = summed second_inverse high x _ _ e_v e_high in
    e_n

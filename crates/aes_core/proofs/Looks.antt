-- Look-ups and sums of lanes that are each a function of the lanes of one vector.
use Rattle.std.proofs.Common.{◌≡◌, ℕ, ◌+◌, ◌*◌, ◌/◌, ◌^◌, ◌<◌, Bool, true, false, ◌||◌, cond, ltb, leb, T, List, [], ◌∷◌, map, length, get_or, replicate, bit_xor, refl, sym, ap, subst, ◌∙◌, arith, w8, Fits}
use Rattle.std.proofs.lemmas.List.{ext_get_or, get_or-map, get_or-replicate, length-map}
use Rattle.std.proofs.lemmas.List.FromFn.{get_or-map-range_with_len}
use Rattle.std.proofs.lemmas.Simd.{swz_l, SwzOk, SwzOk-from_Each1, get_or-swz_l, length-swz_l, map-map, zip2_of_maps, zip2_splat}
use Rattle.std.specs.List.{range_with_len}
use lib.Lanes.{zip2, Each1}
use mir.Val.{zeroes}
use Rattle.aes_core.specs.Inner.{ArePlaces, entry, is_place}

each_place : (js : List ℕ) → ArePlaces js → Each1 (λ j. T (zeroes 16 w8 j || ltb j 16)) js
each_place [] h = tt
each_place (j ∷ js) h = (subst T (sym h.0) tt, each_place js h.1)

pub places_ok : (js : List ℕ) → length js ≡ 16 → ArePlaces js → SwzOk w8 16 16 0 js
places_ok js long h = SwzOk-from_Each1 w8 16 1 16 0 js refl (omega arith) (each_place js h)

pub looked : (t js : List ℕ) → length js ≡ 16 → swz_l w8 16 t 0 js ≡ map (entry t) js
looked t js long =
    ext_get_or 0 (swz_l w8 16 t 0 js) (map (entry t) js) (length-swz_l w8 16 t 0 js ∙ sym (length-map js (entry t))) (λ m lt.
    let within : m < length js = omega (arith, length-swz_l w8 16 t 0 js) in
    let row : 16 * ((0 + m) / 16) + get_or js m 0 ≡ get_or js m 0 = omega arith in
    get_or-swz_l w8 16 t 0 js m within
    ∙ ap (λ (k : ℕ). cond (leb 128 (get_or js m 0)) 0 (get_or t k 0)) row
    ∙ sym (get_or-map (entry t) js m 0 0 within))

-- what a computed test of each byte says
pub every : (p : ℕ → Bool) → map p (range_with_len 0 256) ≡ replicate 256 true → (b : ℕ) → b < 256 → p b ≡ true
every p all b lt =
    sym (get_or-map-range_with_len p 0 256 b b false lt (omega arith))
    ∙ ap (λ (l : List Bool). get_or l b false) all ∙ get_or-replicate 256 b true false lt

pub places_of : (g : ℕ → ℕ) → map (λ b. is_place (g b)) (range_with_len 0 256) ≡ replicate 256 true
    → (xs js : List ℕ) → Each1 (Fits w8) xs → js ≡ map g xs → ArePlaces js
places_of g all xs js fits e = subst ArePlaces (sym e) (go xs fits)
  where
    go : (xs : List ℕ) → Each1 (Fits w8) xs → ArePlaces (map g xs)
    go [] h = tt
    go (x ∷ xs) h = (every (λ b. is_place (g b)) all x h.0.fits, go xs h.1)

-- two functions that agree at each byte
pub same_map : (f g : ℕ → ℕ) → map f (range_with_len 0 256) ≡ map g (range_with_len 0 256)
    → (xs : List ℕ) → Each1 (Fits w8) xs → map f xs ≡ map g xs
same_map f g all [] h = refl
same_map f g all (x ∷ xs) h =
    let at : f x ≡ g x =
    sym (get_or-map-range_with_len f 0 256 x x 0 h.0.fits (omega arith))
    ∙ ap (λ (l : List ℕ). get_or l x 0) all ∙ get_or-map-range_with_len g 0 256 x x 0 h.0.fits (omega arith) in
    λ i. at i ∷ same_map f g all xs h.1 i

-- a look-up after a function
pub then_looked : (t : List ℕ) (g : ℕ → ℕ) (xs js r : List ℕ) → r ≡ map (entry t) js → js ≡ map g xs → r ≡ map (λ b. entry t (g b)) xs
then_looked t g xs js r er ej = er ∙ ap (map (entry t)) ej ∙ map-map (entry t) g xs

-- a sum of two
pub summed : (g h : ℕ → ℕ) (xs v w : List ℕ) → v ≡ map g xs → w ≡ map h xs → zip2 bit_xor v w ≡ map (λ b. bit_xor (g b) (h b)) xs
summed g h xs v w ev ew = zip2_of_maps bit_xor g h xs ev ew

abbrev pub down : ℕ → ℕ → ℕ
down a b = a / 2 ^ b

-- one number with each lane
pub splat_more : (op : ℕ → ℕ → ℕ) (g : ℕ → ℕ) (xs v : List ℕ) (k : ℕ) → length xs ≡ 16 → v ≡ map g xs
    → zip2 op v (replicate 16 k) ≡ map (λ b. op (g b) k) xs
splat_more op g xs v k long e =
    zip2_splat op v 16 k (ap length e ∙ length-map xs g ∙ long) ∙ ap (map (λ b. op b k)) e ∙ map-map (λ b. op b k) g xs

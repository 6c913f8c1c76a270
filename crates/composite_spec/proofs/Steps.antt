-- What it takes for a step, a test or a chain of them to be Ok.
use Rattle.std.proofs.Common.{◌≡◌, List, [], ◌∷◌, ◌++◌, Bool, true, false, cond, ◌&&◌, Result, Ok, Err, refl, inl, inr}
use Rattle.std.specs.Prelude.{◌⊎◌}
use Rattle.std.specs.List.{AllByRecursion}
use Rattle.composite_spec.specs.declared.kinds.SpecFault.{SpecFault}
use Rattle.composite_spec.specs.Wire.{◌>>=◌, check}

abbrev done : {K : Type 0} → K → Result K SpecFault
done x = Ok x

pub done_is : {K : Type 0} (x y : K) → done x ≡ done y → x ≡ y
done_is x y e = cc

pub bind_ok : {A B : Type 0} (r : Result A SpecFault) (f : A → Result B SpecFault) (y : B) → (r >>= f) ≡ Ok y → (x : A) × (r ≡ Ok x) × (f x ≡ Ok y)
bind_ok (Ok x) f y e = (x, refl, e)
bind_ok (Err k) f y e = absurd cc

pub check_ok : {A : Type 0} (b : Bool) (fault : SpecFault) (x y : A) → check b fault x ≡ Ok y → (b ≡ true) × (x ≡ y)
check_ok true fault x y e = (refl, cc)
check_ok false fault x y e = absurd cc

pub both : (a b : Bool) → (a && b) ≡ true → (a ≡ true) × (b ≡ true)
both true b e = (refl, e)
both false b e = absurd cc

pub chosen : {K : Type 0} (b : Bool) (x y z : K) → cond b x y ≡ z → ((b ≡ true) × (x ≡ z)) ⊎ ((b ≡ false) × (y ≡ z))
chosen true x y z e = inl (refl, e)
chosen false x y z e = inr (refl, e)

pub all_front : {X : Type 0} (P : X → Type 0) (xs ys : List X) → AllByRecursion P (xs ++ ys) → AllByRecursion P xs
all_front P [] ys h = tt
all_front P (x ∷ xs) ys h = (h.0, all_front P xs ys h.1)

pub all_behind : {X : Type 0} (P : X → Type 0) (xs ys : List X) → AllByRecursion P (xs ++ ys) → AllByRecursion P ys
all_behind P [] ys h = h
all_behind P (x ∷ xs) ys h = all_behind P xs ys h.1

pub all_joined : {X : Type 0} (P : X → Type 0) (xs ys : List X) → AllByRecursion P xs → AllByRecursion P ys → AllByRecursion P (xs ++ ys)
all_joined P [] ys g h = h
all_joined P (x ∷ xs) ys g h = (g.0, all_joined P xs ys g.1 h)

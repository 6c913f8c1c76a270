-- Fields read one after another.
use Rattle.std.proofs.Common.{◌≡◌, ◌<◌, ◌≤◌, ℕ, zero, suc, List, [], ◌∷◌, length, Result, Ok, Err, refl, sym, ap, ◌∙◌, arith}
use Rattle.composite_spec.specs.declared.kinds.SpecFault.{SpecFault}
use Rattle.composite_spec.specs.declared.kinds.SpecFault.TheVariants as faults
use Rattle.composite_spec.specs.Wire.{◌>>=◌}
use Rattle.composite_spec.specs.Reading.{walk, Fails}

-- from here on, what is left states what the whole message does
pub record Walks {K : Type 0} (step : K → List ℕ → Result (K × List ℕ) SpecFault) (k : K) (rest : List ℕ) (total : Result K SpecFault) : Type 0 where
  pub most : ℕ
  pub room : length rest ≤ most
  pub same : walk step most k rest ≡ total

pub begins : {K : Type 0} (step : K → List ℕ → Result (K × List ℕ) SpecFault) (k : K) (rest : List ℕ) → Walks step k rest (walk step (length rest) k rest)
begins step k rest = record { most = length rest; room = omega arith; same = refl }

goes_from : {K : Type 0} (step : K → List ℕ → Result (K × List ℕ) SpecFault) (k next : K) (rest after : List ℕ) (total : Result K SpecFault) (most : ℕ) → 0 < length rest → length after < length rest
    → step k rest ≡ Ok (next, after) → length rest ≤ most → walk step most k rest ≡ total → Walks step next after total
unfolding walk
goes_from step k next [] after total most some less e room same = absurd (omega arith)
goes_from step k next (b ∷ bs) after total zero some less e room same = absurd (omega arith)
goes_from {K} step k next (b ∷ bs) after total (suc n) some less e room same =
    record { most = n; room = omega arith; same = sym (ap (λ (r : Result (K × List ℕ) SpecFault). r >>= λ x. walk step n x.0 x.1) e) ∙ same }

pub goes_on : {K : Type 0} (step : K → List ℕ → Result (K × List ℕ) SpecFault) (k next : K) (rest after : List ℕ) (total : Result K SpecFault) → 0 < length rest → length after < length rest
    → step k rest ≡ Ok (next, after) → Walks step k rest total → Walks step next after total
goes_on step k next rest after total some less e h = goes_from step k next rest after total h.most some less e h.room h.same

stops_from : {K : Type 0} (step : K → List ℕ → Result (K × List ℕ) SpecFault) (k : K) (rest : List ℕ) (total : Result K SpecFault) (fault : SpecFault) (most : ℕ) → 0 < length rest
    → step k rest ≡ Err fault → length rest ≤ most → walk step most k rest ≡ total → total ≡ Err fault
unfolding walk
stops_from step k [] total fault most some e room same = absurd (omega arith)
stops_from step k (b ∷ bs) total fault zero some e room same = absurd (omega arith)
stops_from {K} step k (b ∷ bs) total fault (suc n) some e room same =
    sym same ∙ ap (λ (r : Result (K × List ℕ) SpecFault). r >>= λ x. walk step n x.0 x.1) e

pub stops : {K : Type 0} (step : K → List ℕ → Result (K × List ℕ) SpecFault) (k : K) (rest : List ℕ) (total : Result K SpecFault) (fault : SpecFault) → 0 < length rest
    → step k rest ≡ Err fault → Walks step k rest total → total ≡ Err fault
stops step k rest total fault some e h = stops_from step k rest total fault h.most some e h.room h.same

ends_from : {K : Type 0} (step : K → List ℕ → Result (K × List ℕ) SpecFault) (k : K) (rest : List ℕ) (total : Result K SpecFault) (most : ℕ) → length rest ≡ 0 → walk step most k rest ≡ total → total ≡ Ok k
unfolding walk
ends_from step k [] total zero none same = sym same
ends_from step k [] total (suc n) none same = sym same
ends_from step k (b ∷ bs) total most none same = absurd (omega arith)

pub ends : {K : Type 0} (step : K → List ℕ → Result (K × List ℕ) SpecFault) (k : K) (rest : List ℕ) (total : Result K SpecFault) → length rest ≡ 0 → Walks step k rest total → total ≡ Ok k
ends step k rest total none h = ends_from step k rest total h.most none h.same

-- ---- faults, but for want of memory

pub fails_along : {X Y : Type 0} (fault : SpecFault) (a : Result X SpecFault) (b : Result Y SpecFault) → (a ≡ Err fault → b ≡ Err fault) → Fails fault a → Fails fault b
fails_along faults.Memory a b law h = tt
fails_along fault a b law h = law h

pub fails_by : {Y : Type 0} (fault : SpecFault) (b : Result Y SpecFault) → b ≡ Err fault → Fails fault b
fails_by faults.Memory b h = tt
fails_by fault b h = h

pub fails_bind : {X Y : Type 0} (fault : SpecFault) (a : Result X SpecFault) (f : X → Result Y SpecFault) → Fails fault a → Fails fault (a >>= f)
fails_bind {X} {Y} fault a f h = fails_along fault a (a >>= f) (λ e. ap (λ (r : Result X SpecFault). r >>= f) e) h

pub stops_fails : {K : Type 0} (step : K → List ℕ → Result (K × List ℕ) SpecFault) (k : K) (rest : List ℕ) (total : Result K SpecFault) (fault : SpecFault) → 0 < length rest
    → Fails fault (step k rest) → Walks step k rest total → Fails fault total
stops_fails step k rest total fault some e h = fails_along fault (step k rest) total (λ x. stops step k rest total fault some x h) e

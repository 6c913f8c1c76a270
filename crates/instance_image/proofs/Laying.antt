-- Partitions that stand one behind another.
use Rattle.std.proofs.Common.{◌≡◌, ◌≢◌, ℕ, ◌+◌, ◌≤◌, true, false, List, [], ◌∷◌, ◌++◌, Some, refl, ap, sym, ◌∙◌, arith, inl, inr}
use Rattle.std.specs.Prelude.{◌⊎◌, if◌then◌else◌}
use Rattle.std.specs.Str.{bytes_eq}
use Rattle.instance_image.specs.declared.values.Part.{Part}
use Rattle.instance_image.specs.Records.{Kept, IsPartAt, AreLaid, IsLaid, find_part, keep_size}
use Rattle.instance_image.proofs.Openings.{all_more}
use Rattle.instance_image.proofs.Partitions.{found_is, sized_all}
use Rattle.instance_image.proofs.Holding.{are_same}

-- the sector behind them
pub end_of : ℕ → List Part → ℕ
end_of at [] = at
end_of at (p ∷ parts) = end_of (at + (1 + p.reserved)) parts

pub end_more : (at : ℕ) (parts : List Part) (p : Part) → end_of at (parts ++ p ∷ []) ≡ end_of at parts + (1 + p.reserved)
unfolding end_of
end_more at [] p = refl
end_more at (q ∷ parts) p = end_more (at + (1 + q.reserved)) parts p

pub laid_more : (at : ℕ) (parts : List Part) (p : Part) → AreLaid at parts → p.sector ≡ end_of at parts → AreLaid at (parts ++ p ∷ [])
unfolding end_of
laid_more at [] p l e = (e, tt)
laid_more at (q ∷ parts) p l e = (l.0, laid_more (at + (1 + q.reserved)) parts p l.1 e)

pub laid_none : 1 ≡ end_of 1 []
unfolding end_of
laid_none = refl

-- a further partition, where the others end
pub laid_on : (k : Kept) (p : Part) → IsLaid k → IsPartAt k.first p → p.sector ≡ end_of 1 k.parts → IsLaid (record k { parts = k.parts ++ p ∷ [] })
laid_on k p l lies at = record { kept = all_more (IsPartAt k.first) k.parts p l.kept lies; laid = laid_more 1 k.parts p l.laid at }

laid_sized : (at : ℕ) (parts : List Part) (uuid : List ℕ) (size : ℕ) → AreLaid at parts → AreLaid at (keep_size parts uuid size)
unfolding keep_size
laid_sized at [] uuid size l = tt
laid_sized at (q ∷ parts) uuid size l =
    elim (bytes_eq q.uuid.0 uuid) as (λ b. AreLaid at (if b then record q { size = size } ∷ parts else q ∷ keep_size parts uuid size)) [
      | true ↦ (l.0, l.1)
      | false ↦ (l.0, laid_sized (at + (1 + q.reserved)) parts uuid size l.1)
    ]

-- and where the one that is found gets another size that it may have
pub sized_laid : (k : Kept) (uuid : List ℕ) (size : ℕ) (p : Part) → IsLaid k → find_part k.parts uuid ≡ Some p → IsPartAt k.first (record p { size = size }) → IsLaid (record k { parts = keep_size k.parts uuid size })
sized_laid k uuid size p l found lies = record {
  kept = sized_all (IsPartAt k.first) k.parts uuid size p l.kept found lies;
  laid = laid_sized 1 k.parts uuid size l.laid;
}

-- what the one that is found keeps
pub found_lies : (k : Kept) (uuid : List ℕ) (p : Part) → IsLaid k → find_part k.parts uuid ≡ Some p → IsPartAt k.first p
found_lies k uuid p l found = found_is (IsPartAt k.first) k.parts uuid p l.kept found

-- ---- places

later : (at : ℕ) (parts : List Part) (uuid : List ℕ) (q : Part) → AreLaid at parts → find_part parts uuid ≡ Some q → at ≤ q.sector
unfolding find_part
later at [] uuid q l f = absurd cc
later at (x ∷ parts) uuid q l f =
    elim (bytes_eq x.uuid.0 uuid) as (λ b. (if b then Some x else find_part parts uuid) ≡ Some q → at ≤ q.sector) [
      | true ↦ λ e. (let same : x ≡ q = cc in omega (arith, l.0, ap (λ (y : Part). y.sector) same))
      | false ↦ λ e. (let more = later (at + (1 + x.reserved)) parts uuid q l.1 e in omega (arith, more))
    ] f

abbrev pub AreBeside : Part → Part → Type 0
AreBeside p q = (p.sector + (1 + p.reserved) ≤ q.sector) ⊎ (q.sector + (1 + q.reserved) ≤ p.sector)

pub beside : (at : ℕ) (parts : List Part) (u v : List ℕ) (p q : Part) → v ≢ u → AreLaid at parts → find_part parts u ≡ Some p → find_part parts v ≡ Some q → AreBeside p q
unfolding find_part
beside at [] u v p q apart l f g = absurd cc
beside at (x ∷ parts) u v p q apart l f g =
    elim (bytes_eq x.uuid.0 u) as (λ b. bytes_eq x.uuid.0 u ≡ b → (if b then Some x else find_part parts u) ≡ Some p → AreBeside p q) [
      | true ↦ λ eu e. (let same : x ≡ p = cc in first eu same)
      | false ↦ λ eu e. second (beside (at + (1 + x.reserved)) parts u v p q apart l.1) eu e
    ] refl f where
      first : bytes_eq x.uuid.0 u ≡ true → x ≡ p → AreBeside p q
      first eu same =
          elim (bytes_eq x.uuid.0 v) as (λ b. bytes_eq x.uuid.0 v ≡ b → (if b then Some x else find_part parts v) ≡ Some q → AreBeside p q) [
            | true ↦ λ ev e. absurd (apart (sym (are_same x.uuid.0 v ev) ∙ are_same x.uuid.0 u eu))
            | false ↦ λ ev e. (let more = later (at + (1 + x.reserved)) parts v q l.1 e in inl (omega (arith, more, l.0, ap (λ (y : Part). y.sector) same, ap (λ (y : Part). y.reserved) same)))
          ] refl g

      second : (find_part parts u ≡ Some p → find_part parts v ≡ Some q → AreBeside p q) → bytes_eq x.uuid.0 u ≡ false → find_part parts u ≡ Some p → AreBeside p q
      second on eu fu =
          elim (bytes_eq x.uuid.0 v) as (λ b. bytes_eq x.uuid.0 v ≡ b → (if b then Some x else find_part parts v) ≡ Some q → AreBeside p q) [
            | true ↦ λ ev e. (let same : x ≡ q = cc in let more = later (at + (1 + x.reserved)) parts u p l.1 fu in inr (omega (arith, more, l.0, ap (λ (y : Part). y.sector) same, ap (λ (y : Part). y.reserved) same)))
            | false ↦ λ ev e. on fu e
          ] refl g

-- the one that is found has the UUID
pub found_named : (parts : List Part) (uuid : List ℕ) (p : Part) → find_part parts uuid ≡ Some p → p.uuid.0 ≡ uuid
unfolding find_part
found_named [] uuid p f = absurd cc
found_named (q ∷ parts) uuid p f =
    elim (bytes_eq q.uuid.0 uuid) as (λ b. bytes_eq q.uuid.0 uuid ≡ b → (if b then Some q else find_part parts uuid) ≡ Some p → p.uuid.0 ≡ uuid) [
      | true ↦ λ t e. (let same : q ≡ p = cc in ap (λ (x : Part). x.uuid.0) (sym same) ∙ are_same q.uuid.0 uuid t)
      | false ↦ λ t e. found_named parts uuid p e
    ] refl f

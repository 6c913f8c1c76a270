-- A name compared unit by unit.
use Rattle.std.proofs.Common.{◌≡◌, ℕ, ◌+◌, ◌<◌, Bool, true, false, not, ◌&&◌, true≢false, eqb, List, [], ◌∷◌, ◌++◌, length, get_or, drop, Option, Some, None, refl, sym, ap, ◌∙◌, if◌then◌else◌}
use Rattle.std.specs.List.{flat_map}
use Rattle.std.specs.Str.{bytes_eq}
use Rattle.std.specs.Int.{w16, from_le_bytes}
use Rattle.std.specs.Char.Escape.{encode_utf16}
use Rattle.std.proofs.lemmas.Bool.{eqb-true, not-true, and_parts}
use Rattle.std.proofs.lemmas.List.{at_drop_more}
use Rattle.gpt.specs.Names.{name_units, after_unit, and_then, after_units, is_end}

some_of : (t : Bool) (x y : List ℕ) → (if t then Some x else None) ≡ Some y → (t ≡ true) × (x ≡ y)
some_of true x y e = (refl, cc)
some_of false x y e = absurd cc

none_of : (t : Bool) (x : List ℕ) → (if t then Some x else None) ≡ None → t ≡ false
none_of true x e = absurd cc
none_of false x e = refl

-- a name that begins with the unit v, compared with one that begins with u
begins : (v u : ℕ) (rest more : List ℕ) → not (eqb u 0) ≡ true → eqb v u ≡ true
    → bytes_eq (if eqb v 0 then [] else v ∷ rest) (u ∷ more) ≡ bytes_eq rest more
begins v u rest more some same =
    let e : v ≡ u = eqb-true v u same in
    let full : eqb v 0 ≡ false = ap (λ (n : ℕ). eqb n 0) e ∙ not-true (eqb u 0) some in
    ap (λ (t : Bool). bytes_eq (if t then [] else v ∷ rest) (u ∷ more)) full ∙ ap (λ (t : Bool). t && bytes_eq rest more) same

other : (v u : ℕ) (rest more : List ℕ) → (not (eqb u 0) && eqb v u) ≡ false
    → bytes_eq (if eqb v 0 then [] else v ∷ rest) (u ∷ more) ≡ false
other v u rest more kept = by_zero (eqb v 0) refl (eqb v u) refl
  where
    by_zero : (z : Bool) → eqb v 0 ≡ z → (s : Bool) → eqb v u ≡ s → bytes_eq (if eqb v 0 then [] else v ∷ rest) (u ∷ more) ≡ false
    by_zero true ez s es = ap (λ (t : Bool). bytes_eq (if t then [] else v ∷ rest) (u ∷ more)) ez
    by_zero false ez false es = ap (λ (t : Bool). bytes_eq (if t then [] else v ∷ rest) (u ∷ more)) ez ∙ ap (λ (t : Bool). t && bytes_eq rest more) es
    by_zero false ez true es =
        let same : eqb u 0 ≡ false = ap (λ (n : ℕ). eqb n 0) (sym (eqb-true v u es)) ∙ ez in
        absurd (true≢false ((λ i. not (sym same i) && sym es i) ∙ kept))

unit_some : (u : ℕ) (field rest more : List ℕ) → after_unit u field ≡ Some rest → bytes_eq (name_units field) (u ∷ more) ≡ bytes_eq (name_units rest) more
unit_some u [] rest more e = absurd cc
unit_some u (low ∷ []) rest more e = absurd cc
unit_some u (low ∷ high ∷ bytes) rest more e =
    let v = from_le_bytes w16 (low ∷ high ∷ []) in
    let r = some_of (not (eqb u 0) && eqb v u) bytes rest e in
    let t = and_parts _ _ r.0 in
    begins v u (name_units bytes) more t.0 t.1 ∙ ap (λ (b : List ℕ). bytes_eq (name_units b) more) r.1

unit_none : (u : ℕ) (field more : List ℕ) → after_unit u field ≡ None → bytes_eq (name_units field) (u ∷ more) ≡ false
unit_none u [] more e = refl
unit_none u (low ∷ []) more e = refl
unit_none u (low ∷ high ∷ bytes) more e =
    let v = from_le_bytes w16 (low ∷ high ∷ []) in
    other v u (name_units bytes) more (none_of (not (eqb u 0) && eqb v u) bytes e)

by_first_some : (o : Option (List ℕ)) (u : ℕ) (us field rest more : List ℕ)
    → ((b : List ℕ) → after_units us b ≡ Some rest → bytes_eq (name_units b) (us ++ more) ≡ bytes_eq (name_units rest) more)
    → after_unit u field ≡ o → and_then o (after_units us) ≡ Some rest → bytes_eq (name_units field) (u ∷ us ++ more) ≡ bytes_eq (name_units rest) more
by_first_some None u us field rest more later is e = absurd cc
by_first_some (Some b) u us field rest more later is e = unit_some u field b (us ++ more) is ∙ later b e

pub units_some : (us field rest more : List ℕ) → after_units us field ≡ Some rest → bytes_eq (name_units field) (us ++ more) ≡ bytes_eq (name_units rest) more
unfolding after_units
units_some [] field rest more e = let same : field ≡ rest = cc in ap (λ (b : List ℕ). bytes_eq (name_units b) more) same
units_some (u ∷ us) field rest more e = by_first_some (after_unit u field) u us field rest more (λ b. units_some us b rest more) refl e

by_first_none : (o : Option (List ℕ)) (u : ℕ) (us field more : List ℕ)
    → ((b : List ℕ) → after_units us b ≡ None → bytes_eq (name_units b) (us ++ more) ≡ false)
    → after_unit u field ≡ o → and_then o (after_units us) ≡ None → bytes_eq (name_units field) (u ∷ us ++ more) ≡ false
by_first_none None u us field more later is e = unit_none u field (us ++ more) is
by_first_none (Some b) u us field more later is e = unit_some u field b (us ++ more) is ∙ later b e

pub units_none : (us field more : List ℕ) → after_units us field ≡ None → bytes_eq (name_units field) (us ++ more) ≡ false
unfolding after_units
units_none [] field more e = absurd cc
units_none (u ∷ us) field more e = by_first_none (after_unit u field) u us field more (λ b. units_none us b more) refl e

pub at_end : (field : List ℕ) → bytes_eq (name_units field) [] ≡ is_end field
at_end [] = refl
at_end (low ∷ []) = refl
at_end (low ∷ high ∷ bytes) = by_zero (eqb (from_le_bytes w16 (low ∷ high ∷ [])) 0)
  where
    by_zero : (z : Bool) → bytes_eq (if z then [] else from_le_bytes w16 (low ∷ high ∷ []) ∷ name_units bytes) [] ≡ z
    by_zero true = refl
    by_zero false = refl

-- the units of the characters from place n on
pub units_from : (cs : List ℕ) (n c : ℕ) → (n < length cs) × (c ≡ get_or cs n c)
    → flat_map encode_utf16 (drop n cs) ≡ encode_utf16 c ++ flat_map encode_utf16 (drop (n + 1) cs)
units_from cs n c h =
    at_drop_more (flat_map encode_utf16) cs n c h.0 ∙ ap (λ (x : ℕ). encode_utf16 x ++ flat_map encode_utf16 (drop (n + 1) cs)) (sym h.1)

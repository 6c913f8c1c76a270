-- The rules on components, one after another.
use Rattle.std.proofs.Common.{◌≡◌, ◌<◌, ◌≤◌, ◌+◌, ℕ, List, [], ◌∷◌, ◌++◌, length, Option, Some, None, Result, Ok, Err, append-nil, append_assoc, get_or, drop, map, zero, suc, true, false, take, refl, sym, ap, ◌∙◌, arith}
use Rattle.composite_spec.specs.declared.kinds.SpecFault.{SpecFault}
use Rattle.composite_spec.specs.declared.kinds.SpecFault.TheVariants as faults
use Rattle.std.specs.Str.{bytes_eq}
use Rattle.std.proofs.lemmas.Bool.{le-ltb}
use Rattle.composite_spec.specs.Wire.{◌>>=◌}
use Rattle.composite_spec.specs.Said.{magic, Placed, Composite}
use Rattle.composite_spec.specs.Reading.{Part, Disk, part_by, stated_offset, is_length, judged, disk_of, decoded, placed_of, all_placed, Fails}
use Rattle.composite_spec.specs.declared.stated.Stated.{Stated}
use Rattle.composite_spec.proofs.Walks.{fails_along, fails_bind}

-- components in front of those that are read
abbrev pub joined : List Placed → Result (List Placed) SpecFault → Result (List Placed) SpecFault
joined front (Ok cs) = Ok (front ++ cs)
joined front (Err fault) = Err fault

moved : (front : List Placed) (c : Placed) (r : Result (List Placed) SpecFault) → joined (front ++ c ∷ []) r ≡ joined front (r >>= λ xs. Ok (c ∷ xs))
moved front c (Ok cs) = ap (λ (x : List Placed). Ok x) (append_assoc front (c ∷ []) cs)
moved front c (Err f) = refl

abbrev Total : Type 0
Total = Result (List Placed) SpecFault

pub front_more : (front : List Placed) (i : ℕ) (before : Option ℕ) (p : Part) (ps : List Part) (c : Placed) (total : Total) → placed_of i before p ≡ Ok c
    → joined front (all_placed i before (p ∷ ps)) ≡ total → joined (front ++ c ∷ []) (all_placed (i + 1) (Some p.offset) ps) ≡ total
unfolding all_placed
front_more front i before p ps c total e h =
    moved front c (all_placed (i + 1) (Some p.offset) ps)
    ∙ sym (ap (λ (r : Result Placed SpecFault). joined front (r >>= λ x. all_placed (i + 1) (Some p.offset) ps >>= λ xs. Ok (x ∷ xs))) e) ∙ h

pub front_stops : (front : List Placed) (i : ℕ) (before : Option ℕ) (p : Part) (ps : List Part) (fault : SpecFault) (total : Total) → Fails fault (placed_of i before p)
    → joined front (all_placed i before (p ∷ ps)) ≡ total → Fails fault total
unfolding all_placed
front_stops front i before p ps fault total e h =
    fails_along fault (placed_of i before p) total (λ x. sym h ∙ ap (λ (r : Result Placed SpecFault). joined front (r >>= λ y. all_placed (i + 1) (Some p.offset) ps >>= λ ys. Ok (y ∷ ys))) x) e

pub front_ends : (front : List Placed) (i : ℕ) (before : Option ℕ) (ps : List Part) (total : Total) → length ps ≡ 0 → joined front (all_placed i before ps) ≡ total → total ≡ Ok front
unfolding all_placed
front_ends front i before [] total none h = sym h ∙ ap (λ (x : List Placed). Ok x) (append-nil front)
front_ends front i before (p ∷ ps) total none h = absurd (omega arith)

split_suc : (parts : List Stated) (i : ℕ) (d : Stated) → i < length parts → drop i (map part_by parts) ≡ part_by (get_or parts i d) ∷ drop (suc i) (map part_by parts)
split_suc [] i d lt = absurd (omega arith)
split_suc (p ∷ ps) zero d lt = refl
split_suc (p ∷ ps) (suc i) d lt = split_suc ps i d (omega arith)

pub split_at : (parts : List Stated) (i : ℕ) (d : Stated) → i < length parts → drop i (map part_by parts) ≡ part_by (get_or parts i d) ∷ drop (i + 1) (map part_by parts)
split_at parts i d lt =
    let next : suc i ≡ i + 1 = omega arith in
    split_suc parts i d lt ∙ ap (λ (n : ℕ). part_by (get_or parts i d) ∷ drop n (map part_by parts)) next

pub offsets_are : (parts : List Stated) → map (λ (p : Stated). stated_offset (part_by p)) parts ≡ map stated_offset (map part_by parts)
offsets_are [] = refl
offsets_are (p ∷ ps) = ap (λ (x : List ℕ). p.offset ∷ x) (offsets_are ps)

pub judged_ok : (d : Disk) (cs : List Placed) → d.version ≡ 2 → all_placed 0 None d.parts ≡ Ok cs → is_length d.length (map stated_offset d.parts) ≡ true
    → let said : Composite = record { components = cs; length = d.length } in judged d ≡ Ok said
unfolding judged
judged_ok d cs two each long = rw (two, each, long) refl

pub judged_long : (d : Disk) (cs : List Placed) → d.version ≡ 2 → all_placed 0 None d.parts ≡ Ok cs → is_length d.length (map stated_offset d.parts) ≡ false → judged d ≡ Err (faults.Length d.length)
unfolding judged
judged_long d cs two each long = rw (two, each, long) refl

pub decoded_is : (bytes : List ℕ) (d : Disk) → bytes_eq (take 15 bytes) magic ≡ true → length bytes ≤ 1048576 → disk_of (length bytes) (drop 15 bytes) ≡ Ok d → decoded bytes ≡ judged d
unfolding decoded
decoded_is bytes d begins few e = rw (begins, le-ltb _ _ few, e) refl

pub decoded_fails : (bytes : List ℕ) (fault : SpecFault) → bytes_eq (take 15 bytes) magic ≡ true → length bytes ≤ 1048576 → Fails fault (disk_of (length bytes) (drop 15 bytes)) → Fails fault (decoded bytes)
unfolding decoded
decoded_fails bytes fault begins few h = rw (begins, le-ltb _ _ few) (fails_bind fault (disk_of (length bytes) (drop 15 bytes)) judged h)

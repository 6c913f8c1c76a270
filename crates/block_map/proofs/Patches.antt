-- Bytes put into a list.
use Rattle.std.proofs.Common.{◌≡◌, ◌<◌, ◌≤◌, ◌+◌, ◌-◌, ℕ, List, ◌++◌, length, get_or, take, drop, ap, ◌∙◌, arith, length-append, length-take, length-drop}
use Rattle.std.proofs.lemmas.List.{get_or_append_left, get_or-append_right, get_or-take, get_or-drop}

abbrev pub patched : ℕ → List ℕ → List ℕ → List ℕ
patched at p xs = take at xs ++ p ++ drop (at + length p) xs

front_length : (at : ℕ) (xs : List ℕ) → at ≤ length xs → length (take at xs) ≡ at
front_length at xs le = omega (arith, length-take at xs)

pub patched_before : (at : ℕ) (p xs : List ℕ) (k : ℕ) → at + length p ≤ length xs → k < at → get_or (patched at p xs) k 0 ≡ get_or xs k 0
patched_before at p xs k fits lt =
    let len = front_length at xs (omega arith) in
    get_or_append_left (take at xs ++ p) (drop (at + length p) xs) 0 k (omega (arith, length-append (take at xs) p))
    ∙ get_or_append_left (take at xs) p 0 k (omega arith) ∙ get_or-take at xs k 0 lt

pub patched_in : (at : ℕ) (p xs : List ℕ) (k : ℕ) → at + length p ≤ length xs → at ≤ k → k < at + length p → get_or (patched at p xs) k 0 ≡ get_or p (k - at) 0
patched_in at p xs k fits low lt =
    let len = front_length at xs (omega arith) in
    get_or_append_left (take at xs ++ p) (drop (at + length p) xs) 0 k (omega (arith, length-append (take at xs) p))
    ∙ get_or-append_right (take at xs) p at k 0 len low

pub patched_after : (at : ℕ) (p xs : List ℕ) (k : ℕ) → at + length p ≤ length xs → at + length p ≤ k → get_or (patched at p xs) k 0 ≡ get_or xs k 0
patched_after at p xs k fits low =
    let len = front_length at xs (omega arith) in
    let both : length (take at xs ++ p) ≡ at + length p = omega (arith, length-append (take at xs) p) in
    let place : (at + length p) + (k - (at + length p)) ≡ k = omega arith in
    get_or-append_right (take at xs ++ p) (drop (at + length p) xs) (at + length p) k 0 both low
    ∙ get_or-drop (at + length p) xs (k - (at + length p)) 0 ∙ ap (λ (i : ℕ). get_or xs i 0) place

pub spliced_before : (at : ℕ) (xs rest : List ℕ) (k : ℕ) → at ≤ length xs → k < at → get_or (take at xs ++ rest) k 0 ≡ get_or xs k 0
spliced_before at xs rest k le lt = let len = front_length at xs le in get_or_append_left (take at xs) rest 0 k (omega arith) ∙ get_or-take at xs k 0 lt

pub spliced_in : (at : ℕ) (xs p rest : List ℕ) (k : ℕ) → at ≤ length xs → k < length p → get_or (take at xs ++ (p ++ rest)) (at + k) 0 ≡ get_or p k 0
spliced_in at xs p rest k le lt =
    let len = front_length at xs le in
    let place : (at + k) - at ≡ k = omega arith in
    get_or-append_right (take at xs) (p ++ rest) at (at + k) 0 len (omega arith) ∙ ap (λ (i : ℕ). get_or (p ++ rest) i 0) place ∙ get_or_append_left p rest 0 k lt

pub patched_length : (at : ℕ) (p xs : List ℕ) → at + length p ≤ length xs → length (patched at p xs) ≡ length xs
patched_length at p xs fits = omega (arith, length-append (take at xs ++ p) (drop (at + length p) xs), length-append (take at xs) p, length-take at xs, length-drop (at + length p) xs)

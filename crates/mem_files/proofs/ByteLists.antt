-- Lists of bytes by their places.
use Rattle.std.proofs.Common.{◌≡◌, ℕ, ◌+◌, ◌-◌, ◌<◌, ◌≤◌, max, List, [], ◌++◌, length, take, drop, get_or, refl, sym, ◌∙◌, ap, inl, inr, arith}
use Rattle.std.specs.Prelude.{replicate}
use Rattle.std.proofs.lemmas.Bool.{lt-ltb, le-ltb, le-leb, lt-leb, cases_lt}
use Rattle.std.proofs.lemmas.List.{ext_get_or, get_or_past, get_or-take, get_or-drop, get_or-replicate, get_or_append_left, get_or-append_right, length-append, length-take, length-drop, length-replicate}
use Rattle.host_traits.specs.Held.{over, resized}
use Rattle.mem_files.specs.Files.{byte_over}

-- ---- bytes put over what a function gives

pub over_low : (at : ℕ) (bytes : List ℕ) (f : ℕ → ℕ) (i : ℕ) → i < at → byte_over at bytes f i ≡ f i
over_low at bytes f i lt = rw (lt-ltb i at lt) refl

pub over_high : (at : ℕ) (bytes : List ℕ) (f : ℕ → ℕ) (i : ℕ) → at + length bytes ≤ i → byte_over at bytes f i ≡ f i
over_high at bytes f i le = elim (cases_lt i at) [
  | inl low ↦ over_low at bytes f i low
  | inr high ↦ rw (le-ltb i at high, le-leb (at + length bytes) i le) refl
]

pub over_in : (at : ℕ) (bytes : List ℕ) (f : ℕ → ℕ) (i : ℕ) → at ≤ i → i < at + length bytes → byte_over at bytes f i ≡ get_or bytes (i - at) 0
over_in at bytes f i low high = rw (le-ltb i at low, lt-leb (at + length bytes) i high) refl

pub over_none : (at : ℕ) (f : ℕ → ℕ) (i : ℕ) → byte_over at [] f i ≡ f i
over_none at f i = elim (cases_lt i at) [
  | inl low ↦ over_low at [] f i low
  | inr high ↦ over_high at [] f i (omega arith)
]

-- one piece behind another
pub over_twice : (at from cut : ℕ) (bytes : List ℕ) (f g h : ℕ → ℕ) → cut ≤ length bytes → (cut < length bytes → from ≡ at + cut)
    → ((i : ℕ) → g i ≡ byte_over at (take cut bytes) f i) → ((i : ℕ) → h i ≡ byte_over from (drop cut bytes) g i) → (i : ℕ) → h i ≡ byte_over at bytes f i
over_twice at from cut bytes f g h fits begins first second i =
    let head : length (take cut bytes) ≡ cut = omega (arith, length-take cut bytes) in
    let tail : length (drop cut bytes) ≡ length bytes - cut = length-drop cut bytes in
    elim (cases_lt cut (length bytes)) [
      | inl more ↦
          let is : from ≡ at + cut = begins more in
          elim (cases_lt i at) [
            | inl low ↦ second i ∙ over_low from (drop cut bytes) g i (omega arith) ∙ first i ∙ over_low at (take cut bytes) f i low ∙ sym (over_low at bytes f i low)
            | inr high ↦ elim (cases_lt i (at + cut)) [
              | inl inside ↦ second i ∙ over_low from (drop cut bytes) g i (omega arith) ∙ first i ∙ over_in at (take cut bytes) f i high (omega arith)
                  ∙ get_or-take cut bytes (i - at) 0 (omega arith) ∙ sym (over_in at bytes f i high (omega arith))
              | inr behind ↦ elim (cases_lt i (at + length bytes)) [
                | inl in_tail ↦
                    let place : cut + (i - from) ≡ i - at = omega arith in
                    second i ∙ over_in from (drop cut bytes) g i (omega arith) (omega arith) ∙ get_or-drop cut bytes (i - from) 0 ∙ ap (λ k. get_or bytes k 0) place ∙ sym (over_in at bytes f i high in_tail)
                | inr past ↦ second i ∙ over_high from (drop cut bytes) g i (omega arith) ∙ first i ∙ over_high at (take cut bytes) f i (omega arith) ∙ sym (over_high at bytes f i past)
              ]
            ]
          ]
      | inr no_more ↦
          let none : drop cut bytes ≡ [] = ext_get_or 0 (drop cut bytes) [] (omega arith) (λ k lt. absurd (omega (arith, lt, tail))) in
          let all : take cut bytes ≡ bytes = ext_get_or 0 (take cut bytes) bytes (omega arith) (λ k lt. get_or-take cut bytes k 0 (omega (arith, lt, head))) in
          second i ∙ ap (λ b. byte_over from b g i) none ∙ over_none from g i ∙ first i ∙ ap (λ b. byte_over at b f i) all
    ]

-- ---- bytes put over a list

front-length : (old : List ℕ) (at : ℕ) → length (take at old ++ replicate (at - length old) 0) ≡ at
front-length old at = omega (arith, length-append (take at old) (replicate (at - length old) 0), length-take at old, length-replicate {A = ℕ} (at - length old) 0)

front-get : (old : List ℕ) (at i : ℕ) → i < at → get_or (take at old ++ replicate (at - length old) 0) i 0 ≡ get_or old i 0
front-get old at i lt = elim (cases_lt i (length old)) [
  | inl low ↦ get_or_append_left (take at old) (replicate (at - length old) 0) 0 i (omega (arith, length-take at old)) ∙ get_or-take at old i 0 lt
  | inr past ↦
      let len : length (take at old) ≡ length old = omega (arith, length-take at old) in
      get_or-append_right (take at old) (replicate (at - length old) 0) (length old) i 0 len past
      ∙ get_or-replicate (at - length old) (i - length old) 0 0 (omega arith) ∙ sym (get_or_past old i 0 past)
]

pub over-length : (old : List ℕ) (at : ℕ) (new : List ℕ) → length (over old at new) ≡ max (length old) (at + length new)
over-length old at new =
    let front = front-length old at in
    let body = length-append (take at old ++ replicate (at - length old) 0) new in
    let all = length-append ((take at old ++ replicate (at - length old) 0) ++ new) (drop (at + length new) old) in
    omega (arith, front, body, all, length-drop (at + length new) old)

pub over-get : (old : List ℕ) (at : ℕ) (new : List ℕ) (i : ℕ) → get_or (over old at new) i 0 ≡ byte_over at new (λ k. get_or old k 0) i
over-get old at new i =
    let front : List ℕ = take at old ++ replicate (at - length old) 0 in
    let len : length front ≡ at = front-length old at in
    let both : length (front ++ new) ≡ at + length new = omega (arith, length-append front new) in
    elim (cases_lt i at) [
      | inl low ↦ get_or_append_left (front ++ new) (drop (at + length new) old) 0 i (omega arith) ∙ get_or_append_left front new 0 i (omega arith) ∙ front-get old at i low ∙ sym (over_low at new (λ k. get_or old k 0) i low)
      | inr high ↦ elim (cases_lt i (at + length new)) [
        | inl inside ↦ get_or_append_left (front ++ new) (drop (at + length new) old) 0 i (omega arith) ∙ get_or-append_right front new at i 0 len high ∙ sym (over_in at new (λ k. get_or old k 0) i high inside)
        | inr past ↦
            let place : (at + length new) + (i - (at + length new)) ≡ i = omega arith in
            get_or-append_right (front ++ new) (drop (at + length new) old) (at + length new) i 0 both past ∙ get_or-drop (at + length new) old (i - (at + length new)) 0 ∙ ap (λ k. get_or old k 0) place
            ∙ sym (over_high at new (λ k. get_or old k 0) i past)
      ]
    ]

pub resized-length : (old : List ℕ) (size : ℕ) → length (resized old size) ≡ size
resized-length old size = front-length old size

pub resized-get : (old : List ℕ) (size i : ℕ) → i < size → get_or (resized old size) i 0 ≡ get_or old i 0
resized-get old size i lt = front-get old size i lt

-- ---- bytes put into a list

front_size : (at : ℕ) (xs : List ℕ) → at ≤ length xs → length (take at xs) ≡ at
front_size at xs le = omega (arith, length-take at xs)

pub patched_before : (at : ℕ) (p xs : List ℕ) (k : ℕ) → at + length p ≤ length xs → k < at → get_or (take at xs ++ p ++ drop (at + length p) xs) k 0 ≡ get_or xs k 0
patched_before at p xs k fits lt =
    let len = front_size at xs (omega arith) in
    get_or_append_left (take at xs ++ p) (drop (at + length p) xs) 0 k (omega (arith, length-append (take at xs) p))
    ∙ get_or_append_left (take at xs) p 0 k (omega arith) ∙ get_or-take at xs k 0 lt

pub patched_in : (at : ℕ) (p xs : List ℕ) (k : ℕ) → at + length p ≤ length xs → at ≤ k → k < at + length p → get_or (take at xs ++ p ++ drop (at + length p) xs) k 0 ≡ get_or p (k - at) 0
patched_in at p xs k fits low lt =
    let len = front_size at xs (omega arith) in
    get_or_append_left (take at xs ++ p) (drop (at + length p) xs) 0 k (omega (arith, length-append (take at xs) p))
    ∙ get_or-append_right (take at xs) p at k 0 len low

pub patched_after : (at : ℕ) (p xs : List ℕ) (k : ℕ) → at + length p ≤ length xs → at + length p ≤ k → get_or (take at xs ++ p ++ drop (at + length p) xs) k 0 ≡ get_or xs k 0
patched_after at p xs k fits low =
    let len = front_size at xs (omega arith) in
    let both : length (take at xs ++ p) ≡ at + length p = omega (arith, length-append (take at xs) p) in
    let place : (at + length p) + (k - (at + length p)) ≡ k = omega arith in
    get_or-append_right (take at xs ++ p) (drop (at + length p) xs) (at + length p) k 0 both low
    ∙ get_or-drop (at + length p) xs (k - (at + length p)) 0 ∙ ap (λ (i : ℕ). get_or xs i 0) place

-- Bytes that are kept as pages.
use Rattle.std.proofs.Common.{if◌then◌else◌, ◌≡◌, ℕ, zero, suc, ◌+◌, ◌-◌, ◌*◌, ◌/◌, ◌%◌, ◌<◌, ◌≤◌, ◌||◌, max, true, false, List, [], ◌∷◌, ◌++◌, length, map, take, drop, get_or, refl, sym, ◌∙◌, ap, subst, inl, inr, ◌⊎◌, arith, Some, None}
use Rattle.std.specs.Prelude.{replicate, nat_lt, nat_le, unwrap_or}
use Rattle.std.specs.Ordering.{nat_cmp}
use Rattle.std.specs.BTreeMap.{is_at}
use Rattle.std.specs.List.{range_with_len}
use Rattle.std.proofs.lemmas.Bool.{lt-ltb, le-ltb, le-leb, lt-leb, cases_lt, cases_eq}
use Rattle.std.proofs.lemmas.Bool.Decides.{nat_tests}
use Rattle.std.proofs.lemmas.List.{ext_get_or, get_or_past, get_or-take, get_or-drop, get_or-replicate, get_or_append_left, get_or-append_right, length-take, length-drop}
use Rattle.std.proofs.lemmas.List.FromFn.{length-map-range_with_len, get_or-map-range_with_len}
use mathlib.Core.Path.{fun_ext}
use Rattle.host_traits.specs.Held.{over, resized}
use Rattle.mem_files.specs.Files.{Entries, at, Puts, byte_in, bytes_in, byte_over, sparse_bytes, IsCutAt}
use Rattle.mem_files.proofs.ByteLists.{over_low, over_high, over_in, over-length, over-get, resized-length, resized-get, patched_before, patched_in, patched_after}

-- ---- look-ups by number

pub at_here : (k q : ℕ) → k ≡ q → is_at (nat_cmp k) q ≡ true
at_here k q e = grind (arith, nat_tests)

pub at_other : (k q : ℕ) → (k ≡ q → ⊥) → is_at (nat_cmp k) q ≡ false
at_other k q ne = grind (arith, nat_tests)

-- ---- a byte by its page

abbrev pub page_at : Entries (List ℕ) → ℕ → List ℕ
page_at pages number = unwrap_or (at pages number) []

pub byte_of : (pages : Entries (List ℕ)) (place : ℕ) → byte_in pages place ≡ get_or (page_at pages (place / 4096)) (place % 4096) 0
unfolding byte_in
byte_of pages place = refl

pub byte_by : (pages : Entries (List ℕ)) (number from : ℕ) → from < 4096 → byte_in pages (4096 * number + from) ≡ get_or (page_at pages number) from 0
byte_by pages number from lt =
    let page : (4096 * number + from) / 4096 ≡ number = omega arith in
    let rest : (4096 * number + from) % 4096 ≡ from = omega arith in
    byte_of pages (4096 * number + from) ∙ rw (page, rest) refl

pub zero_at : (k : ℕ) → k < 4096 → get_or {A = ℕ} (replicate 4096 0) k 0 ≡ 0
zero_at k lt = get_or-replicate 4096 k 0 0 lt

-- the bytes of a page that isn't there
pub zeros_by : (pages : Entries (List ℕ)) (number k : ℕ) → at pages number ≡ None → k < 4096 → get_or {A = ℕ} (replicate 4096 0) k 0 ≡ byte_in pages (4096 * number + k)
zeros_by pages number k none lt = zero_at k lt ∙ sym (byte_by pages number k lt ∙ rw none refl)

pub there_by : (pages : Entries (List ℕ)) (number k : ℕ) (page : List ℕ) → at pages number ≡ Some page → k < 4096 → get_or page k 0 ≡ byte_in pages (4096 * number + k)
there_by pages number k page is lt = sym (byte_by pages number k lt ∙ rw is refl)

-- bytes of a page
pub piece_of : (pages : Entries (List ℕ)) (number from count : ℕ) (bytes : List ℕ) → from + count ≤ 4096 → length bytes ≡ 4096
    → ((k : ℕ) → k < 4096 → get_or bytes k 0 ≡ byte_in pages (4096 * number + k)) → take count (drop from bytes) ≡ bytes_in pages (4096 * number + from) count
piece_of pages number from count bytes fits len same =
    let size : length (take count (drop from bytes)) ≡ count = omega (arith, length-take count (drop from bytes), length-drop from bytes) in
    ext_get_or 0 (take count (drop from bytes)) (bytes_in pages (4096 * number + from) count)
    (size ∙ sym (length-map-range_with_len (byte_in pages) (4096 * number + from) count))
    (λ i lt.
    let low : i < count = omega (arith, size, lt) in
    let place : (4096 * number + from) + i ≡ 4096 * number + (from + i) = omega arith in
    get_or-take count (drop from bytes) i 0 low ∙ get_or-drop from bytes i 0 ∙ same (from + i) (omega arith)
    ∙ sym (get_or-map-range_with_len (byte_in pages) (4096 * number + from) count i (4096 * number + (from + i)) 0 low place))

pub bytes_in-length : (pages : Entries (List ℕ)) (at n : ℕ) → length (bytes_in pages at n) ≡ n
bytes_in-length pages at n = length-map-range_with_len (byte_in pages) at n

pub bytes_in-more : (pages : Entries (List ℕ)) (at m n : ℕ) → bytes_in pages at m ++ bytes_in pages (at + m) n ≡ bytes_in pages at (m + n)
bytes_in-more pages at zero n =
    let same : at + 0 ≡ at = omega arith in
    let all : 0 + n ≡ n = omega arith in
    rw (same, all) refl
bytes_in-more pages at (suc m) n =
    let next : at + suc m ≡ (at + 1) + m = omega arith in
    let all : suc m + n ≡ suc (m + n) = omega arith in
    rw (next, all) (ap (λ z. byte_in pages at ∷ z) (bytes_in-more pages (at + 1) m n))

-- ---- the bytes up to a size

pub sparse-length : (size : ℕ) (pages : Entries (List ℕ)) → length (sparse_bytes size pages) ≡ size
unfolding sparse_bytes
sparse-length size pages = bytes_in-length pages 0 size

pub no_bytes : (pages : Entries (List ℕ)) → sparse_bytes 0 pages ≡ []
unfolding sparse_bytes
no_bytes pages = refl

pub sparse-get : (size : ℕ) (pages : Entries (List ℕ)) (i : ℕ) → i < size → get_or (sparse_bytes size pages) i 0 ≡ byte_in pages i
unfolding sparse_bytes
sparse-get size pages i lt = get_or-map-range_with_len (byte_in pages) 0 size i i 0 lt (omega arith)

pub sparse-range : (size : ℕ) (pages : Entries (List ℕ)) (at n : ℕ) → at + n ≤ size → bytes_in pages at n ≡ take n (drop at (sparse_bytes size pages))
sparse-range size pages at n fits =
    let all = sparse-length size pages in
    let size_is : length (take n (drop at (sparse_bytes size pages))) ≡ n = omega (arith, length-take n (drop at (sparse_bytes size pages)), length-drop at (sparse_bytes size pages)) in
    ext_get_or 0 (bytes_in pages at n) (take n (drop at (sparse_bytes size pages))) (bytes_in-length pages at n ∙ sym size_is) (λ i lt.
    let low : i < n = omega (arith, bytes_in-length pages at n, lt) in
    get_or-map-range_with_len (byte_in pages) at n i (at + i) 0 low refl ∙ sym (sparse-get size pages (at + i) (omega arith))
    ∙ sym (get_or-drop at (sparse_bytes size pages) i 0) ∙ sym (get_or-take n (drop at (sparse_bytes size pages)) i 0 low))

-- each byte, also past the size
whole : (size : ℕ) (pages : Entries (List ℕ)) → IsCutAt size pages → (i : ℕ) → get_or (sparse_bytes size pages) i 0 ≡ byte_in pages i
whole size pages cut i = elim (cases_lt i size) [
  | inl low ↦ sparse-get size pages i low
  | inr past ↦ get_or_past (sparse_bytes size pages) i 0 (omega (arith, sparse-length size pages)) ∙ sym (cut i past)
]

pub sparse_same : (size : ℕ) (old new : Entries (List ℕ)) → ((i : ℕ) → byte_in new i ≡ byte_in old i) → sparse_bytes size new ≡ sparse_bytes size old
unfolding sparse_bytes
sparse_same size old new same =
    let e : byte_in new ≡ byte_in old = fun_ext same in
    ap (λ (f : ℕ → ℕ). map f (range_with_len 0 size)) e

pub cut_same : (size : ℕ) (old new : Entries (List ℕ)) → ((i : ℕ) → byte_in new i ≡ byte_in old i) → IsCutAt size old → IsCutAt size new
cut_same size old new same cut = λ i le. same i ∙ cut i le

pub sparse_over : (size : ℕ) (old new : Entries (List ℕ)) (at n : ℕ) (bytes : List ℕ) → IsCutAt size old → ((i : ℕ) → byte_in new i ≡ byte_over at bytes (byte_in old) i) → n ≡ max size (at + length bytes)
    → sparse_bytes n new ≡ over (sparse_bytes size old) at bytes
sparse_over size old new at n bytes cut put is =
    let all : (λ (k : ℕ). get_or (sparse_bytes size old) k 0) ≡ byte_in old = fun_ext (whole size old cut) in
    let len : length (over (sparse_bytes size old) at bytes) ≡ n = over-length (sparse_bytes size old) at bytes ∙ ap (λ z. max z (at + length bytes)) (sparse-length size old) ∙ sym is in
    ext_get_or 0 (sparse_bytes n new) (over (sparse_bytes size old) at bytes) (sparse-length n new ∙ sym len) (λ i lt.
    sparse-get n new i (omega (arith, sparse-length n new, lt)) ∙ put i ∙ ap (λ (f : ℕ → ℕ). byte_over at bytes f i) (sym all) ∙ sym (over-get (sparse_bytes size old) at bytes i))

pub cut_over : (size : ℕ) (old new : Entries (List ℕ)) (at n : ℕ) (bytes : List ℕ) → IsCutAt size old → ((i : ℕ) → byte_in new i ≡ byte_over at bytes (byte_in old) i) → n ≡ max size (at + length bytes) → IsCutAt n new
cut_over size old new at n bytes cut put is = λ i le. put i ∙ over_high at bytes (byte_in old) i (omega arith) ∙ cut i (omega arith)

pub sparse_resized : (size n : ℕ) (old new : Entries (List ℕ)) → IsCutAt size old → ((i : ℕ) → i < n → byte_in new i ≡ byte_in old i) → sparse_bytes n new ≡ resized (sparse_bytes size old) n
sparse_resized size n old new cut same =
    ext_get_or 0 (sparse_bytes n new) (resized (sparse_bytes size old) n) (sparse-length n new ∙ sym (resized-length (sparse_bytes size old) n)) (λ i lt.
    let low : i < n = omega (arith, sparse-length n new, lt) in
    sparse-get n new i low ∙ same i low ∙ sym (whole size old cut i) ∙ sym (resized-get (sparse_bytes size old) n i low))

-- ---- what happens to the pages

abbrev other_byte : Entries (List ℕ) → Entries (List ℕ) → ℕ → Type 0
other_byte old new number = (place : ℕ) → (place / 4096 ≡ number → ⊥) → byte_in new place ≡ byte_in old place

pub others : (old new : Entries (List ℕ)) (number : ℕ) (page : List ℕ) → Puts old new number page → (place : ℕ) → (place / 4096 ≡ number → ⊥) → byte_in new place ≡ byte_in old place
others old new number page puts place ne =
    let apart : is_at (nat_cmp number) (place / 4096) ≡ false = at_other number (place / 4096) (λ e. ne (sym e)) in
    byte_of new place ∙ rw (puts (place / 4096), apart) (sym (byte_of old place))

pub this : (old new : Entries (List ℕ)) (number : ℕ) (page : List ℕ) → Puts old new number page → (place : ℕ) → place / 4096 ≡ number → byte_in new place ≡ get_or page (place % 4096) 0
this old new number page puts place is =
    let here : is_at (nat_cmp number) (place / 4096) ≡ true = at_here number (place / 4096) (sym is) in
    byte_of new place ∙ rw (puts (place / 4096), here) refl

-- a page of zeros where there was none
pub zeros_put : (old new : Entries (List ℕ)) (number : ℕ) → at old number ≡ None → Puts old new number (replicate 4096 0) → (place : ℕ) → byte_in new place ≡ byte_in old place
zeros_put old new number none puts place = elim (cases_eq (place / 4096) number) [
  | inl is ↦
      let empty : at old (place / 4096) ≡ None = subst (λ z. at old z ≡ None) (sym is) none in
      this old new number (replicate 4096 0) puts place is ∙ get_or-replicate 4096 (place % 4096) 0 0 (omega arith) ∙ sym (byte_of old place ∙ rw empty refl)
  | inr ne ↦ others old new number (replicate 4096 0) puts place ne
]

-- a place in another page
beyond : (place number : ℕ) → (place / 4096 ≡ number → ⊥) → (place < 4096 * number) ⊎ (4096 * number + 4096 ≤ place)
beyond place number ne = elim (cases_lt (place / 4096) number) [
  | inl low ↦ inl (omega arith)
  | inr high ↦ elim (cases_lt number (place / 4096)) [ inl more ↦ inr (omega arith) | inr no_more ↦ absurd (ne (omega arith)) ]
]

-- a page with bytes put into it
pub piece_put : (old new : Entries (List ℕ)) (number from : ℕ) (page piece : List ℕ) → from + length piece ≤ 4096 → length page ≡ 4096 → at old number ≡ Some page
    → Puts old new number (take from page ++ piece ++ drop (from + length piece) page) → (place : ℕ) → byte_in new place ≡ byte_over (4096 * number + from) piece (byte_in old) place
piece_put old new number from page piece fits len there puts place =
    let after : List ℕ = take from page ++ piece ++ drop (from + length piece) page in
    elim (cases_eq (place / 4096) number) [
      | inr ne ↦ elim (beyond place number ne) [
        | inl low ↦ others old new number after puts place ne ∙ sym (over_low (4096 * number + from) piece (byte_in old) place (omega arith))
        | inr high ↦ others old new number after puts place ne ∙ sym (over_high (4096 * number + from) piece (byte_in old) place (omega arith))
      ]
      | inl is ↦
          let here : at old (place / 4096) ≡ Some page = subst (λ z. at old z ≡ Some page) (sym is) there in
          let was : byte_in old place ≡ get_or page (place % 4096) 0 = byte_of old place ∙ rw here refl in
          let put = this old new number after puts place is in
          let split : place ≡ 4096 * number + place % 4096 = omega (arith, is) in
          elim (cases_lt (place % 4096) from) [
            | inl low ↦ put ∙ patched_before from piece page (place % 4096) (omega arith) low ∙ sym was ∙ sym (over_low (4096 * number + from) piece (byte_in old) place (omega (arith, split)))
            | inr high ↦ elim (cases_lt (place % 4096) (from + length piece)) [
              | inl inside ↦
                  let at_is : place % 4096 - from ≡ place - (4096 * number + from) = omega (arith, split) in
                  put ∙ patched_in from piece page (place % 4096) (omega arith) high inside ∙ ap (λ k. get_or piece k 0) at_is ∙ sym (over_in (4096 * number + from) piece (byte_in old) place (omega (arith, split)) (omega (arith, split)))
              | inr past ↦ put ∙ patched_after from piece page (place % 4096) (omega arith) past ∙ sym was ∙ sym (over_high (4096 * number + from) piece (byte_in old) place (omega (arith, split)))
            ]
          ]
    ]

-- a page that ends with zeros
pub page_cleared : (old new : Entries (List ℕ)) (number from : ℕ) (page : List ℕ) → from ≤ 4096 → length page ≡ 4096 → at old number ≡ Some page
    → Puts old new number (take from page ++ replicate (4096 - from) 0) → (place : ℕ)
    → byte_in new place ≡ (if nat_lt place (4096 * number + from) || nat_le (4096 * number + 4096) place then byte_in old place else 0)
page_cleared old new number from page fits len there puts place =
    let after : List ℕ = take from page ++ replicate (4096 - from) 0 in
    let front : length (take from page) ≡ from = omega (arith, length-take from page) in
    elim (cases_eq (place / 4096) number) [
      | inr ne ↦ elim (beyond place number ne) [
        | inl low ↦ let before : place < 4096 * number + from = omega arith in others old new number after puts place ne ∙ rw (lt-ltb place (4096 * number + from) before) refl
        | inr high ↦
            let behind : 4096 * number + from ≤ place = omega arith in
            others old new number after puts place ne ∙ rw (le-ltb place (4096 * number + from) behind, le-leb (4096 * number + 4096) place high) refl
      ]
      | inl is ↦
          let here : at old (place / 4096) ≡ Some page = subst (λ z. at old z ≡ Some page) (sym is) there in
          let was : byte_in old place ≡ get_or page (place % 4096) 0 = byte_of old place ∙ rw here refl in
          let put = this old new number after puts place is in
          let split : place ≡ 4096 * number + place % 4096 = omega (arith, is) in
          let rest : place % 4096 < 4096 = omega arith in
          elim (cases_lt (place % 4096) from) [
            | inl low ↦
                let before : place < 4096 * number + from = omega (arith, split) in
                put ∙ get_or_append_left (take from page) (replicate (4096 - from) 0) 0 (place % 4096) (omega arith) ∙ get_or-take from page (place % 4096) 0 low ∙ sym was ∙ rw (lt-ltb place (4096 * number + from) before) refl
            | inr high ↦
                let behind : 4096 * number + from ≤ place = omega (arith, split) in
                let within : place < 4096 * number + 4096 = omega (arith, split) in
                put ∙ get_or-append_right (take from page) (replicate (4096 - from) 0) from (place % 4096) 0 front high ∙ get_or-replicate (4096 - from) (place % 4096 - from) 0 0 (omega arith)
                ∙ rw (le-ltb place (4096 * number + from) behind, lt-leb (4096 * number + 4096) place within) refl
          ]
    ]

-- there is no page to clear
pub none_cleared : (pages : Entries (List ℕ)) (number from : ℕ) → at pages number ≡ None → (place : ℕ)
    → byte_in pages place ≡ (if nat_lt place (4096 * number + from) || nat_le (4096 * number + 4096) place then byte_in pages place else 0)
none_cleared pages number from none place = elim (cases_lt place (4096 * number + from)) [
  | inl low ↦ rw (lt-ltb place (4096 * number + from) low) refl
  | inr high ↦ elim (cases_lt place (4096 * number + 4096)) [
    | inr past ↦ rw (le-ltb place (4096 * number + from) high, le-leb (4096 * number + 4096) place past) refl
    | inl within ↦ elim (cases_eq (place / 4096) number) [
      | inl is ↦
          let here : at pages (place / 4096) ≡ None = subst (λ z. at pages z ≡ None) (sym is) none in
          byte_of pages place ∙ rw (here, le-ltb place (4096 * number + from) high, lt-leb (4096 * number + 4096) place within) refl
      | inr ne ↦ elim (beyond place number ne) [ inl low ↦ absurd (omega arith) | inr far ↦ absurd (omega arith) ]
    ]
  ]
]

-- bytes past a size
pub cut_at : (old mid new : Entries (List ℕ)) (size limit : ℕ) → size ≤ 4096 * limit → 4096 * limit < size + 4096 → ((q : ℕ) → at mid q ≡ (if nat_lt q limit then at old q else None))
    → ((place : ℕ) → byte_in new place ≡ (if nat_lt place (4096 * (size / 4096) + size % 4096) || nat_le (4096 * (size / 4096) + 4096) place then byte_in mid place else 0))
    → (place : ℕ) → byte_in new place ≡ (if nat_lt place size then byte_in old place else 0)
cut_at old mid new size limit low high dropped cleared place =
    let whole_is : 4096 * (size / 4096) + size % 4096 ≡ size = omega arith in
    elim (cases_lt place size) [
      | inl before ↦
          let kept : place / 4096 < limit = omega arith in
          let first : place < 4096 * (size / 4096) + size % 4096 = omega arith in
          let same : at mid (place / 4096) ≡ at old (place / 4096) = dropped (place / 4096) ∙ rw (lt-ltb (place / 4096) limit kept) refl in
          let byte : byte_in mid place ≡ byte_in old place = byte_of mid place ∙ ap (λ o. get_or (unwrap_or o []) (place % 4096) 0) same ∙ sym (byte_of old place) in
          let shown : byte_in new place ≡ byte_in mid place = cleared place ∙ rw (lt-ltb place (4096 * (size / 4096) + size % 4096) first) refl in
          rw (lt-ltb place size before) (shown ∙ byte)
      | inr behind ↦
          let past : 4096 * (size / 4096) + size % 4096 ≤ place = omega arith in
          elim (cases_lt place (4096 * (size / 4096) + 4096)) [
            | inl within ↦ cleared place ∙ rw (le-ltb place (4096 * (size / 4096) + size % 4096) past, lt-leb (4096 * (size / 4096) + 4096) place within, le-ltb place size behind) refl
            | inr far ↦
                let gone : limit ≤ place / 4096 = omega arith in
                let none : at mid (place / 4096) ≡ None = dropped (place / 4096) ∙ rw (le-ltb (place / 4096) limit gone) refl in
                let byte : byte_in mid place ≡ 0 = byte_of mid place ∙ rw none refl in
                let shown : byte_in new place ≡ byte_in mid place = cleared place ∙ rw (le-ltb place (4096 * (size / 4096) + size % 4096) past, le-leb (4096 * (size / 4096) + 4096) place far) refl in
                rw (le-ltb place size behind) (shown ∙ byte)
          ]
    ]

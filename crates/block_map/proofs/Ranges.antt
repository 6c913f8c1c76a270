-- A range of the disk, one component after another.
use Rattle.std.proofs.Common.{◌≡◌, ◌<◌, ◌≤◌, ◌+◌, ◌-◌, ℕ, List, [], length, get_or, min, true, sym, ap, subst, ◌∙◌, arith, inl, inr}
use Rattle.std.proofs.lemmas.Bool.{cases_lt}
use Rattle.composite_spec.specs.Said.{Composite, IsComposite}
use Rattle.block_map.specs.Disk.{byte_at, begin_of, end_of, is_writable, MayWrite, MayWriteBelow, Fits}
use Rattle.block_map.proofs.Offsets.{Holds, holds_by, holds_next, byte_in, begin_end, begin_lt, end_before}

abbrev pub SoFar : Composite → List (List ℕ) → ℕ → List ℕ → ℕ → Type 0
SoFar s files at out k = (i : ℕ) → i < k → get_or out i 0 ≡ byte_at (at + i) 0 s.components files

pub copied : (s : Composite) (files : List (List ℕ)) (at done index n : ℕ) (out new : List ℕ) → IsComposite s → length files ≡ length s.components → Holds s (at + done) index
    → n ≤ end_of s index - (at + done)
    → ((k : ℕ) → k < done → get_or new k 0 ≡ get_or out k 0)
    → ((k : ℕ) → k < n → get_or new (done + k) 0 ≡ get_or (get_or files index []) (((at + done) - begin_of s index) + k) 0)
    → SoFar s files at out done → SoFar s files at new (done + n)
copied s files at done index n out new h same held short kept each before = λ i lt.
    elim (cases_lt i done) [
      | inl less ↦ kept i less ∙ before i less
      | inr more ↦
          let low : begin_of s index ≤ at + done = held.begins in
          let high : at + done < end_of s index = held.ends in
          let here : i ≡ done + (i - done) = omega arith in
          let place : ((at + done) - begin_of s index) + (i - done) ≡ (at + i) - begin_of s index = omega arith in
          ap (λ (k : ℕ). get_or new k 0) here ∙ each (i - done) (omega arith) ∙ ap (λ (k : ℕ). get_or (get_or files index []) k 0) place
          ∙ sym (byte_in s files (at + i) index h same held.is (omega arith) (omega arith))
    ]

pub held_first : (s : Composite) (at index total : ℕ) → index < length s.components → begin_of s index ≤ at → (index + 1 < length s.components → at < begin_of s (index + 1)) → at + total ≤ s.length → 0 < total → Holds s (at + 0) index
held_first s at index total lt low later range some =
    let same : at ≡ at + 0 = omega arith in
    subst (λ (x : ℕ). Holds s x index) same (holds_by s at index lt low later (omega arith))

pub held_next : (s : Composite) (at done index n total : ℕ) → IsComposite s → Holds s (at + done) index → n ≡ min (end_of s index - (at + done)) (total - done) → at + total ≤ s.length
    → done + n < total → Holds s (at + (done + n)) (index + 1)
held_next s at done index n total h held is range more =
    let high : at + done < end_of s index = held.ends in
    holds_next s (at + (done + n)) index h held.is (omega arith) (omega arith)

-- ---- whether a range may be written

pub none_before : (s : Composite) (files : List (List ℕ)) (at end index : ℕ) → IsComposite s → index < length s.components → begin_of s index ≤ at → MayWriteBelow s files at end index
none_before s files at end index h lt low = λ i less touched.
    let k = end_before s i index h less lt in
    let e : at < end_of s i = touched.ends in
    absurd (omega arith)

pub one_more : (s : Composite) (files : List (List ℕ)) (at end index : ℕ) → MayWriteBelow s files at end index → is_writable s index ≡ true → Fits s files end index → MayWriteBelow s files at end (index + 1)
one_more s files at end index before writable fits = λ i lt touched.
    elim (cases_lt i index) [
      | inl less ↦ before i less touched
      | inr more ↦ let same : index ≡ i = omega arith in subst (λ (k : ℕ). MayWrite s files end k) same (record { writable = writable; fits = fits })
    ]

pub none_after : (s : Composite) (files : List (List ℕ)) (at end index : ℕ) → IsComposite s → index < length s.components → end ≤ begin_of s index → MayWriteBelow s files at end index → MayWriteBelow s files at end (length s.components)
none_after s files at end index h lt past before = λ i less touched.
    let e : begin_of s i < end = touched.begins in
    elim (cases_lt i index) [
      | inl low ↦ before i low touched
      | inr more ↦ elim (cases_lt index i) [
        | inl high ↦ let k = begin_lt s index i h high less in absurd (omega arith)
        | inr no_more ↦ let same : i ≡ index = omega arith in let e2 : begin_of s index < end = subst (λ (k : ℕ). begin_of s k < end) same e in absurd (omega arith)
      ]
    ]

pub ahead_next : (s : Composite) (at index : ℕ) → IsComposite s → at < end_of s index → index + 1 < length s.components → at < end_of s (index + 1)
ahead_next s at index h before lt =
    let k = end_before s index (index + 1) h (omega arith) lt in
    let e = begin_end s (index + 1) h lt in
    omega arith

-- the file of a touched component has room for the range's bytes in it
pub room_in : (s : Composite) (files : List (List ℕ)) (at done index total : ℕ) → Holds s (at + done) index → done < total → MayWriteBelow s files at (at + total) (length s.components)
    → min (at + total) (end_of s index) ≤ begin_of s index + length (get_or files index [])
room_in s files at done index total held more may =
    let low : begin_of s index ≤ at + done = held.begins in
    let high : at + done < end_of s index = held.ends in
    (may index held.is (record { is = held.is; some = omega arith; begins = omega arith; ends = omega arith })).fits

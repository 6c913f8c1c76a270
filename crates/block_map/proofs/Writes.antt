-- Bytes written into the files, one component after another.
use Rattle.std.proofs.Common.{◌≡◌, ◌<◌, ◌≤◌, ◌+◌, ◌-◌, ◌++◌, ℕ, zero, suc, List, [], length, get_or, take, drop, refl, sym, ap, subst, ◌∙◌, arith, inl, inr, length-append, length-take, length-drop}
use Rattle.std.proofs.Math.ListN.{set}
use Rattle.std.proofs.lemmas.Bool.{lt-ltb, le-ltb, cases_lt}
use Rattle.std.proofs.lemmas.List.{ext_get_or, get_or_past, get_or-take, get_or-drop, get_or-set_same, get_or-set_other, length-set}
use Rattle.std.proofs.lemmas.List.FromFn.{get_or-map-range_with_len, length-map-range_with_len}
use Rattle.composite_spec.specs.Said.{Composite, IsComposite}
use Rattle.block_map.specs.Disk.{byte_at, disk_bytes, begin_of, end_of, byte_written, IsWritten, AreWritten, MayWriteBelow}
use Rattle.block_map.proofs.Offsets.{Holds, holds_by, byte_in, begins_first, some_component, end_before}
use Rattle.block_map.proofs.Patches.{patched, patched_before, patched_in, patched_after, patched_length}

written_out : (s : Composite) (at : ℕ) (bytes : List ℕ) (i y old : ℕ) → (at ≤ begin_of s i + y → begin_of s i + y < at + length bytes → begin_of s i + y < end_of s i → ⊥) → byte_written s at bytes i y old ≡ old
written_out s at bytes i y old out =
    let p : ℕ = begin_of s i + y in
    elim (cases_lt p at) [
      | inl less ↦ rw (lt-ltb p at less) refl
      | inr low ↦ elim (cases_lt p (at + length bytes)) [
        | inr more ↦ rw (le-ltb p at low, le-ltb p (at + length bytes) more) refl
        | inl high ↦ elim (cases_lt p (end_of s i)) [
          | inr past ↦ rw (le-ltb p at low, lt-ltb p (at + length bytes) high, le-ltb p (end_of s i) past) refl
          | inl within ↦ absurd (out low high within)
        ]
      ]
    ]

written_in : (s : Composite) (at : ℕ) (bytes : List ℕ) (i y old : ℕ) → at ≤ begin_of s i + y → begin_of s i + y < at + length bytes → begin_of s i + y < end_of s i → byte_written s at bytes i y old ≡ get_or bytes ((begin_of s i + y) - at) 0
written_in s at bytes i y old low high within =
    let p : ℕ = begin_of s i + y in
    rw (le-ltb p at low, lt-ltb p (at + length bytes) high, lt-ltb p (end_of s i) within) refl

front_size : (n : ℕ) (bytes : List ℕ) → n ≤ length bytes → length (take n bytes) ≡ n
front_size n bytes le = omega (arith, length-take n bytes)

-- n bytes more change nothing but at their own places
same_byte : (s : Composite) (at done n : ℕ) (bytes : List ℕ) (i y old : ℕ) → done + n ≤ length bytes
    → (at + done ≤ begin_of s i + y → begin_of s i + y < at + (done + n) → begin_of s i + y < end_of s i → ⊥)
    → byte_written s at (take done bytes) i y old ≡ byte_written s at (take (done + n) bytes) i y old
same_byte s at done n bytes i y old fits out =
    let p : ℕ = begin_of s i + y in
    let few = front_size done bytes (omega arith) in
    let many = front_size (done + n) bytes fits in
    elim (cases_lt p (at + done)) [
      | inr more ↦ written_out s at (take done bytes) i y old (λ a b c. absurd (omega arith)) ∙ sym (written_out s at (take (done + n) bytes) i y old (λ a b c. out more (omega arith) c))
      | inl less ↦ elim (cases_lt p at) [
        | inl before ↦ written_out s at (take done bytes) i y old (λ a b c. absurd (omega arith)) ∙ sym (written_out s at (take (done + n) bytes) i y old (λ a b c. absurd (omega arith)))
        | inr low ↦ elim (cases_lt p (end_of s i)) [
          | inr past ↦ written_out s at (take done bytes) i y old (λ a b c. absurd (omega arith)) ∙ sym (written_out s at (take (done + n) bytes) i y old (λ a b c. absurd (omega arith)))
          | inl within ↦ written_in s at (take done bytes) i y old low (omega arith) within ∙ get_or-take done bytes (p - at) 0 (omega arith)
              ∙ sym (written_in s at (take (done + n) bytes) i y old low (omega arith) within ∙ get_or-take (done + n) bytes (p - at) 0 (omega arith))
        ]
      ]
    ]

pub wrote_none : (s : Composite) (at : ℕ) (old : List (List ℕ)) → AreWritten s at [] old old
wrote_none s at old = record { count = refl; files = λ i. record { size = refl; each = λ y lt. sym (written_out s at [] i y (get_or (get_or old i []) y 0) (λ a b c. absurd (omega arith))) } }

-- the file of a component that these bytes are not in
other_file : (s : Composite) (at done index n i : ℕ) (bytes old cur new : List ℕ) → done + n ≤ length bytes → new ≡ cur
    → ((y : ℕ) → y < length old → at + done ≤ begin_of s i + y → begin_of s i + y < at + (done + n) → begin_of s i + y < end_of s i → ⊥)
    → IsWritten s at (take done bytes) i old cur → IsWritten s at (take (done + n) bytes) i old new
other_file s at done index n i bytes old cur new fits is out before = record {
  size = ap length is ∙ before.size;
  each = λ y lt. ap (λ (x : List ℕ). get_or x y 0) is ∙ before.each y lt ∙ same_byte s at done n bytes i y (get_or old y 0) fits (λ a b c. out y lt a b c);
}

-- the file of the component that they are in
this_file : (s : Composite) (at done index : ℕ) (bytes old cur new p : List ℕ) → done + length p ≤ length bytes → Holds s (at + done) index → length p ≤ end_of s index - (at + done)
    → ((at + done) - begin_of s index) + length p ≤ length cur → ((k : ℕ) → k < length p → get_or p k 0 ≡ get_or bytes (done + k) 0)
    → new ≡ patched ((at + done) - begin_of s index) p cur
    → IsWritten s at (take done bytes) index old cur → IsWritten s at (take (done + length p) bytes) index old new
this_file s at done index bytes old cur new p fits held short room same is before =
    let low : begin_of s index ≤ at + done = held.begins in
    let high : at + done < end_of s index = held.ends in
    let n : ℕ = length p in
    let from : ℕ = (at + done) - begin_of s index in
    let many = front_size (done + n) bytes fits in
    record {
      size = ap length is ∙ omega (arith, length-append (take from cur ++ p) (drop (from + n) cur), length-append (take from cur) p, length-take from cur, length-drop (from + n) cur) ∙ before.size;
      each = λ y lt. ap (λ (x : List ℕ). get_or x y 0) is ∙ elim (cases_lt y from) [
        | inl less ↦ patched_before from p cur y room less ∙ before.each y lt ∙ same_byte s at done n bytes index y (get_or old y 0) fits (λ a b c. absurd (omega arith))
        | inr more ↦ elim (cases_lt y (from + n)) [
          | inl within ↦
              let place : done + (y - from) ≡ (begin_of s index + y) - at = omega arith in
              patched_in from p cur y room more within ∙ same (y - from) (omega arith) ∙ ap (λ (k : ℕ). get_or bytes k 0) place
              ∙ sym (written_in s at (take (done + n) bytes) index y (get_or old y 0) (omega arith) (omega arith) (omega arith) ∙ get_or-take (done + n) bytes ((begin_of s index + y) - at) 0 (omega arith))
          | inr past ↦ patched_after from p cur y room past ∙ before.each y lt ∙ same_byte s at done n bytes index y (get_or old y 0) fits (λ a b c. absurd (omega arith))
        ]
      ];
    }

pub wrote_more : (s : Composite) (at done index : ℕ) (bytes p : List ℕ) (old cur : List (List ℕ)) → IsComposite s → length old ≡ length s.components → done + length p ≤ length bytes → Holds s (at + done) index
    → length p ≤ end_of s index - (at + done) → ((at + done) - begin_of s index) + length p ≤ length (get_or cur index []) → ((k : ℕ) → k < length p → get_or p k 0 ≡ get_or bytes (done + k) 0)
    → AreWritten s at (take done bytes) old cur → AreWritten s at (take (done + length p) bytes) old (set cur index (patched ((at + done) - begin_of s index) p (get_or cur index [])))
wrote_more s at done index bytes p old cur h count fits held short room same before =
    let low : begin_of s index ≤ at + done = held.begins in
    let high : at + done < end_of s index = held.ends in
    let within : index < length s.components = held.is in
    let same_count : length cur ≡ length old = before.count in
    let v : List ℕ = patched ((at + done) - begin_of s index) p (get_or cur index []) in
    record {
      count = length-set cur index v ∙ before.count;
      files = λ i. elim (cases_lt i index) [
        | inl less ↦ other_file s at done index (length p) i bytes (get_or old i []) (get_or cur i []) (get_or (set cur index v) i []) fits (get_or-set_other cur index i v [] (λ e. absurd (omega arith)))
            (λ y lt a b c. let k = end_before s i index h less within in absurd (omega arith)) (before.files i)
        | inr more ↦ elim (cases_lt index i) [
          | inl greater ↦ other_file s at done index (length p) i bytes (get_or old i []) (get_or cur i []) (get_or (set cur index v) i []) fits (get_or-set_other cur index i v [] (λ e. absurd (omega arith)))
              (λ y lt a b c. elim (cases_lt i (length s.components)) [
                | inl inside ↦ let k = end_before s index i h greater inside in absurd (omega arith)
                | inr beyond ↦ let none : length (get_or old i []) ≡ 0 = ap length (get_or_past old i [] (omega arith)) in absurd (omega arith)
              ]) (before.files i)
          | inr no_greater ↦
              let is : index ≡ i = omega arith in
              subst (λ (k : ℕ). IsWritten s at (take (done + length p) bytes) k (get_or old k []) (get_or (set cur index v) k [])) is
              (this_file s at done index bytes (get_or old index []) (get_or cur index []) (get_or (set cur index v) index []) p fits held short room same (get_or-set_same cur index v [] (omega arith)) (before.files index))
        ]
      ];
    }

-- ---- the disk after a write

-- the component of a place, searched from the k-th down
find : (s : Composite) (x k : ℕ) → IsComposite s → x < s.length → k ≤ length s.components → 0 < k → (k < length s.components → x < begin_of s k) → (i : ℕ) × Holds s x i
find s x zero h few le some later = absurd (omega arith)
find s x (suc zero) h few le some later =
    let first = begins_first s h in
    (0, holds_by s x 0 (omega arith) (omega arith) later few)
find s x (suc (suc k)) h few le some later =
    elim (cases_lt x (begin_of s (suc k))) [
      | inl less ↦ find s x (suc k) h few (omega arith) (omega arith) (λ lt. less)
      | inr more ↦
          let next : suc (suc k) ≡ suc k + 1 = omega arith in
          (suc k, holds_by s x (suc k) (omega arith) more (λ lt. subst (λ (j : ℕ). x < begin_of s j) next (later (omega arith))) few)
    ]

pub holder_of : (s : Composite) (x : ℕ) → IsComposite s → x < s.length → (i : ℕ) × Holds s x i
holder_of s x h few = find s x (length s.components) h few (omega arith) (some_component s h) (λ lt. absurd (omega arith))

pub disk_at : (s : Composite) (files : List (List ℕ)) (x : ℕ) → x < s.length → get_or (disk_bytes s files) x 0 ≡ byte_at x 0 s.components files
unfolding disk_bytes
disk_at s files x few = get_or-map-range_with_len (λ y. byte_at y 0 s.components files) 0 s.length x x 0 few (omega arith)

pub disk_length : (s : Composite) (files : List (List ℕ)) → length (disk_bytes s files) ≡ s.length
unfolding disk_bytes
disk_length s files = length-map-range_with_len (λ y. byte_at y 0 s.components files) 0 s.length

-- the range copied is the disk's
pub copied_range : (s : Composite) (files : List (List ℕ)) (at n : ℕ) (out : List ℕ) → length out ≡ n → at + n ≤ s.length → ((k : ℕ) → k < n → get_or out k 0 ≡ byte_at (at + k) 0 s.components files)
    → out ≡ take n (drop at (disk_bytes s files))
copied_range s files at n out long range each =
    let size = disk_length s files in
    let range_bytes : List ℕ = take n (drop at (disk_bytes s files)) in
    ext_get_or 0 out range_bytes (omega (arith, length-take n (drop at (disk_bytes s files)), length-drop at (disk_bytes s files)))
    (λ i lt. each i (omega arith) ∙ sym (get_or-take n (drop at (disk_bytes s files)) i 0 (omega arith) ∙ get_or-drop at (disk_bytes s files) i 0 ∙ disk_at s files (at + i) (omega arith)))

file_kept : (s : Composite) (at : ℕ) (bytes : List ℕ) (i y : ℕ) (f g : List ℕ) → IsWritten s at bytes i f g → (at ≤ begin_of s i + y → begin_of s i + y < at + length bytes → ⊥) → get_or g y 0 ≡ get_or f y 0
file_kept s at bytes i y f g w out =
    elim (cases_lt y (length f)) [
      | inl lt ↦ w.each y lt ∙ written_out s at bytes i y (get_or f y 0) (λ a b c. out a b)
      | inr le ↦ let size = w.size in get_or_past g y 0 (omega arith) ∙ sym (get_or_past f y 0 le)
    ]

-- a byte of a disk written: that of the bytes, or as before
byte_after : (s : Composite) (at : ℕ) (bytes : List ℕ) (old new : List (List ℕ)) (x : ℕ) → IsComposite s → length old ≡ length s.components → at + length bytes ≤ s.length → AreWritten s at bytes old new
    → MayWriteBelow s old at (at + length bytes) (length s.components) → x < s.length → byte_at x 0 s.components new ≡ get_or (patched at bytes (disk_bytes s old)) x 0
byte_after s at bytes old new x h count range written may few =
    let w = holder_of s x h few in
    let i : ℕ = w.0 in
    let held : Holds s x i = w.1 in
    let low : begin_of s i ≤ x = held.begins in
    let high : x < end_of s i = held.ends in
    let f : List ℕ = get_or old i [] in
    let g : List ℕ = get_or new i [] in
    let y : ℕ = x - begin_of s i in
    let is : begin_of s i + y ≡ x = omega arith in
    let size = disk_length s old in
    let fits : at + length bytes ≤ length (disk_bytes s old) = omega arith in
    let now : byte_at x 0 s.components new ≡ get_or g y 0 = byte_in s new x i h (written.count ∙ count) held.is low high in
    let was : get_or f y 0 ≡ get_or (disk_bytes s old) x 0 = sym (byte_in s old x i h count held.is low high) ∙ sym (disk_at s old x few) in
    now ∙ elim (cases_lt x at) [
      | inl before ↦ file_kept s at bytes i y f g (written.files i) (λ a b. absurd (omega arith)) ∙ was ∙ sym (patched_before at bytes (disk_bytes s old) x fits before)
      | inr from ↦ elim (cases_lt x (at + length bytes)) [
        | inr past ↦ file_kept s at bytes i y f g (written.files i) (λ a b. absurd (omega arith)) ∙ was ∙ sym (patched_after at bytes (disk_bytes s old) x fits past)
        | inl within ↦
            let room = (may i held.is (record { is = held.is; some = omega arith; begins = omega arith; ends = omega arith })).fits in
            let place : (begin_of s i + y) - at ≡ x - at = omega arith in
            (written.files i).each y (omega arith) ∙ written_in s at bytes i y (get_or f y 0) (omega arith) (omega arith) (omega arith)
            ∙ ap (λ (k : ℕ). get_or bytes k 0) place ∙ sym (patched_in at bytes (disk_bytes s old) x fits from within)
      ]
    ]

pub disk_after : (s : Composite) (at : ℕ) (bytes : List ℕ) (old new : List (List ℕ)) → IsComposite s → length old ≡ length s.components → at + length bytes ≤ s.length → AreWritten s at bytes old new
    → MayWriteBelow s old at (at + length bytes) (length s.components) → disk_bytes s new ≡ patched at bytes (disk_bytes s old)
disk_after s at bytes old new h count range written may =
    let size = disk_length s old in
    let size_new = disk_length s new in
    let size_put = patched_length at bytes (disk_bytes s old) (omega arith) in
    ext_get_or 0 (disk_bytes s new) (patched at bytes (disk_bytes s old)) (omega arith)
    (λ x lt. disk_at s new x (omega arith) ∙ byte_after s at bytes old new x h count range written may (omega arith))

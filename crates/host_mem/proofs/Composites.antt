-- The bytes of a composite disk, and which of them may be written.
use Rattle.std.proofs.Common.{◌≡◌, ◌<◌, ◌≤◌, ◌+◌, ◌-◌, ◌++◌, ◌&&◌, ℕ, zero, suc, min, max, Bool, true, false, List, [], length, take, drop, get_or, refl, sym, ◌∙◌, ap, subst, arith, inl, inr, ◌⊎◌, append-nil}
use Rattle.std.specs.Prelude.{Result, Ok, Err, nat_le, nat_lt}
use Rattle.std.specs.List.{list_any, range_with_len}
use Rattle.std.proofs.lemmas.Bool.{lt-ltb, le-ltb, le-leb, lt-leb, cases_lt, cases_order, or_left, or_right, and_left, and_right}
use Rattle.std.proofs.lemmas.List.{take_at}
use Rattle.std.proofs.lemmas.List.FromFn.{length-map-range_with_len}
use mathlib.Core.Path.{fun_ext}
use Rattle.host_traits.specs.Held.{over, all_writable}
use Rattle.composite_spec.specs.Said.{Composite, IsComposite}
use Rattle.block_map.specs.declared.map.MapFault.{MapFault}
use Rattle.block_map.specs.declared.map.MapFault.TheVariants as faults
use Rattle.block_map.specs.Disk.{byte_at, disk_bytes, begin_of, end_of, is_writable, Judges, MayWriteBelow, IsTouched, AreWritten}
use Rattle.host_mem.specs.Made.{composite_disk, is_open}
use Rattle.block_map.proofs.Offsets.{Holds, begin_end, end_before}
use Rattle.block_map.proofs.Writes.{holder_of}

pub disk_length : (s : Composite) (files : List (List ℕ)) → length (disk_bytes s files) ≡ s.length
unfolding disk_bytes
disk_length s files = length-map-range_with_len (λ y. byte_at y 0 s.components files) 0 s.length

pub composite_bytes : (s : Composite) (files : List (List ℕ)) → (composite_disk s files).bytes ≡ disk_bytes s files
unfolding composite_disk
composite_bytes s files = refl

pub composite_length : (s : Composite) (files : List (List ℕ)) → length (composite_disk s files).bytes ≡ s.length
composite_length s files = ap length (composite_bytes s files) ∙ disk_length s files

-- ---- ranges of bytes

pub all_true : (w : ℕ → Bool) (at n : ℕ) → ((x : ℕ) → at ≤ x → x < at + n → w x ≡ true) → all_writable w at n ≡ true
all_true w at zero each = refl
all_true w at (suc n) each =
    let first : w at ≡ true = each at (omega arith) (omega arith) in
    rw first (all_true w (suc at) n (λ x low high. each x (omega arith) (omega arith)))

one_false : (w : ℕ → Bool) (at n x : ℕ) → at ≤ x → x < at + n → w x ≡ false → all_writable w at n ≡ false
one_false w at zero x low high is = absurd (omega arith)
one_false w at (suc n) x low high is = elim (cases_lt at x) [
  | inl less ↦ and_right (w at) (all_writable w (suc at) n) (one_false w (suc at) n x (omega arith) (omega arith) is)
  | inr more ↦ let same : x ≡ at = omega arith in and_left (w at) (all_writable w (suc at) n) (subst (λ z. w z ≡ false) same is)
]

-- ---- some number of a range

any_true : (p : ℕ → Bool) (a n i : ℕ) → a ≤ i → i < a + n → p i ≡ true → list_any p (range_with_len a n) ≡ true
any_true p a zero i low high is = absurd (omega arith)
any_true p a (suc n) i low high is = elim (cases_lt a i) [
  | inl less ↦ or_right (p a) (list_any p (range_with_len (a + 1) n)) (any_true p (a + 1) n i (omega arith) (omega arith) is)
  | inr more ↦ let same : i ≡ a = omega arith in or_left (p a) (list_any p (range_with_len (a + 1) n)) (subst (λ z. p z ≡ true) same is)
]

any_false : (p : ℕ → Bool) (a n : ℕ) → ((i : ℕ) → a ≤ i → i < a + n → p i ≡ false) → list_any p (range_with_len a n) ≡ false
any_false p a zero each = refl
any_false p a (suc n) each =
    let first : p a ≡ false = each a (omega arith) (omega arith) in
    rw first (any_false p (a + 1) n (λ i low high. each i (omega arith) (omega arith)))

-- ---- a byte that may be written, and one that may not

abbrev pub may_write : Composite → List (List ℕ) → ℕ → Bool
may_write s files place = list_any (is_open s files place) (range_with_len 0 (length s.components))

open_in : (s : Composite) (files : List (List ℕ)) (x i : ℕ) → Holds s x i → is_writable s i ≡ true → x < begin_of s i + length (get_or files i []) → may_write s files x ≡ true
open_in s files x i held may fits =
    let low : begin_of s i ≤ x = held.begins in
    let high : x < end_of s i = held.ends in
    let is : is_open s files x i ≡ true = rw (may, le-leb (begin_of s i) x low, lt-ltb x (end_of s i) high, lt-ltb x (begin_of s i + length (get_or files i [])) fits) refl in
    any_true (is_open s files x) 0 (length s.components) i (omega arith) (omega (arith, held.is)) is

-- no other component has it
elsewhere : (s : Composite) (files : List (List ℕ)) (x i j : ℕ) → IsComposite s → Holds s x i → j < length s.components → (j < i) ⊎ (i < j) → is_open s files x j ≡ false
elsewhere s files x i j h held lt (inl less) =
    let k = end_before s j i h less held.is in
    let low : begin_of s i ≤ x = held.begins in
    let past : end_of s j ≤ x = omega arith in
    let shut : nat_lt x (end_of s j) ≡ false = le-ltb x (end_of s j) past in
    and_left (is_writable s j && nat_le (begin_of s j) x && nat_lt x (end_of s j)) _ (and_right (is_writable s j && nat_le (begin_of s j) x) (nat_lt x (end_of s j)) shut)
elsewhere s files x i j h held lt (inr more) =
    let k = end_before s i j h more lt in
    let high : x < end_of s i = held.ends in
    let before : x < begin_of s j = omega arith in
    let shut : nat_le (begin_of s j) x ≡ false = lt-leb (begin_of s j) x before in
    and_left (is_writable s j && nat_le (begin_of s j) x && nat_lt x (end_of s j)) _
    (and_left (is_writable s j && nat_le (begin_of s j) x) (nat_lt x (end_of s j)) (and_right (is_writable s j) (nat_le (begin_of s j) x) shut))

shut_in : (s : Composite) (files : List (List ℕ)) (x i : ℕ) → IsComposite s → Holds s x i → is_open s files x i ≡ false → may_write s files x ≡ false
shut_in s files x i h held is = any_false (is_open s files x) 0 (length s.components) (λ j low high.
    elim (cases_order j i) [
      | inl same ↦ subst (λ k. is_open s files x k ≡ false) (sym same) is
      | inr other ↦ elsewhere s files x i j h held (omega (arith, high)) other
    ])

-- ---- what the map judges

judged_all : (s : Composite) (files : List (List ℕ)) (at n : ℕ) → IsComposite s → at + n ≤ s.length → MayWriteBelow s files at (at + n) (length s.components) → all_writable (may_write s files) at n ≡ true
judged_all s files at n h fits may = all_true (may_write s files) at n (λ x low high.
    let held = holder_of s x h (omega arith) in
    let i = held.0 in
    let begins : begin_of s i ≤ x = held.1.begins in
    let ends : x < end_of s i = held.1.ends in
    let m = may i held.1.is (record { is = held.1.is; some = omega arith; begins = omega arith; ends = omega arith }) in
    let room : min (at + n) (end_of s i) ≤ begin_of s i + length (get_or files i []) = m.fits in
    open_in s files x i held.1 m.writable (omega arith))

judged_shut : (s : Composite) (files : List (List ℕ)) (at n i x : ℕ) → IsComposite s → IsTouched s at (at + n) i → at ≤ x → x < at + n → begin_of s i ≤ x → x < end_of s i → is_open s files x i ≡ false → all_writable (may_write s files) at n ≡ false
judged_shut s files at n i x h touched low high begins ends is =
    one_false (may_write s files) at n x low high (shut_in s files x i h (record { is = touched.is; begins = begins; ends = ends }) is)

read_only : (s : Composite) (files : List (List ℕ)) (at n i : ℕ) → IsComposite s → IsTouched s at (at + n) i → is_writable s i ≡ false → all_writable (may_write s files) at n ≡ false
read_only s files at n i h touched shut =
    let own : begin_of s i < end_of s i = begin_end s i h touched.is in
    let a : at < at + n = touched.some in
    let b : begin_of s i < at + n = touched.begins in
    let c : at < end_of s i = touched.ends in
    judged_shut s files at n i (max at (begin_of s i)) h touched (omega arith) (omega arith) (omega arith) (omega arith) (rw shut refl)

past_file : (s : Composite) (files : List (List ℕ)) (at n i : ℕ) → IsComposite s → IsTouched s at (at + n) i → begin_of s i + length (get_or files i []) < min (at + n) (end_of s i) → all_writable (may_write s files) at n ≡ false
past_file s files at n i h touched short =
    let a : at < at + n = touched.some in
    let c : at < end_of s i = touched.ends in
    let last : ℕ = begin_of s i + length (get_or files i []) in
    let x : ℕ = max at last in
    let beyond : last ≤ x = omega arith in
    let shut : nat_lt x last ≡ false = le-ltb x last beyond in
    judged_shut s files at n i x h touched (omega arith) (omega arith) (omega arith) (omega arith) (and_right (is_writable s i && nat_le (begin_of s i) x && nat_lt x (end_of s i)) (nat_lt x last) shut)

-- a write is refused exactly where some byte of the range may not be written
abbrev pub is_ok : {X Y : Type 0} → Result X Y → Bool
is_ok (Ok x) = true
is_ok (Err y) = false

pub judged : {X : Type 0} (s : Composite) (files : List (List ℕ)) (at n : ℕ) (r : Result X MapFault) → IsComposite s → at + n ≤ s.length → Judges s files at (at + n) r → is_ok r ≡ all_writable (composite_disk s files).writable at n
unfolding composite_disk
judged s files at n (Ok x) h fits j = sym (judged_all s files at n h fits j.1)
judged s files at n (Err faults.OutOfDisk) h fits j = absurd (omega (arith, j))
judged s files at n (Err (faults.ReadOnly i)) h fits j = sym (read_only s files at n i h j.2 j.3)
judged s files at n (Err (faults.PastComponent i)) h fits j = sym (past_file s files at n i h j.2 j.4)
judged s files at n (Err (faults.Alias a b)) h fits j = absurd j
judged s files at n (Err faults.Memory) h fits j = absurd j

-- ---- the disk after a write

pub over_inside : (old : List ℕ) (at : ℕ) (new : List ℕ) → at + length new ≤ length old → take at old ++ new ++ drop (at + length new) old ≡ over old at new
over_inside old at new le =
    let none : at - length old ≡ 0 = omega arith in
    rw (none, append-nil (take at old)) refl

pub composite_written : (s : Composite) (old new : List (List ℕ)) (at : ℕ) (bytes : List ℕ) → at + length bytes ≤ s.length → AreWritten s at bytes old new
    → disk_bytes s new ≡ take at (disk_bytes s old) ++ bytes ++ drop (at + length bytes) (disk_bytes s old)
    → composite_disk s new ≡ record (composite_disk s old) { bytes = over (composite_disk s old).bytes at bytes }
unfolding composite_disk
composite_written s old new at bytes fits written is =
    let all : disk_bytes s new ≡ over (disk_bytes s old) at bytes = is ∙ over_inside (disk_bytes s old) at bytes (omega (arith, disk_length s old)) in
    let same : may_write s new ≡ may_write s old = fun_ext (λ x.
    let each : is_open s new x ≡ is_open s old x = fun_ext (λ i. ap (λ n. is_writable s i && nat_le (begin_of s i) x && nat_lt x (end_of s i) && nat_lt x (begin_of s i + n)) (written.files i).size) in
    ap (λ (p : ℕ → Bool). list_any p (range_with_len 0 (length s.components))) each) in
    rw (all, same) refl

-- a list over the front of which another of its length was put
pub all_new : {A : Type 0} (len : ℕ) (new old : List A) → length new ≡ len → len ≡ length old → take len (new ++ drop (length new) old) ≡ new
all_new len new old is same = take_at new (drop (length new) old) len is

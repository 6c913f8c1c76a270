-- One field after another: what is read of it, and what is read where it is spelled.
use Rattle.std.proofs.Common.{◌≡◌, ◌≢◌, ℕ, suc, ◌-◌, ◌+◌, ◌^◌, ◌<◌, ◌≤◌, Bool, true, false, cond, ltb, eqb, List, ◌++◌, length, get_or, take, drop, Result, Ok, Err, refl, sym, ap, ◌∙◌, arith, inl, inr}
use Rattle.std.specs.Prelude.{ℤ, pos, negsuc}
use Rattle.std.specs.Int.{w32, from_le_bytes, cast_signed}
use Rattle.std.proofs.lemmas.Bool.{eqb-true, eq-eqb, eqb-false, ne_eqb, ltb-false, lt-ltb, le-ltb, cases_lt}
use Rattle.std.proofs.lemmas.List.{take_at, drop_at, drop-drop, length-take, length-drop, get_or-drop, get_or-take, get_or_past}
use Rattle.std.proofs.lemmas.Nat.{le_bytes_4}
use Rattle.idsig_v4.specs.declared.head.IdsigFault.{IdsigFault}
use Rattle.idsig_v4.specs.declared.head.IdsigFault.TheVariants.{Truncated, BlockSize, NoTree}
use Rattle.idsig_v4.specs.Grammar.{int32}
use Rattle.idsig_v4.specs.Reading.{◌>>=◌, bytes_at, i32_at, at_most, exactly, not_negative, block_size, tree_size, room_for}
use Rattle.idsig_v4.proofs.Sizes.{length_int32, read_int32}

abbrev pub AreBytes : List ℕ → Type 0
AreBytes b = (i : ℕ) → get_or b i 0 < 256

-- ---- what was read

pub bind_ok : {A B : Type 0} (r : Result A IdsigFault) (f : A → Result B IdsigFault) (b : B) → (r >>= f) ≡ Ok b → (a : A) × (r ≡ Ok a) × (f a ≡ Ok b)
bind_ok (Ok a) f b e = (a, refl, e)
bind_ok (Err x) f b e = absurd cc

-- what was read, and what was read after it
pub with_ok : {A B : Type 0} (r : Result A IdsigFault) (f : A → Result B IdsigFault) (b : B) (P : Type 0) → (r >>= f) ≡ Ok b → ((a : A) → r ≡ Ok a → f a ≡ Ok b → P) → P
with_ok (Ok a) f b P e so = so a refl e
with_ok (Err x) f b P e so = absurd cc

ok_if : {A : Type 0} (t : Bool) (x y : A) (fault : IdsigFault) → cond t (Ok x) (Err fault) ≡ Ok y → (t ≡ true) × (x ≡ y)
ok_if true x y fault e = (refl, cc)
ok_if false x y fault e = absurd cc

ok_unless : {A : Type 0} (t : Bool) (x y : A) (fault : IdsigFault) → cond t (Err fault) (Ok x) ≡ Ok y → (t ≡ false) × (x ≡ y)
ok_unless true x y fault e = absurd cc
ok_unless false x y fault e = (refl, cc)

pub bytes_at_ok : (b : List ℕ) (total at n : ℕ) (x : List ℕ) → bytes_at b total at n ≡ Ok x → (at + n ≤ total) × (take n (drop at b) ≡ x)
unfolding bytes_at
bytes_at_ok b total at n x e =
    let r = ok_unless (ltb total (at + n)) (take n (drop at b)) x (Truncated at) e in
    (ltb-false total (at + n) r.0, r.1)

pub exactly_ok : (wanted : ℕ) (fault : IdsigFault) (z : ℤ) (n : ℕ) → exactly wanted fault z ≡ Ok n → z ≡ pos wanted
exactly_ok wanted fault (pos k) n e = ap pos (eqb-true k wanted (ok_if (eqb k wanted) k n fault e).0)
exactly_ok wanted fault (negsuc k) n e = absurd cc

pub at_most_ok : (most : ℕ) (fault : IdsigFault) (z : ℤ) (n : ℕ) → at_most most fault z ≡ Ok n → (z ≡ pos n) × (n ≤ most)
at_most_ok most fault (pos k) n e =
    let r = ok_unless (ltb most k) k n fault e in
    let le = ltb-false most k r.0 in
    let same = r.1 in
    (ap pos same, omega arith)
at_most_ok most fault (negsuc k) n e = absurd cc

pub not_negative_ok : (fault : IdsigFault) (z : ℤ) (n : ℕ) → not_negative fault z ≡ Ok n → z ≡ pos n
not_negative_ok fault (pos k) n e = cc
not_negative_ok fault (negsuc k) n e = absurd cc

below4 : (bytes : List ℕ) → AreBytes bytes → from_le_bytes w32 bytes < 2 ^ 32
below4 bytes fits = omega (arith, fits 0, fits 1, fits 2, fits 3)

part_fits : (n m : ℕ) (b : List ℕ) → AreBytes b → AreBytes (take m (drop n b))
part_fits n m b h i =
    elim (cases_lt i m) [
      | inl lt ↦ rw (get_or-take m (drop n b) i 0 lt, get_or-drop n b i 0) (h (n + i))
      | inr le ↦ rw (get_or_past (take m (drop n b)) i 0 (omega (arith, length-take m (drop n b)))) (omega arith)
    ]

pub part_length : (n m : ℕ) (b : List ℕ) → n + m ≤ length b → length (take m (drop n b)) ≡ m
part_length n m b h = omega (arith, length-take m (drop n b), length-drop n b)

signed_is : (n : ℕ) → n < 2 ^ 31 → cast_signed w32 n ≡ pos n
signed_is n h = rw (lt-ltb n (2 ^ 31) h) refl

-- bits that stand for a number that is not negative are the number
bits_are : (k n : ℕ) → k < 2 ^ 32 → cast_signed w32 k ≡ pos n → (n ≡ k) × (n < 2 ^ 31)
bits_are k n h e = elim (cases_lt k (2 ^ 31)) [
  | inl lt ↦ (let s = signed_is k lt in cc, let s = signed_is k lt in let same : n ≡ k = cc in omega arith)
  | inr le ↦ absurd (let s : cast_signed w32 k ≡ negsuc (2 ^ 32 - suc k) = rw (le-ltb k (2 ^ 31) le) refl in cc)
]

-- the four bytes of a number that is not negative are spelled so
pub number_is : (b : List ℕ) (total at n : ℕ) → AreBytes b → at + 4 ≤ length b → i32_at b total at ≡ Ok (pos n) → (take 4 (drop at b) ≡ int32 n) × (n < 2 ^ 31)
unfolding i32_at int32
number_is b total at n fits room e =
    let x = bind_ok (bytes_at b total at 4) _ _ e in
    let same = (bytes_at_ok b total at 4 x.0 x.1).1 in
    let value : cast_signed w32 (from_le_bytes w32 x.0) ≡ pos n = cc in
    let four : List ℕ = take 4 (drop at b) in
    let read : cast_signed w32 (from_le_bytes w32 four) ≡ pos n = ap (λ (y : List ℕ). cast_signed w32 (from_le_bytes w32 y)) same ∙ value in
    let bits = bits_are (from_le_bytes w32 four) n (below4 four (part_fits at 4 b fits)) read in
    (sym (le_bytes_4 four n (part_length at 4 b room) (part_fits at 4 b fits) bits.0), bits.1)

-- within the file
pub number_in : (b : List ℕ) (total at : ℕ) (z : ℤ) → i32_at b total at ≡ Ok z → at + 4 ≤ total
unfolding i32_at
number_in b total at z e = let x = bind_ok (bytes_at b total at 4) _ _ e in (bytes_at_ok b total at 4 x.0 x.1).0

pub block_size_ok : (b : List ℕ) (n : ℕ) → block_size b ≡ Ok n → get_or b 0 0 ≡ 12
block_size_ok b n e = eqb-true (get_or b 0 0) 12 (ok_if (eqb (get_or b 0 0) 12) 12 n (BlockSize (get_or b 0 0)) e).0

pub room_for_ok : (total at n : ℕ) (u : Unit {0}) → room_for total at n ≡ Ok u → at + n ≤ total
room_for_ok total at n u e = ltb-false total (at + n) (ok_unless (ltb total (at + n)) tt u (Truncated at) e).0

size_is : (t : Bool) (r : Result ℕ IdsigFault) (n : ℕ) → cond t (Err NoTree) r ≡ Ok n → r ≡ Ok n
size_is true r n e = absurd cc
size_is false r n e = e

some_is : (k n : ℕ) → cond (eqb k 0) (Err NoTree) (Ok k) ≡ Ok n → (k ≡ n) × (0 < n)
some_is k n e = let r = ok_unless (eqb k 0) k n NoTree e in let same = r.1 in (same, let some : k ≢ 0 = eqb-false k 0 r.0 in omega arith)

pub tree_size_ok : (b : List ℕ) (total at n : ℕ) → tree_size b total at ≡ Ok n → (i32_at b total at ≡ Ok (pos n)) × (0 < n)
unfolding tree_size
tree_size_ok b total at n e =
    let x = bind_ok (i32_at b total at) _ _ (size_is (eqb total at) _ n e) in
    let y = bind_ok (not_negative (Truncated at) x.0) _ _ x.2 in
    let z = some_is y.0 n y.2 in
    (x.1 ∙ ap (λ (v : ℤ). Ok v) (not_negative_ok (Truncated at) x.0 y.0 y.1 ∙ ap pos z.0), z.1)

-- ---- what is spelled

pub bind_is : {A B : Type 0} (r : Result A IdsigFault) (f : A → Result B IdsigFault) (a : A) (b : Result B IdsigFault) → r ≡ Ok a → f a ≡ b → (r >>= f) ≡ b
bind_is {A} {B} r f a b e later = ap (λ (x : Result A IdsigFault). x >>= f) e ∙ later

-- bytes that stand at a place are read there, and what follows them stands behind them
pub bytes_here : (b : List ℕ) (total at n : ℕ) (x rest : List ℕ) → drop at b ≡ x ++ rest → length x ≡ n → at + n ≤ total → bytes_at b total at n ≡ Ok x
unfolding bytes_at
bytes_here b total at n x rest e len room =
    rw (le-ltb total (at + n) room) (ap (λ (y : List ℕ). Ok (take n y)) e ∙ ap (λ (y : List ℕ). Ok y) (take_at x rest n len))

pub behind : (b : List ℕ) (at n : ℕ) (x rest : List ℕ) → drop at b ≡ x ++ rest → length x ≡ n → drop (at + n) b ≡ rest
behind b at n x rest e len = sym (drop-drop n at b) ∙ ap (drop n) e ∙ drop_at x rest n len

pub number_here : (b : List ℕ) (total at n : ℕ) (rest : List ℕ) → drop at b ≡ int32 n ++ rest → n < 2 ^ 31 → at + 4 ≤ total → i32_at b total at ≡ Ok (pos n)
unfolding i32_at
number_here b total at n rest e small room =
    bind_is (bytes_at b total at 4) _ (int32 n) (Ok (pos n)) (bytes_here b total at 4 (int32 n) rest e (length_int32 n) room)
    (ap (λ (k : ℕ). Ok (cast_signed w32 k)) (read_int32 n (omega arith)) ∙ ap (λ (v : ℤ). Ok v) (signed_is n small))

pub exactly_is : (n : ℕ) (fault : IdsigFault) → exactly n fault (pos n) ≡ Ok n
exactly_is n fault = rw (eq-eqb n n refl) refl

pub at_most_is : (most n : ℕ) (fault : IdsigFault) → n ≤ most → at_most most fault (pos n) ≡ Ok n
at_most_is most n fault h = rw (le-ltb most n h) refl

pub room_is : (total at n : ℕ) → at + n ≤ total → room_for total at n ≡ Ok tt
room_is total at n h = rw (le-ltb total (at + n) h) refl

pub tree_size_is : (b : List ℕ) (total at n : ℕ) → i32_at b total at ≡ Ok (pos n) → at < total → 0 < n → tree_size b total at ≡ Ok n
unfolding tree_size
tree_size_is b total at n e room some =
    rw (ne_eqb total at (λ same. omega arith), e, ne_eqb n 0 (λ same. omega arith)) refl

pub not_negative_is : (n : ℕ) (fault : IdsigFault) → not_negative fault (pos n) ≡ Ok n
not_negative_is n fault = refl

-- Varints: what is spelled is read, what is read is spelled, and what is written is spelled.
use Rattle.std.proofs.Common.{◌≡◌, ◌<◌, ◌≤◌, ◌+◌, ◌-◌, ◌*◌, ◌/◌, ◌%◌, ◌^◌, ℕ, zero, suc, List, [], ◌∷◌, ◌++◌, length, map, ltb, eqb, false, Result, Ok, Err, refl, sym, ap, subst, ◌∙◌, arith, inl, inr, add-zero, length-append}
use Rattle.std.specs.List.{AllByRecursion}
use Rattle.std.proofs.lemmas.Bool.{lt-ltb, le-ltb, ltb-true, ltb-false, ne_eqb, eqb-false, cases_lt}
use Rattle.std.proofs.lemmas.List.{length-map}
use Rattle.std.proofs.lemmas.Nat.{div_below}
use Rattle.std.proofs.Math.Nat.{pow-suc}
use Rattle.composite_spec.specs.declared.kinds.SpecFault.{SpecFault}
use Rattle.composite_spec.specs.declared.kinds.SpecFault.TheVariants as faults
use Rattle.composite_spec.specs.Wire.{check, place, varint_in, varint}
use Rattle.composite_spec.specs.Spelling.{number_of, IsVarint}
use Rattle.composite_spec.specs.Writing.{digits_within, varint_bytes}
use Rattle.composite_spec.proofs.Steps.{bind_ok, check_ok, chosen, done_is}

abbrev marked : List ℕ → ℕ → List ℕ
marked low last = map (λ (d : ℕ). 128 + d) low ++ last ∷ []

abbrev AreDigits : List ℕ → ℕ → Type 0
AreDigits low last = AllByRecursion (λ (d : ℕ). d < 128) (low ++ last ∷ [])

-- ---- what is spelled is read

reads_from : (low : List ℕ) (last at left : ℕ) (rest : List ℕ) → AreDigits low last → length low < left → number_of (low ++ last ∷ []) < 2 ^ 64
    → varint_in at left (marked low last ++ rest) ≡ Ok (number_of (low ++ last ∷ []), rest)
unfolding varint_in
reads_from [] last at left rest each few bound = rw (lt-ltb last 128 each.0, add-zero) refl
reads_from (d ∷ low) last at left rest each few bound =
    let v : ℕ = number_of (low ++ last ∷ []) in
    let whole : d + 128 * v < 2 ^ 64 = bound in
    let small : v < 2 ^ 57 = omega arith in
    let later : varint_in at (left - 1) (marked low last ++ rest) ≡ Ok (v, rest) = reads_from low last at (left - 1) rest each.1 (omega arith) (omega arith) in
    let high : ltb (128 + d) 128 ≡ false = le-ltb (128 + d) 128 (omega arith) in
    let more : eqb left 1 ≡ false = ne_eqb left 1 (λ e. omega arith) in
    let same : 128 * v + ((128 + d) - 128) ≡ d + 128 * v = omega arith in
    rw (high, more, later, lt-ltb v (2 ^ 57) small, same) refl

pub varint_reads : (bytes : List ℕ) (n end : ℕ) (rest : List ℕ) → IsVarint bytes n → varint end (bytes ++ rest) ≡ Ok (n, rest)
unfolding varint
varint_reads bytes n end rest h =
    let value = h.value in
    let bound : number_of (h.low ++ h.last ∷ []) < 2 ^ 64 = subst (λ (x : ℕ). x < 2 ^ 64) h.value h.bound in
    ap (λ (x : List ℕ). varint_in (place end (bytes ++ rest)) 10 (x ++ rest)) h.bytes_are
    ∙ reads_from h.low h.last (place end (bytes ++ rest)) 10 rest h.digits h.few bound
    ∙ ap (λ (x : ℕ). let r : Result (ℕ × List ℕ) SpecFault = Ok (x, rest) in r) (sym h.value)

-- ---- what is read is spelled

abbrev pub AreBytes : List ℕ → Type 0
AreBytes bytes = AllByRecursion (λ (b : ℕ). b < 256) bytes

-- a varint of at most `left` bytes at the front, and what is behind it
record Fronts (text : List ℕ) (left n : ℕ) (rest : List ℕ) : Type 0 where
  low : List ℕ
  last : ℕ
  digits : AreDigits low last
  few : length low < left
  front : text ≡ marked low last ++ rest
  value : n ≡ number_of (low ++ last ∷ [])
  bound : n < 2 ^ 64

abbrev FrontsPair : List ℕ → ℕ → ℕ × List ℕ → Type 0
FrontsPair text left p = Fronts text left p.0 p.1

one_fronts : (b left : ℕ) (rest : List ℕ) → b < 128 → 0 < left → Fronts (b ∷ rest) left b rest
one_fronts b left rest lt some = record { low = []; last = b; digits = (lt, tt); few = some; front = refl; value = sym (add-zero b); bound = omega arith }

more_fronts : (b left v : ℕ) (bs rest : List ℕ) → 128 ≤ b → b < 256 → v < 2 ^ 57 → 0 < left → Fronts bs (left - 1) v rest → Fronts (b ∷ bs) left (128 * v + (b - 128)) rest
more_fronts b left v bs rest low high small some h =
    let few = h.few in
    let first : b ≡ 128 + (b - 128) = omega arith in
    let value : v ≡ number_of (h.low ++ h.last ∷ []) = h.value in
    record {
      low = (b - 128) ∷ h.low;
      last = h.last;
      digits = (omega arith, h.digits);
      few = omega arith;
      front = ap (λ (x : ℕ). x ∷ bs) first ∙ ap (λ (x : List ℕ). (128 + (b - 128)) ∷ x) h.front;
      value = omega arith;
      bound = omega arith;
    }

spelled_from : (text : List ℕ) (at left : ℕ) (p : ℕ × List ℕ) → AreBytes text → 0 < left → varint_in at left text ≡ Ok p → FrontsPair text left p
unfolding varint_in
spelled_from [] at left p each some e = absurd cc
spelled_from (b ∷ bs) at left p each some e =
    elim (chosen (ltb b 128) (Ok (b, bs)) _ (Ok p) e) [
      | inl h ↦ subst (λ (x : ℕ × List ℕ). FrontsPair (b ∷ bs) left x) (done_is (b, bs) p h.1) (one_fronts b left bs (ltb-true b 128 h.0) some)
      | inr h ↦ elim (chosen (eqb left 1) (Err (faults.Varint at)) _ (Ok p) h.1) [
        | inl g ↦ absurd (cc (g.1))
        | inr g ↦
            let not_one = eqb-false left 1 g.0 in
            let more : 0 < left - 1 = grind (arith, not_one) in
            let a = bind_ok (varint_in at (left - 1) bs) (λ r. check (ltb r.0 (2 ^ 57)) (faults.Varint at) (128 * r.0 + (b - 128), r.1)) p g.1 in
            let c = check_ok (ltb a.0.0 (2 ^ 57)) (faults.Varint at) (128 * a.0.0 + (b - 128), a.0.1) p a.2 in
            let later : Fronts bs (left - 1) a.0.0 a.0.1 = spelled_from bs at (left - 1) a.0 each.1 more a.1 in
            subst (λ (x : ℕ × List ℕ). FrontsPair (b ∷ bs) left x) c.1 (more_fronts b left a.0.0 bs a.0.1 (ltb-false b 128 h.0) each.0 (ltb-true a.0.0 (2 ^ 57) c.0) some later)
      ]
    ]

-- a varint at the front of a text, and what is behind it
pub record VarintFront (text : List ℕ) (n : ℕ) (rest : List ℕ) : Type 0 where
  pub bytes : List ℕ
  pub is : IsVarint bytes n
  pub front : text ≡ bytes ++ rest
  pub some : 0 < length bytes

pub varint_spelled : (text : List ℕ) (end : ℕ) (p : ℕ × List ℕ) → AreBytes text → varint end text ≡ Ok p → VarintFront text p.0 p.1
unfolding varint
varint_spelled text end p each e =
    let h = spelled_from text (place end text) 10 p each (omega arith) e in
    let bytes : List ℕ = marked h.low h.last in
    record {
      bytes = bytes;
      is = record { low = h.low; last = h.last; digits = h.digits; few = h.few; bytes_are = refl; value = h.value; bound = h.bound };
      front = h.front;
      some = omega (arith, length-append (map (λ (d : ℕ). 128 + d) h.low) (h.last ∷ []));
    }

-- ---- what is written is spelled

record Digits (bytes : List ℕ) (n : ℕ) : Type 0 where
  low : List ℕ
  last : ℕ
  digits : AreDigits low last
  bytes_are : bytes ≡ marked low last
  value : n ≡ number_of (low ++ last ∷ [])

one_digit : (n : ℕ) → n < 128 → Digits (n ∷ []) n
one_digit n lt = record { low = []; last = n; digits = (lt, tt); bytes_are = refl; value = sym (add-zero n) }

one_more : (n : ℕ) (bytes : List ℕ) → Digits bytes (n / 128) → Digits ((128 + n % 128) ∷ bytes) n
one_more n bytes h =
    let value : n / 128 ≡ number_of (h.low ++ h.last ∷ []) = h.value in
    record {
      low = n % 128 ∷ h.low;
      last = h.last;
      digits = (omega arith, h.digits);
      bytes_are = ap (λ (x : List ℕ). (128 + n % 128) ∷ x) h.bytes_are;
      value = omega arith;
    }

written_from : (most n : ℕ) → n ≤ most → Digits (digits_within most n) n
unfolding digits_within
written_from zero n le = one_digit n (omega arith)
written_from (suc most) n le =
    elim (cases_lt n 128) [
      | inl lt ↦ subst (λ (x : List ℕ). Digits x n) (sym (rw (lt-ltb n 128 lt) refl)) (one_digit n lt)
      | inr ge ↦ subst (λ (x : List ℕ). Digits x n) (sym (rw (le-ltb n 128 ge) refl)) (one_more n (digits_within most (n / 128)) (written_from most (n / 128) (omega arith)))
    ]

pub digits_end : (most n : ℕ) → n < 128 → digits_within most n ≡ n ∷ []
unfolding digits_within
digits_end zero n lt = refl
digits_end (suc most) n lt = rw (lt-ltb n 128 lt) refl

pub digits_on : (most n : ℕ) → n ≤ most → 128 ≤ n → digits_within most n ≡ (128 + n % 128) ∷ digits_within (most - 1) (n / 128)
unfolding digits_within
digits_on zero n le ge = absurd (omega arith)
digits_on (suc most) n le ge =
    let less : suc most - 1 ≡ most = omega arith in
    rw (le-ltb n 128 ge, less) refl

few_more : (n j count : ℕ) → 128 ≤ n → n < 128 ^ suc j → ((i : ℕ) → n / 128 < 128 ^ suc i → count ≤ suc i) → suc count ≤ suc j
few_more n zero count more lt later = let one : n < 128 = lt in absurd (omega arith)
few_more n (suc i) count more lt later =
    let k = later i (div_below n 128 (128 ^ suc i) (omega arith) (rw pow-suc at lt)) in
    omega arith

few_from : (most n j : ℕ) → n < 128 ^ suc j → length (digits_within most n) ≤ suc j
unfolding digits_within
few_from zero n j lt = omega arith
few_from (suc most) n j lt =
    elim (cases_lt n 128) [
      | inl one ↦ rw (lt-ltb n 128 one) (omega arith)
      | inr more ↦ rw (le-ltb n 128 more) (few_more n j (length (digits_within most (n / 128))) more lt (λ i h. few_from most (n / 128) i h))
    ]

pub varint_few : (n : ℕ) → n < 2 ^ 64 → length (varint_bytes n) ≤ 10
varint_few n lt = few_from n n 9 (omega arith)

-- a shortest varint is one
pub varint_written : (n : ℕ) → n < 2 ^ 64 → IsVarint (varint_bytes n) n
varint_written n lt =
    let h = written_from n n (omega arith) in
    let few = varint_few n lt in
    let size : length (varint_bytes n) ≡ length h.low + 1 = ap length h.bytes_are ∙ length-append (map (λ (d : ℕ). 128 + d) h.low) (h.last ∷ []) ∙ ap (λ (x : ℕ). x + 1) (length-map h.low (λ (d : ℕ). 128 + d)) in
    record { low = h.low; last = h.last; digits = h.digits; few = omega arith; bytes_are = h.bytes_are; value = h.value; bound = lt }

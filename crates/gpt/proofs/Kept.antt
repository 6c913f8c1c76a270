-- What it means that no rule is broken.
use Rattle.std.proofs.Common.{◌≡◌, ℕ, zero, suc, ◌+◌, ◌-◌, ◌*◌, ◌<◌, Bool, true, false, not, ◌&&◌, ◌||◌, true≢false, eqb, ltb, List, [], ◌∷◌, ◌++◌, length, get_or, take, Option, Some, None, refl, sym, ap, subst, ◌∙◌, arith, append_assoc, append-nil, if◌then◌else◌}
use Rattle.std.specs.List.{AllByRecursion, AllPairs}
use Rattle.std.proofs.lemmas.Bool.{eqb-true, ltb-true, lt-ltb}
use Rattle.std.proofs.lemmas.Bool.Decides.{nat_tests}
use Rattle.std.proofs.lemmas.List.{length-append, get_or_append_left, get_or-append_right}
use Rattle.std.proofs.lemmas.List.Quantifiers.{all_pairs_push}
use Rattle.gpt.specs.declared.faults.GptFault.{GptFault}
use Rattle.gpt.specs.declared.header.Header.{Header}
use Rattle.gpt.specs.declared.header.Side.{Side}
use Rattle.gpt.specs.declared.values.Entry.{Entry}
use Rattle.gpt.specs.Entries.{is_used, is_outside, share, first_outside, first_sharing, pair_or, first_overlap}
use Rattle.std.specs.Str.{bytes_eq}
use Rattle.std.proofs.lemmas.Slice.Eq.{bytes_eq-Decides}
use Rattle.guid_crc.specs.Remainder.{crc32}
use Rattle.gpt.specs.Header.{header_of, blanked, signature}
use Rattle.gpt.specs.Rules.{must, ◌then◌, is_in_place, header_fault}
use Rattle.gpt.specs.Grammar.{IsInPlace, UsedIsWithin}

pub then_none : (x y : Option GptFault) → (x then y) ≡ None → (x ≡ None) × (y ≡ None)
then_none None y e = (refl, e)
then_none (Some f) y e = absurd cc

pub must_none : (t : Bool) (f : GptFault) → must t f ≡ None → t ≡ true
must_none true f e = refl
must_none false f e = absurd cc

-- a test that is true chooses
if_true : {A : Type 0} (t : Bool) (x y : A) → t ≡ true → (if t then x else y) ≡ x
if_true true x y e = refl
if_true false x y e = absurd (true≢false (sym e))

if_false : {A : Type 0} (t : Bool) (x y : A) → t ≡ false → (if t then x else y) ≡ y
if_false true x y e = absurd (true≢false e)
if_false false x y e = refl

-- a refusal before a test
guarded : (t b : Bool) → (if t then false else b) ≡ true → (t ≡ false) × (b ≡ true)
guarded true b e = absurd (true≢false (sym e))
guarded false b e = (refl, e)

pub in_place : (s : Side) (h : Header) → is_in_place s h ≡ true → IsInPlace s h
in_place s h e =
    let r0 = guarded (not (eqb h.own s.own)) _ e in
    let r1 = guarded (ltb h.array s.low) _ r0.1 in
    let r2 = guarded (ltb s.high h.array) _ r1.1 in
    let r3 = guarded (ltb (4 * s.high) (4 * h.array + h.count)) _ r2.1 in
    record {
      own = grind (arith, nat_tests);
      low = grind (arith, nat_tests);
      high = grind (arith, nat_tests);
      usable = grind (arith, nat_tests);
      last = grind (arith, nat_tests);
    }

pub placed : (s : Side) (h : Header) → IsInPlace s h → is_in_place s h ≡ true
placed s h p =
    let own = p.own in
    let low = p.low in
    let high = p.high in
    let usable = p.usable in
    let last = p.last in
    grind (arith, nat_tests)

-- the bytes keep the rules of a header
pub record KeepsHeader (s : Side) (b : List ℕ) : Type 0 where
  pub signed : take 8 b ≡ signature
  pub revision : (header_of b).revision ≡ 0x10000
  pub size : (header_of b).size ≡ 92
  pub crc : (header_of b).crc ≡ crc32 (blanked b)
  pub entry_size : (header_of b).entry_size ≡ 128
  pub some : 0 < (header_of b).count
  pub few : (header_of b).count < 129
  pub place : IsInPlace s (header_of b)

both : (a b : Bool) → (a && b) ≡ true → (a ≡ true) × (b ≡ true)
both true b e = (refl, e)
both false b e = absurd (true≢false (sym e))

pub keeps_header : (s : Side) (b : List ℕ) → header_fault s b ≡ None → KeepsHeader s b
unfolding header_fault
keeps_header s b e =
    let r0 = then_none _ _ e in
    let r1 = then_none _ _ r0.1 in
    let r2 = then_none _ _ r1.1 in
    let r3 = then_none _ _ r2.1 in
    let r4 = then_none _ _ r3.1 in
    let r5 = then_none _ _ r4.1 in
    let count = both _ _ (must_none _ _ r5.0) in
    record {
      signed = (bytes_eq-Decides (take 8 b) signature).0 (must_none _ _ r0.0);
      revision = eqb-true _ _ (must_none _ _ r1.0);
      size = eqb-true _ _ (must_none _ _ r2.0);
      crc = eqb-true _ _ (must_none _ _ r3.0);
      entry_size = eqb-true _ _ (must_none _ _ r4.0);
      some = ltb-true _ _ count.0;
      few = ltb-true _ _ count.1;
      place = in_place s (header_of b) (must_none _ _ r5.1);
    }

pub header_kept : (s : Side) (b : List ℕ) → KeepsHeader s b → header_fault s b ≡ None
unfolding header_fault
header_kept s b k =
    let signed : bytes_eq (take 8 b) signature ≡ true = (bytes_eq-Decides (take 8 b) signature).1 k.signed in
    let some : ltb 0 (header_of b).count ≡ true = lt-ltb _ _ k.some in
    let few : ltb (header_of b).count 129 ≡ true = lt-ltb _ _ k.few in
    let crc : eqb (header_of b).crc (crc32 (blanked b)) ≡ true = eqb-same _ _ k.crc in
    let place : is_in_place s (header_of b) ≡ true = placed s (header_of b) k.place in
    rw (signed, k.revision, k.size, crc, k.entry_size, some, few, place) refl
  where
    eqb-same : (x y : ℕ) → x ≡ y → eqb x y ≡ true
    eqb-same x y e = grind (arith, nat_tests)

-- ---- the ranges of entries

within : (low high : ℕ) (e : Entry) → is_outside low high e ≡ false → UsedIsWithin low high e
within low high e kept used =
    let tests : (ltb e.first low || ltb e.last e.first || ltb high e.last) ≡ false = sym (if_true (is_used e) _ _ used) ∙ kept in
    record { first = grind (arith, nat_tests); order = grind (arith, nat_tests); last = grind (arith, nat_tests) }

outside_not : (low high : ℕ) (e : Entry) → UsedIsWithin low high e → is_outside low high e ≡ false
outside_not low high e kept = by_use (is_used e) refl
  where
    by_use : (u : Bool) → is_used e ≡ u → is_outside low high e ≡ false
    by_use true used =
        let w = kept used in
        let a = w.first in
        let b = w.order in
        let c = w.last in
        if_true (is_used e) _ _ used ∙ grind (arith, nat_tests)
    by_use false unused = if_false (is_used e) _ _ unused

none_if : {A : Type 0} (t : Bool) (x : A) (later : Option A) → (if t then Some x else later) ≡ None → (t ≡ false) × (later ≡ None)
none_if true x later e = absurd cc
none_if false x later e = (refl, e)

pub all_within : (low high at : ℕ) (es : List Entry) → first_outside low high at es ≡ None → AllByRecursion (UsedIsWithin low high) es
unfolding first_outside
all_within low high at [] e = tt
all_within low high at (x ∷ es) e =
    let r = none_if (is_outside low high x) at (first_outside low high (at + 1) es) e in
    (within low high x r.0, all_within low high (at + 1) es r.1)

pub none_outside : (low high at : ℕ) (es : List Entry) → AllByRecursion (UsedIsWithin low high) es → first_outside low high at es ≡ None
unfolding first_outside
none_outside low high at [] all = refl
none_outside low high at (x ∷ es) all =
    if_false (is_outside low high x) (Some at) (first_outside low high (at + 1) es) (outside_not low high x all.0) ∙ none_outside low high (at + 1) es all.1

-- ---- sectors that entries share

abbrev pub Apart : Entry → Entry → Type 0
Apart a b = share a b ≡ false

none_sharing : (at : ℕ) (e : Entry) (xs : List Entry) → first_sharing at e xs ≡ None → (k : ℕ) (d : Entry) → k < length xs → Apart (get_or xs k d) e
unfolding first_sharing
none_sharing at e [] kept k d lt = absurd (omega arith)
none_sharing at e (x ∷ xs) kept zero d lt = (none_if (share x e) at (first_sharing (at + 1) e xs) kept).0
none_sharing at e (x ∷ xs) kept (suc k) d lt = none_sharing (at + 1) e xs (none_if (share x e) at (first_sharing (at + 1) e xs) kept).1 k d (omega arith)

sharing_none : (at : ℕ) (e : Entry) (xs : List Entry) → ((k : ℕ) → k < length xs → Apart (get_or xs k e) e) → first_sharing at e xs ≡ None
unfolding first_sharing
sharing_none at e [] apart = refl
sharing_none at e (x ∷ xs) apart =
    if_false (share x e) (Some at) (first_sharing (at + 1) e xs) (apart zero (omega arith))
    ∙ sharing_none (at + 1) e xs (λ k lt. apart (suc k) (omega arith))

pair_none : (o : Option ℕ) (b : ℕ) (later : Option (ℕ × ℕ)) → pair_or o b later ≡ None → (o ≡ None) × (later ≡ None)
pair_none None b later e = (refl, e)
pair_none (Some a) b later e = absurd cc

apart_with : (before es : List Entry) → AllPairs Apart before → first_overlap before es ≡ None → AllPairs Apart (before ++ es)
unfolding first_overlap
apart_with before [] apart kept = subst (AllPairs Apart) (sym (append-nil before)) apart
apart_with before (e ∷ es) apart kept =
    let r = pair_none (first_sharing 0 e before) (length before) (first_overlap (before ++ e ∷ []) es) kept in
    let more : AllPairs Apart (before ++ e ∷ []) = all_pairs_push Apart before e apart (none_sharing 0 e before r.0) in
    subst (AllPairs Apart) (append_assoc before (e ∷ []) es) (apart_with (before ++ e ∷ []) es more r.1)

pub all_apart : (es : List Entry) → first_overlap [] es ≡ None → AllPairs Apart es
all_apart es kept = apart_with [] es (λ i j d lt in'. absurd (omega arith)) kept

overlap_with : (before es : List Entry) → AllPairs Apart (before ++ es) → first_overlap before es ≡ None
unfolding first_overlap
overlap_with before [] apart = refl
overlap_with before (e ∷ es) apart =
    let inside : length before < length (before ++ e ∷ es) = omega (arith, length-append before (e ∷ es)) in
    let zero_is : length before - length before ≡ 0 = omega arith in
    let here : get_or (before ++ e ∷ es) (length before) e ≡ e = get_or-append_right before (e ∷ es) (length before) (length before) e refl (omega arith) ∙ ap (λ (k : ℕ). get_or (e ∷ es) k e) zero_is in
    let each : (k : ℕ) → k < length before → Apart (get_or before k e) e = λ k lt.
    subst (λ (x : Entry). Apart (get_or before k e) x) here
    (subst (λ (x : Entry). Apart x (get_or (before ++ e ∷ es) (length before) e)) (get_or_append_left before (e ∷ es) e k lt) (apart k (length before) e lt inside)) in
    ap (λ (o : Option ℕ). pair_or o (length before) (first_overlap (before ++ e ∷ []) es)) (sharing_none 0 e before each)
    ∙ overlap_with (before ++ e ∷ []) es (subst (AllPairs Apart) (sym (append_assoc before (e ∷ []) es)) apart)

pub none_overlap : (es : List Entry) → AllPairs Apart es → first_overlap [] es ≡ None
none_overlap es apart = overlap_with [] es apart

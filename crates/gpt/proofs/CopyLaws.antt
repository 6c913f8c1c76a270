-- The reader on lists and the grammar are one.
use Rattle.std.proofs.Common.{◌≡◌, ◌⊎◌, inl, inr, ℕ, ◌-◌, ◌*◌, ◌<◌, ◌≤◌, Bool, true, false, true≢false, eqb, List, [], ◌∷◌, All, length, take, Option, Some, None, Result, Ok, Err, refl, sym, ap, subst, ◌∙◌, arith, if◌then◌else◌}
use Rattle.std.specs.Prelude.{IfOk}
use Rattle.std.specs.List.{AllByRecursion, AllPairs}
use Rattle.std.proofs.lemmas.Bool.{eqb-true}
use Rattle.std.proofs.lemmas.Bool.Decides.{nat_tests}
use Rattle.guid_crc.specs.Remainder.{crc32}
use Rattle.gpt.specs.declared.faults.GptFault.{GptFault}
use Rattle.gpt.specs.declared.faults.GptFault.TheVariants.{Size, ArrayCrc}
use Rattle.gpt.specs.declared.header.Header.{Header}
use Rattle.gpt.specs.declared.header.Side.{Side}
use Rattle.gpt.specs.declared.values.Entry.{Entry}
use Rattle.gpt.specs.declared.values.Table.{Table}
use Rattle.gpt.specs.Fields.{part_at}
use Rattle.gpt.specs.Header.{IsHeader, header_text, header_of, blanked}
use Rattle.gpt.specs.Entries.{array_text, entries_of}
use Rattle.gpt.specs.Rules.{primary, alternate, must, ◌then◌, outside_fault, overlap_fault, entries_fault, array_fault, header_bytes, array_bytes, answer, table_of, copy_with, copy_of, first_good, is_sized, gpt_of, IsSide}
use Rattle.gpt.specs.Grammar.{IsInPlace, UsedIsWithin, IsCopy, IsGpt}
use Rattle.gpt.specs.Names.{UsedIsBounded}
use Rattle.std.proofs.lemmas.List.Elements.{All-from_recursion}
use Rattle.gpt.proofs.Pieces.{IsByte, part_length, part_bytes}
use Rattle.gpt.proofs.HeaderLaws.{header_text-length, blanked-text, signature-text, header_of-text, header_of-fits, text-header_of}
use Rattle.gpt.proofs.EntryLaws.{array_text-length, entries_of-text, entries_of-length, text-entries_of, entries_of-fits}
use Rattle.gpt.proofs.Kept.{then_none, must_none, KeepsHeader, keeps_header, header_kept, all_within, none_outside, Apart, all_apart, none_overlap}

outside_none : (o : Option ℕ) → outside_fault o ≡ None → o ≡ None
outside_none None e = refl
outside_none (Some k) e = absurd cc

overlap_none : (o : Option (ℕ × ℕ)) → overlap_fault o ≡ None → o ≡ None
overlap_none None e = refl
overlap_none (Some p) e = absurd cc

-- the array keeps its rules
record KeepsArray (h : Header) (a : List ℕ) (es : List Entry) : Type 0 where
  crc : h.array_crc ≡ crc32 a
  within : AllByRecursion (UsedIsWithin h.first_usable h.last_usable) es
  apart : AllPairs Apart es

keeps_array : (h : Header) (a : List ℕ) → array_fault h a ≡ None → KeepsArray h a (entries_of h.count a)
unfolding array_fault entries_fault
keeps_array h a e =
    let r0 = then_none _ _ e in
    let r1 = then_none _ _ r0.1 in
    record {
      crc = eqb-true _ _ (must_none _ _ r0.0);
      within = all_within h.first_usable h.last_usable 0 (entries_of h.count a) (outside_none _ r1.0);
      apart = all_apart (entries_of h.count a) (overlap_none _ r1.1);
    }

eqb-same : (x y : ℕ) → x ≡ y → eqb x y ≡ true
eqb-same x y e = grind (arith, nat_tests)

array_kept : (h : Header) (a : List ℕ) → KeepsArray h a (entries_of h.count a) → array_fault h a ≡ None
unfolding array_fault entries_fault
array_kept h a k =
    let es = entries_of h.count a in
    let crc = eqb-same _ _ k.crc in
    let outside = none_outside h.first_usable h.last_usable 0 es k.within in
    let overlap = none_overlap es k.apart in
    (λ i. must (crc i) (ArrayCrc h.array_crc (crc32 a)) then (outside_fault (outside i) then overlap_fault (overlap i)))

answer_ok : (o : Option GptFault) (t u : Table) → answer o t ≡ Ok u → (o ≡ None) × (t ≡ u)
answer_ok None t u e = (refl, cc)
answer_ok (Some f) t u e = absurd cc

-- ---- what is read is in the grammar

found_with : (s : Side) (b : List ℕ) → IsSide s → length b ≡ 20480 → All IsByte b
    → KeepsHeader s (header_bytes s b) → array_fault (header_of (header_bytes s b)) (array_bytes s (header_of (header_bytes s b)) b) ≡ None
    → IsCopy s b (table_of (header_of (header_bytes s b)) (array_bytes s (header_of (header_bytes s b)) b))
found_with s b side len bytes k kept =
    let hb = header_bytes s b in
    let h = header_of hb in
    let a = array_bytes s h b in
    let above = side.above in
    let own = side.own in
    let low = side.low in
    let high = side.high in
    let array_low = k.place.low in
    let array_high = k.place.high in
    let few = k.few in
    let some = k.some in
    let hb_len : length hb ≡ 92 = part_length ((s.own - s.base) * 512) 92 b (omega arith) in
    let hb_bytes : All IsByte hb = part_bytes ((s.own - s.base) * 512) 92 b bytes in
    let a_len : length a ≡ 128 * h.count = part_length ((h.array - s.base) * 512) (128 * h.count) b (omega arith) in
    let a_bytes : All IsByte a = part_bytes ((h.array - s.base) * 512) (128 * h.count) b bytes in
    let fits : IsHeader h = header_of-fits hb hb_len hb_bytes in
    let text : hb ≡ header_text h = text-header_of hb hb_len hb_bytes k.signed in
    let text_len : length (header_text h) ≡ 92 = header_text-length h fits in
    let es = entries_of h.count a in
    let array : array_text es ≡ a = text-entries_of h.count a a_len a_bytes in
    let r = keeps_array h a kept in
    record {
      header = h;
      fits = fits;
      stands = ap (λ (n : ℕ). part_at ((s.own - s.base) * 512) n b) text_len ∙ text;
      revision = k.revision;
      size = k.size;
      crc = k.crc ∙ ap crc32 (ap blanked text ∙ blanked-text h);
      entry_size = k.entry_size;
      some = omega arith;
      few = omega arith;
      place = k.place;
      disk = refl;
      count = sym (entries_of-length h.count a);
      entries = entries_of-fits h.count a a_len a_bytes;
      array = ap (λ (n : ℕ). part_at ((h.array - s.base) * 512) n b) (ap length array ∙ a_len) ∙ sym array;
      array_crc = r.crc ∙ ap crc32 (sym array);
      within = r.within;
      apart = r.apart;
    }

pub found_copy : (s : Side) (b : List ℕ) (t : Table) → IsSide s → length b ≡ 20480 → All IsByte b → copy_of s b ≡ Ok t → IsCopy s b t
unfolding copy_of
found_copy s b t side len bytes e =
    let r = answer_ok _ _ _ e in
    let kept = then_none _ _ r.0 in
    subst (IsCopy s b) r.1 (found_with s b side len bytes (keeps_header s (header_bytes s b) kept.0) kept.1)

-- ---- what is in the grammar is read

pub copy_only : (s : Side) (b : List ℕ) (t : Table) → IsCopy s b t → copy_of s b ≡ Ok t
unfolding copy_of
copy_only s b t k =
    let h = k.header in
    let hb = header_bytes s b in
    let text : hb ≡ header_text h = ap (λ (n : ℕ). part_at ((s.own - s.base) * 512) n b) (sym (header_text-length h k.fits)) ∙ k.stands in
    let same : header_of hb ≡ h = ap header_of text ∙ header_of-text h k.fits in
    let some = k.some in
    let few = k.few in
    let keeps : KeepsHeader s hb = record {
      signed = ap (take 8) text ∙ signature-text h;
      revision = ap (λ (x : Header). x.revision) same ∙ k.revision;
      size = ap (λ (x : Header). x.size) same ∙ k.size;
      crc = ap (λ (x : Header). x.crc) same ∙ k.crc ∙ ap crc32 (sym (blanked-text h) ∙ ap blanked (sym text));
      entry_size = ap (λ (x : Header). x.entry_size) same ∙ k.entry_size;
      some = omega (arith, ap (λ (x : Header). x.count) same);
      few = omega (arith, ap (λ (x : Header). x.count) same);
      place = subst (IsInPlace s) (sym same) k.place;
    } in
    let a = array_bytes s h b in
    let a_len : 128 * h.count ≡ length (array_text t.entries) = ap (λ (n : ℕ). 128 * n) k.count ∙ sym (array_text-length t.entries k.entries) in
    let array : a ≡ array_text t.entries = ap (λ (n : ℕ). part_at ((h.array - s.base) * 512) n b) a_len ∙ k.array in
    let es : entries_of h.count a ≡ t.entries = (λ i. entries_of (k.count i) (array i)) ∙ entries_of-text t.entries k.entries in
    let r : KeepsArray h a (entries_of h.count a) = subst (KeepsArray h a) (sym es) (record { crc = k.array_crc ∙ ap crc32 (sym array); within = k.within; apart = k.apart }) in
    let header_none = header_kept s hb keeps in
    let array_none = array_kept h a r in
    let table : table_of h a ≡ t = (λ i. record { disk = k.disk i; entries = es i }) in
    ap (λ (x : Header). copy_with s x b) same ∙ (λ i. answer (header_none i then array_none i) (table i))

-- ---- both copies

pub primary_side : (n : ℕ) → 80 ≤ n → IsSide (primary n)
primary_side n h = record { above = omega arith; own = omega arith; low = omega arith; high = omega arith; few = omega arith }

pub alternate_side : (n : ℕ) → 80 ≤ n → n ≤ 1099511627776 → IsSide (alternate n)
alternate_side n h m = record { above = omega arith; own = omega arith; low = omega arith; high = omega arith; few = omega arith }

sized : (n : ℕ) → is_sized n ≡ true → (80 ≤ n) × (n ≤ 1099511627776)
sized n e = (grind (arith, nat_tests), grind (arith, nat_tests))

of_size : (n : ℕ) → 80 ≤ n → n ≤ 1099511627776 → is_sized n ≡ true
of_size n h m = grind (arith, nat_tests)

chosen : {A : Type 0} (b : Bool) (x y : A) → b ≡ true → (if b then x else y) ≡ x
chosen true x y e = refl
chosen false x y e = absurd (true≢false (sym e))

-- a good answer of the first or of the second
first_cases : (p a : Result Table GptFault) (t : Table) → first_good p a ≡ Ok t
    → (p ≡ Ok t) ⊎ (((u : Table) → p ≡ Ok u → ⊥) × (a ≡ Ok t))
first_cases (Ok u) a t e = inl e
first_cases (Err f) (Ok u) t e = inr ((λ v h. cc), e)
first_cases (Err f) (Err g) t e = absurd cc

second_good : (p a : Result Table GptFault) (t : Table) → ((u : Table) → p ≡ Ok u → ⊥) → a ≡ Ok t → first_good p a ≡ Ok t
second_good (Ok u) a t none e = absurd (none u refl)
second_good (Err f) (Ok u) t none e = e
second_good (Err f) (Err g) t none e = absurd cc

size_ok : (b : Bool) (n : ℕ) (r : Result Table GptFault) (t : Table) → (if b then r else Err (Size n)) ≡ Ok t → (b ≡ true) × (r ≡ Ok t)
size_ok true n r t e = (refl, e)
size_ok false n r t e = absurd cc

pub found_gpt : (head tail : List ℕ) (n : ℕ) (t : Table) → (80 ≤ n → n ≤ 1099511627776 → length head ≡ 20480) → (80 ≤ n → n ≤ 1099511627776 → length tail ≡ 20480)
    → All IsByte head → All IsByte tail → gpt_of head tail n ≡ Ok t → IsGpt head tail n t
unfolding gpt_of
found_gpt head tail n t hl tl hb tb e =
    let r = size_ok (is_sized n) n (first_good (copy_of (primary n) head) (copy_of (alternate n) tail)) t e in
    let z = sized n r.0 in
    let p = primary_side n z.0 in
    let a = alternate_side n z.0 z.1 in
    record {
      least = z.0;
      most = z.1;
      copy = elim (first_cases _ _ t r.1) [
        | inl x ↦ inl (found_copy (primary n) head t p (hl z.0 z.1) hb x)
        | inr x ↦ inr ((λ u g. x.0 u (copy_only (primary n) head u g)), found_copy (alternate n) tail t a (tl z.0 z.1) tb x.1)
      ];
    }

pub gpt_only : (head tail : List ℕ) (n : ℕ) (t : Table) → (80 ≤ n → n ≤ 1099511627776 → length head ≡ 20480)
    → All IsByte head → IsGpt head tail n t → gpt_of head tail n ≡ Ok t
unfolding gpt_of
gpt_only head tail n t hl hb g =
    let p = primary_side n g.least in
    let both : Result Table GptFault = first_good (copy_of (primary n) head) (copy_of (alternate n) tail) in
    let read : both ≡ Ok t = elim g.copy [
      | inl x ↦ ap (λ (r : Result Table GptFault). first_good r (copy_of (alternate n) tail)) (copy_only (primary n) head t x)
      | inr x ↦ second_good _ _ t (λ u e. x.0 u (found_copy (primary n) head u p (hl g.least g.most) hb e)) (copy_only (alternate n) tail t x.1)
    ] in
    chosen (is_sized n) both (Err (Size n)) (of_size n g.least g.most) ∙ read

pub gpt_of-sized : (head tail : List ℕ) (n : ℕ) → 80 ≤ n → n ≤ 1099511627776
    → first_good (copy_of (primary n) head) (copy_of (alternate n) tail) ≡ gpt_of head tail n
unfolding gpt_of
gpt_of-sized head tail n h m = sym (chosen (is_sized n) _ (Err (Size n)) (of_size n h m))

pub found_is : (head tail : List ℕ) (n : ℕ) (r : Result Table GptFault) → (80 ≤ n → n ≤ 1099511627776 → length head ≡ 20480) → (80 ≤ n → n ≤ 1099511627776 → length tail ≡ 20480)
    → All IsByte head → All IsByte tail → r ≡ gpt_of head tail n → IfOk r (λ t. IsGpt head tail n t)
found_is head tail n (Ok t) hl tl hb tb e = found_gpt head tail n t hl tl hb tb (sym e)
found_is head tail n (Err f) hl tl hb tb e = tt

-- ---- the used entries have sectors, and end below 2^40

bounded : (from to : ℕ) (es : List Entry) → to < 1099511627776 → AllByRecursion (UsedIsWithin from to) es → AllByRecursion UsedIsBounded es
bounded from to [] lt all = tt
bounded from to (e ∷ es) lt all =
    ((λ used. let w = all.0 used in let last = w.last in record { order = w.order; last = omega arith }), bounded from to es lt all.1)

copy_bounded : (s : Side) (b : List ℕ) (t : Table) → s.sectors ≤ 1099511627776 → IsCopy s b t → All UsedIsBounded t.entries
copy_bounded s b t few k =
    let last = k.place.last in
    All-from_recursion UsedIsBounded t.entries (bounded k.header.first_usable k.header.last_usable t.entries (omega arith) k.within)

pub bounded_is : (head tail : List ℕ) (n : ℕ) (r : Result Table GptFault) → IfOk r (λ t. IsGpt head tail n t) → IfOk r (λ t. All UsedIsBounded t.entries)
bounded_is head tail n (Err f) g = tt
bounded_is head tail n (Ok t) g = elim g.copy [
  | inl x ↦ copy_bounded (primary n) head t g.most x
  | inr x ↦ copy_bounded (alternate n) tail t g.most x.1
]

-- The forms of a GUID, by its sixteen bytes.
use Rattle.std.proofs.Common.{is_some, unwrap_or, ◌≡◌, ◌≢◌, ℕ, List, [], length, get_or, refl, sym, ◌∙◌, ap, subst, inl, Option, Some, None, Bool, true, false, not, true≢false, if◌then◌else◌}
use Rattle.std.specs.Str.{bytes_eq}
use Rattle.std.proofs.lemmas.Slice.Eq.{bytes_eq-Decides}
use Rattle.std.proofs.lemmas.List.{get_or_default}
use Rattle.uuid.specs.Text.{by_index, hyphenated_text, lower, parsed}
use Rattle.uuid.specs.Parts.{swap_fields}
use Rattle.uuid.proofs.TextLemmas.{by_index_same}
use Rattle.uuid.proofs.RoundTrips.{parses_hyphenated}
use Rattle.guid_crc.specs.Guids.{disk_form, guid_text, guid_spelled, guid_of, Guid, IsGuid}

-- sixteen bytes, one by one
sixteen : (xs : List ℕ) → length xs ≡ 16 → xs ≡ by_index 16 (λ k. get_or xs k 0)
sixteen xs len = by_index_same xs 16 (λ k. get_or xs k 0) len (λ k d within. get_or_default xs k d 0 (rw len within))

at_sixteen : (P : List ℕ → Type 0) → ((f : ℕ → ℕ) → P (by_index 16 f)) → (xs : List ℕ) → length xs ≡ 16 → P xs
at_sixteen P holds xs len = subst P (sym (sixteen xs len)) (holds (λ k. get_or xs k 0))

swap_at : (f : ℕ → ℕ) → swap_fields (by_index 16 f) ≡ disk_form (by_index 16 f)
unfolding by_index
swap_at f = refl

pub swap_is_disk_form : (xs : List ℕ) → length xs ≡ 16 → swap_fields xs ≡ disk_form xs
swap_is_disk_form = at_sixteen (λ xs. swap_fields xs ≡ disk_form xs) swap_at

twice_at : (f : ℕ → ℕ) → disk_form (disk_form (by_index 16 f)) ≡ by_index 16 f
unfolding by_index
twice_at f = refl

pub disk_form-twice : (xs : List ℕ) → length xs ≡ 16 → disk_form (disk_form xs) ≡ xs
disk_form-twice = at_sixteen (λ xs. disk_form (disk_form xs) ≡ xs) twice_at

text_at : (f : ℕ → ℕ) → hyphenated_text lower (by_index 16 f) ≡ guid_text (by_index 16 f)
unfolding by_index
text_at f = refl

pub hyphenated_is_guid_text : (xs : List ℕ) → length xs ≡ 16 → hyphenated_text lower xs ≡ guid_text xs
hyphenated_is_guid_text = at_sixteen (λ xs. hyphenated_text lower xs ≡ guid_text xs) text_at

if_same : {A : Type 0} (b : Bool) (x y : A) → b ≡ true → (if b then x else y) ≡ x
if_same b x y e = rw e refl

if_other : {A : Type 0} (b : Bool) (x y : A) → not b ≡ true → (if b then x else y) ≡ y
if_other true x y e = absurd (true≢false (sym e))
if_other false x y e = refl

not_false : (b : Bool) → not b ≡ false → b ≡ true
not_false true e = refl
not_false false e = absurd (true≢false e)

-- what a text that is parsed is read as, where it is shown again
read_spelled : (text id : List ℕ) → Some id ≡ parsed text → bytes_eq (guid_text id) text ≡ true → guid_of text ≡ Some (record { 0 = id })
unfolding guid_of
read_spelled text id is_parsed same = ap (guid_spelled text) (sym is_parsed) ∙ if_same (bytes_eq (guid_text id) text) (Some (record { 0 = id })) None same

shown_again : (text id shown : List ℕ) → length id ≡ 16 → shown ≡ hyphenated_text lower id → bytes_eq shown text ≡ bytes_eq (guid_text id) text
shown_again text id shown len is_shown = ap (λ (s : List ℕ). bytes_eq s text) (is_shown ∙ hyphenated_is_guid_text id len)

pub read_same : (text id shown : List ℕ) → length id ≡ 16 → Some id ≡ parsed text → shown ≡ hyphenated_text lower id
    → not (bytes_eq shown text) ≡ false → guid_of text ≡ Some (record { 0 = id })
read_same text id shown len is_parsed is_shown same =
    read_spelled text id is_parsed (sym (shown_again text id shown len is_shown) ∙ not_false (bytes_eq shown text) same)

pub text_same : (text id shown : List ℕ) → length id ≡ 16 → shown ≡ hyphenated_text lower id
    → not (bytes_eq shown text) ≡ false → text ≡ guid_text id
text_same text id shown len is_shown same =
    sym ((bytes_eq-Decides (guid_text id) text).0 (sym (shown_again text id shown len is_shown) ∙ not_false (bytes_eq shown text) same))

pub read_other : (text id shown : List ℕ) → length id ≡ 16 → Some id ≡ parsed text → shown ≡ hyphenated_text lower id
    → not (bytes_eq shown text) ≡ true → guid_of text ≡ None
unfolding guid_of
read_other text id shown len is_parsed is_shown other =
    ap (guid_spelled text) (sym is_parsed)
    ∙ if_other (bytes_eq (guid_text id) text) (Some (record { 0 = id })) None (ap not (sym (shown_again text id shown len is_shown)) ∙ other)

pub read_unparsed : (text : List ℕ) → ((u : List ℕ) → parsed text ≢ Some u) → guid_of text ≡ None
unfolding guid_of
read_unparsed text none = by_cases (parsed text) refl
  where
    by_cases : (o : Option (List ℕ)) → parsed text ≡ o → guid_spelled text (parsed text) ≡ None
    by_cases None e = ap (guid_spelled text) e
    by_cases (Some u) e = absurd (none u e)

-- the text of a GUID is read as that GUID
pub read_text : (text : List ℕ) (g : Guid) → IsGuid g → text ≡ guid_text g.0 → guid_of text ≡ Some g
read_text text g is_guid spelled =
    let same = hyphenated_is_guid_text g.0 is_guid.0 in
    let is_parsed : Some g.0 ≡ parsed text =
    parses_hyphenated lower g.0 (inl refl) is_guid.0 is_guid.1 ∙ ap parsed (same ∙ sym spelled) in
    read_spelled text g.0 is_parsed ((bytes_eq-Decides (guid_text g.0) text).1 (sym spelled))

-- what is read has its text
pub read_found : (text : List ℕ) (g : Guid) → guid_of text ≡ Some g → text ≡ guid_text g.0
unfolding guid_of
read_found text g is_read = by_cases (parsed text) is_read
  where
    none : Guid
    none = record { 0 = [] }

    by_test : (u : List ℕ) (b : Bool) → bytes_eq (guid_text u) text ≡ b → (if b then Some (record { 0 = u }) else None) ≡ Some g → text ≡ guid_text g.0
    by_test u true same e = sym ((bytes_eq-Decides (guid_text u) text).0 same) ∙ ap (λ (o : Option Guid). guid_text (unwrap_or o none).0) e
    by_test u false same e = absurd (true≢false (sym (ap is_some e)))

    by_cases : (o : Option (List ℕ)) → guid_spelled text o ≡ Some g → text ≡ guid_text g.0
    by_cases None e = absurd (true≢false (sym (ap is_some e)))
    by_cases (Some u) e = by_test u (bytes_eq (guid_text u) text) refl e

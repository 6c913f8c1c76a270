-- The text of a GUID is printed, so it is text.
use Rattle.std.proofs.Common.{◌≡◌, ◌<◌, ◌/◌, ◌%◌, ◌+◌, ◌-◌, ℕ, List, [], ◌∷◌, ◌++◌, take, drop, true, false, ltb, Option, Some, None, Ok, Err, refl, sym, ap, subst, ◌∙◌, arith, inl, inr}
use Rattle.std.specs.List.{list_all}
use Rattle.std.specs.Str.{IsUtf8}
use Rattle.std.proofs.lemmas.Bool.{lt-ltb, le-ltb, cases_lt}
use Rattle.std.proofs.lemmas.List.Folds.{list_all-append}
use Rattle.mg_base.specs.declared.values.Guid.{Guid}
use Rattle.guid_crc.specs.Guids.{guid_of, guid_text, digit, digits}
use Rattle.guid_crc.proofs.Spelled.{read_found}
use Rattle.text_lines.specs.declared.kinds.PlanKind.TheVariants as kinds
use Rattle.text_lines.specs.Values.{is_printed}
use Rattle.text_lines.proofs.Spelled.{both_true, utf8_printed}
use Rattle.guest_plan.specs.Items.{uuid_of, guid_from}

printed_in : (b : ℕ) → 32 < b → b < 127 → is_printed b ≡ true
printed_in b low high = both_true (ltb 32 b) (ltb b 127) (lt-ltb _ _ low) (lt-ltb _ _ high)

digit_printed : (d : ℕ) → d < 16 → is_printed (digit d) ≡ true
digit_printed d h =
    elim (cases_lt d 10) [
      | inl lt ↦ let t : ltb d 10 ≡ true = lt-ltb _ _ lt in rw t (printed_in (48 + d) (omega arith) (omega arith))
      | inr ge ↦ let t : ltb d 10 ≡ false = le-ltb _ _ ge in rw t (printed_in (97 + d - 10) (omega arith) (omega arith))
    ]

digits_printed : (bytes : List ℕ) → list_all is_printed (digits bytes) ≡ true
digits_printed [] = refl
digits_printed (b ∷ bytes) =
    both_true (is_printed (digit (b / 16 % 16))) (list_all is_printed (digit (b % 16) ∷ digits bytes)) (digit_printed (b / 16 % 16) (omega arith))
    (both_true (is_printed (digit (b % 16))) (list_all is_printed (digits bytes)) (digit_printed (b % 16) (omega arith)) (digits_printed bytes))

joined_printed : (a b : List ℕ) → list_all is_printed a ≡ true → list_all is_printed b ≡ true → list_all is_printed (a ++ b) ≡ true
joined_printed a b ha hb = list_all-append is_printed a b ∙ both_true (list_all is_printed a) (list_all is_printed b) ha hb

pub guid_printed : (g : List ℕ) → list_all is_printed (guid_text g) ≡ true
guid_printed g =
    let d1 : List ℕ = digits (take 4 g) in
    let d2 : List ℕ = 45 ∷ digits (take 2 (drop 4 g)) in
    let d3 : List ℕ = 45 ∷ digits (take 2 (drop 6 g)) in
    let d4 : List ℕ = 45 ∷ digits (take 2 (drop 8 g)) in
    let d5 : List ℕ = 45 ∷ digits (drop 10 g) in
    joined_printed (((d1 ++ d2) ++ d3) ++ d4) d5
    (joined_printed ((d1 ++ d2) ++ d3) d4 (joined_printed (d1 ++ d2) d3 (joined_printed d1 d2 (digits_printed (take 4 g)) (digits_printed (take 2 (drop 4 g)))) (digits_printed (take 2 (drop 6 g)))) (digits_printed (take 2 (drop 8 g))))
    (digits_printed (drop 10 g))

not_none : (o : Option Guid) → ((g : Guid) → o ≡ Some g → ⊥) → o ≡ None
not_none None h = refl
not_none (Some g) h = absurd (h g refl)

pub no_text : (text : List ℕ) → (IsUtf8 text → ⊥) → guid_of text ≡ None
no_text text other = not_none (guid_of text) (λ g e. other (subst IsUtf8 (sym (read_found text g e)) (utf8_printed (guid_text g.0) (guid_printed g.0))))

pub no_uuid : (text : List ℕ) → (IsUtf8 text → ⊥) → uuid_of text ≡ Err kinds.Uuid
unfolding uuid_of
no_uuid text other = ap guid_from (no_text text other)

guid_done : (o : Option Guid) (g : Guid) → guid_from o ≡ Ok g → o ≡ Some g
guid_done None g e = absurd cc
guid_done (Some x) g e = cc

pub uuid_takes : (text : List ℕ) (g : Guid) → uuid_of text ≡ Ok g → (text ≡ guid_text g.0) × (guid_of (guid_text g.0) ≡ Some g)
unfolding uuid_of
uuid_takes text g e =
    let is = guid_done (guid_of text) g e in
    let spelled = read_found text g is in
    (spelled, ap guid_of (sym spelled) ∙ is)

pub uuid_again : (g : Guid) → guid_of (guid_text g.0) ≡ Some g → uuid_of (guid_text g.0) ≡ Ok g
unfolding uuid_of
uuid_again g h = ap guid_from h

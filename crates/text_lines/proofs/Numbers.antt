-- Values and their spellings.
use Rattle.std.proofs.Common.{◌≡◌, ◌<◌, ◌≤◌, ◌*◌, ◌/◌, ◌^◌, ℕ, zero, suc, List, [], ◌∷◌, length, get_or, Bool, true, false, ◌&&◌, ◌||◌, not, cond, ltb, eqb, Result, Ok, Err, refl, sym, ap, subst, ◌∙◌, arith, rules, inl, inr}
use Rattle.std.specs.Prelude.{◌⊎◌}
use Rattle.std.proofs.lemmas.Bool.{ltb-true, lt-ltb, ltb-false, le-ltb, ne_eqb, not-true, false_from_ne_true, cases_eq, cases_lt}
use Rattle.std.proofs.lemmas.Bool.Decides.{nat_tests}
use Rattle.std.specs.Char.{is_ascii_digit}
use Rattle.std.specs.Str.{all_ascii_digits, bytes_eq, IsAscii, IsUtf8}
use Rattle.std.specs.Str.Parse.{digits_value, ParsesUnsigned}
use Rattle.std.specs.Result.{OkIff}
use Rattle.std.specs.Fmt.{decimal}
use Rattle.std.proofs.lemmas.Str.{IsUtf8-from_ascii}
use Rattle.std.proofs.lemmas.Str.Parse.{IsNumeralModel, numerals_by_value, parse_digits}
use Rattle.std.proofs.lemmas.Fmt.{decimal-digits_value, digits_decimal, digits_value-decimal, decimal_nonempty, first_decimal, decimal_digit}
use Rattle.std.proofs.lemmas.Slice.Eq.{bytes_eq-Decides}
use Rattle.hex.specs.declared.error.FromHexError.{FromHexError}
use Rattle.hex.specs.Hex.{IsBytes, decode_sized, encode_lower, lower_digits}
use Rattle.hex.proofs.HexLemmas.{length-encode_with, decode_of-ok, decode_sized-ok, decode_sized-twice, decode_sized-encode_lower}
use Rattle.text_lines.specs.declared.kinds.PlanKind.{PlanKind}
use Rattle.text_lines.specs.declared.kinds.PlanKind.TheVariants as kinds
use Rattle.text_lines.specs.Fields.{◌>>=◌}
use Rattle.text_lines.specs.Values.{check, is_number, number_in, again_from, hex_of, page_salt, is_name, name_of, is_part, part_of, is_folder_name, folder_name_of}
use Rattle.text_lines.specs.Spelling.{IsHexed, salt_text}
use Rattle.text_lines.proofs.Spelled.{both, digit_range}

pub bind_ok : {A B : Type 0} (r : Result A PlanKind) (f : A → Result B PlanKind) (y : B) → (r >>= f) ≡ Ok y → (x : A) × (r ≡ Ok x) × (f x ≡ Ok y)
bind_ok (Ok x) f y e = (x, refl, e)
bind_ok (Err d) f y e = absurd cc

pub check_ok : {A : Type 0} (b : Bool) (kind : PlanKind) (x y : A) → check b kind x ≡ Ok y → (b ≡ true) × (x ≡ y)
check_ok true kind x y e = (refl, cc)
check_ok false kind x y e = absurd cc

pub chosen : {A : Type 0} (b : Bool) (x y z : Result A PlanKind) → cond b x y ≡ z → ((b ≡ true) × (x ≡ z)) ⊎ ((b ≡ false) × (y ≡ z))
chosen true x y z e = inl (refl, e)
chosen false x y z e = inr (refl, e)

pub text_is : (a b : List ℕ) → bytes_eq a b ≡ true → a ≡ b
text_is a b e = (bytes_eq-Decides a b).0 e

pub same_text : (a : List ℕ) → bytes_eq a a ≡ true
same_text a = (bytes_eq-Decides a a).1 refl

-- ---- numbers

own : IsNumeralModel (λ ds. all_ascii_digits ds ≡ true) (digits_value 10)
own = numerals_by_value (λ ds. all_ascii_digits ds ≡ true) (search rules)

-- ---- digits that are parsed

digits_ascii : (ds : List ℕ) → all_ascii_digits ds ≡ true → IsAscii ds
digits_ascii [] e i = omega arith
digits_ascii (d ∷ ds) e zero = let k = both (is_ascii_digit d) (all_ascii_digits ds) e in omega (arith, (digit_range d k.0).1)
digits_ascii (d ∷ ds) e (suc i) = digits_ascii ds (both (is_ascii_digit d) (all_ascii_digits ds) e).1 i

pub digits_utf8 : (ds : List ℕ) → all_ascii_digits ds ≡ true → IsUtf8 ds
digits_utf8 ds e = IsUtf8-from_ascii ds (digits_ascii ds e)

refused_is : {E : Type 0} (ds : List ℕ) (r : Result ℕ E) (f : E) → r ≡ Err f → OkIff r ((0 < length ds) × (digits_value 10 ds < 2 ^ 64)) (digits_value 10 ds) → 0 < length ds → 2 ^ 64 ≤ digits_value 10 ds
refused_is ds (Ok n) f is h some = absurd cc
refused_is ds (Err e) f is h some = elim (cases_lt (digits_value 10 ds) (2 ^ 64)) [ inl fits ↦ absurd (h (some, fits)) | inr large ↦ large ]

pub unparsed : {E : Type 0} (ds text : List ℕ) (r : Result ℕ E) (f : E) → r ≡ Err f → text ≡ ds → all_ascii_digits ds ≡ true → 0 < length ds → ParsesUnsigned 64 10 text r → 2 ^ 64 ≤ digits_value 10 ds
unparsed ds text r f is same e some h = refused_is ds r f is (parse_digits own 64 ds r (rw same at h) e) some

-- ---- numbers

above : (c : ℕ) (t : Bool) → 48 < c → (not (eqb c 48) || t) ≡ true
above c t h = let e : eqb c 48 ≡ false = ne_eqb c 48 (λ same. absurd (omega arith)) in rw e refl

no_zero : (c n : ℕ) → (not (eqb c 48) || eqb n 1) ≡ true → c ≡ 48 → n ≡ 1
no_zero c n e zero_first = grind (arith, nat_tests)

pub number_takes : (low limit : ℕ) (text : List ℕ) (n : ℕ) → limit ≤ 2 ^ 64 → number_in low limit text ≡ Ok n → (text ≡ decimal n) × (low ≤ n) × (n < limit)
unfolding number_in
number_takes low limit text n small e =
    let a = bind_ok (check (is_number text) kinds.Number (digits_value 10 text)) (λ m. check (not (ltb m low) && ltb m limit) kinds.Range m) n e in
    let f = check_ok (is_number text) kinds.Number (digits_value 10 text) a.0 a.1 in
    let r = check_ok (not (ltb a.0 low) && ltb a.0 limit) kinds.Range a.0 n a.2 in
    let range = both (not (ltb a.0 low)) (ltb a.0 limit) r.0 in
    let n_low : low ≤ a.0 = ltb-false a.0 low (not-true (ltb a.0 low) range.0) in
    let n_high : a.0 < limit = ltb-true a.0 limit range.1 in
    let form = both (all_ascii_digits text && ltb 0 (length text)) (not (eqb (get_or text 0 0) 48) || eqb (length text) 1) f.0 in
    let digits = both (all_ascii_digits text) (ltb 0 (length text)) form.0 in
    let value : digits_value 10 text ≡ n = f.1 ∙ r.1 in
    let fits : digits_value 10 text < 2 ^ 64 = omega arith in
    let spelled : decimal (digits_value 10 text) ≡ text = decimal-digits_value own text digits.0 (ltb-true 0 (length text) digits.1) (no_zero (get_or text 0 0) (length text) form.1) fits in
    (sym spelled ∙ ap decimal value, omega arith, omega arith)

first_ok : (n : ℕ) → n < 2 ^ 64 → (not (eqb (get_or (decimal n) 0 0) 48) || eqb (length (decimal n)) 1) ≡ true
first_ok n small =
    elim (cases_eq n 0) [
      | inl none ↦ rw (none, decimal_digit 0 (omega arith)) refl
      | inr some ↦ let first : 48 < get_or (decimal n) 0 0 = first_decimal n (omega arith) (omega arith) in above (get_or (decimal n) 0 0) (eqb (length (decimal n)) 1) first
    ]

pub is_number_decimal : (n : ℕ) → n < 2 ^ 64 → is_number (decimal n) ≡ true
is_number_decimal n small =
    let digits : all_ascii_digits (decimal n) ≡ true = digits_decimal own n (omega arith) in
    let some : ltb 0 (length (decimal n)) ≡ true = lt-ltb _ _ (decimal_nonempty n (omega arith)) in
    rw (digits, some, first_ok n small) refl

pub number_again : (low limit n : ℕ) → limit ≤ 2 ^ 64 → low ≤ n → n < limit → number_in low limit (decimal n) ≡ Ok n
unfolding number_in
number_again low limit n small low_ok high_ok =
    let form = is_number_decimal n (omega arith) in
    let value : digits_value 10 (decimal n) ≡ n = digits_value-decimal own n (omega arith) in
    let t0 : ltb n low ≡ false = le-ltb _ _ low_ok in
    let t1 : ltb n limit ≡ true = lt-ltb _ _ high_ok in
    rw (form, value, t0, t1) refl

-- ---- digits of bytes

again_ok : (text : List ℕ) (r : Result (List ℕ) FromHexError) (bytes : List ℕ) → again_from text r ≡ Ok bytes → (r ≡ Ok bytes) × (encode_lower bytes ≡ text)
again_ok text (Ok b) bytes e =
    let c = check_ok (bytes_eq (encode_lower b) text) kinds.Hex b bytes e in
    (ap (λ (x : List ℕ). Ok x) c.1, ap encode_lower (sym c.1) ∙ text_is (encode_lower b) text c.0)
again_ok text (Err f) bytes e = absurd cc

pub hex_takes : (n : ℕ) (text bytes : List ℕ) → hex_of n text ≡ Ok bytes → (text ≡ encode_lower bytes) × IsHexed n bytes
unfolding hex_of
hex_takes n text bytes e =
    let a = again_ok text (decode_sized text n) bytes e in
    let len : length text ≡ 2 * n = decode_sized-ok text n bytes a.0 in
    let h = decode_of-ok text bytes (sym (decode_sized-twice text n len) ∙ a.0) in
    (sym a.1, (omega (arith, h.2), h.3))

pub hex_again : (n : ℕ) (bytes : List ℕ) → IsHexed n bytes → hex_of n (encode_lower bytes) ≡ Ok bytes
unfolding hex_of
hex_again n bytes h = rw (decode_sized-encode_lower bytes n h.0 h.1, same_text (encode_lower bytes)) refl

-- ---- the salt of pages

some_salt : (salt : List ℕ) → 0 < length salt → salt_text salt ≡ encode_lower salt
some_salt [] h = absurd (omega arith)
some_salt (b ∷ bytes) h = refl

abbrev done : List ℕ → Result (List ℕ) PlanKind
done x = Ok x

abbrev refused : Result (List ℕ) PlanKind
refused = Err kinds.Hex

done_is : (x y : List ℕ) → done x ≡ done y → x ≡ y
done_is x y e = cc

abbrev Salted : List ℕ → List ℕ → Type 0
Salted text salt = (text ≡ salt_text salt) × (length salt < 33) × IsBytes salt

pub salt_takes : (text salt : List ℕ) → page_salt text ≡ Ok salt → (text ≡ salt_text salt) × (length salt < 33) × IsBytes salt
unfolding page_salt
salt_takes text salt e =
    elim (chosen (bytes_eq text (45 ∷ [])) (done []) (cond (ltb 1 (length text) && ltb (length text) 65) (hex_of (length text / 2) text) refused) (done salt) e) [
      | inl h ↦ subst (Salted text) (done_is [] salt h.1) (text_is text (45 ∷ []) h.0, omega arith, λ i. omega arith)
      | inr h ↦
          elim (chosen (ltb 1 (length text) && ltb (length text) 65) (hex_of (length text / 2) text) refused (done salt) h.1) [
            | inl k ↦
                let t = hex_takes (length text / 2) text salt k.1 in
                let range = both (ltb 1 (length text)) (ltb (length text) 65) k.0 in
                let low : 1 < length text = ltb-true 1 (length text) range.0 in
                let high : length text < 65 = ltb-true (length text) 65 range.1 in
                (t.0 ∙ sym (some_salt salt (omega (arith, t.1.0))), omega (arith, t.1.0), t.1.1)
            | inr k ↦ absurd (cc (k.1))
          ]
    ]

salt_from : (x salt : List ℕ) → bytes_eq x (45 ∷ []) ≡ false → ltb 1 (length x) ≡ true → ltb (length x) 65 ≡ true → hex_of (length x / 2) x ≡ Ok salt → page_salt x ≡ Ok salt
unfolding page_salt
salt_from x salt a b c h = rw (a, b, c) h

pub salt_again : (salt : List ℕ) → length salt < 33 → IsBytes salt → page_salt (salt_text salt) ≡ Ok salt
unfolding page_salt
salt_again [] few fits = refl
salt_again (b ∷ bytes) few fits =
    let salt : List ℕ = b ∷ bytes in
    let x : List ℕ = encode_lower salt in
    let len : length x ≡ 2 * length salt = length-encode_with lower_digits salt in
    let half : length x / 2 ≡ length salt = omega arith in
    salt_from x salt (false_from_ne_true (bytes_eq x (45 ∷ [])) (λ e. let same : length x ≡ 1 = ap length (text_is x (45 ∷ []) e) in absurd (omega arith)))
    (lt-ltb _ _ (omega arith)) (lt-ltb _ _ (omega arith)) (ap (λ (n : ℕ). hex_of n x) half ∙ hex_again (length salt) salt (refl, fits))

-- ---- names

pub name_takes : (text name : List ℕ) → name_of text ≡ Ok name → (text ≡ name) × (is_name name ≡ true)
unfolding name_of
name_takes text name e = let c = check_ok (is_name text) kinds.Name text name e in (c.1, ap is_name (sym c.1) ∙ c.0)

pub name_again : (name : List ℕ) → is_name name ≡ true → name_of name ≡ Ok name
unfolding name_of
name_again name h = rw h refl

pub part_takes : (text name : List ℕ) → part_of text ≡ Ok name → (text ≡ name) × (is_part name ≡ true)
unfolding part_of
part_takes text name e = let c = check_ok (is_part text) kinds.Name text name e in (c.1, ap is_part (sym c.1) ∙ c.0)

pub part_again : (name : List ℕ) → is_part name ≡ true → part_of name ≡ Ok name
unfolding part_of
part_again name h = rw h refl

pub folder_name_takes : (text name : List ℕ) → folder_name_of text ≡ Ok name → (text ≡ name) × (is_folder_name name ≡ true)
unfolding folder_name_of
folder_name_takes text name e = let c = check_ok (is_folder_name text) kinds.Name text name e in (c.1, ap is_folder_name (sym c.1) ∙ c.0)

pub folder_name_again : (name : List ℕ) → is_folder_name name ≡ true → folder_name_of name ≡ Ok name
unfolding folder_name_of
folder_name_again name h = rw h refl

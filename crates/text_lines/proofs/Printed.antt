-- No value that a line spells has a space or a line feed in it.
use Rattle.std.proofs.Common.{◌≡◌, ◌<◌, ◌/◌, ◌%◌, ◌^◌, ℕ, zero, suc, List, [], ◌∷◌, length, get_or, Bool, true, false, ◌&&◌, not, ltb, eqb, refl, arith, rules}
use Rattle.std.proofs.lemmas.Bool.{ltb-true, lt-ltb, eqb-true}
use Rattle.std.specs.Char.{is_ascii_digit}
use Rattle.std.specs.Str.{all_ascii_digits}
use Rattle.std.specs.Fmt.{decimal}
use Rattle.std.specs.List.{list_all}
use Rattle.std.proofs.lemmas.List.Folds.{list_all-append}
use Rattle.std.proofs.lemmas.Fmt.{digits_decimal}
use Rattle.std.proofs.lemmas.Str.Parse.{IsNumeralModel, numerals_by_value}
use Rattle.std.specs.Str.Parse.{digits_value}
use Rattle.hex.specs.Hex.{IsBytes, encode_with, lower_digits}
use Rattle.text_lines.specs.Values.{is_printed}
use Rattle.text_lines.specs.Spelling.{◌then◌, salt_text}
use Rattle.text_lines.proofs.Spelled.{both, digit_range}
use Rattle.text_lines.proofs.Fielded.{Free, OneLine, is_free}

abbrev pub printed : List ℕ → Bool
printed x = list_all (λ b. ltb 32 b) x

and_true : (a b : Bool) → a ≡ true → b ≡ true → (a && b) ≡ true
and_true true b e f = f
and_true false b e f = absurd cc

not_same : (at b : ℕ) (t : Bool) → (t ≡ true → b ≡ at) → at < 33 → 32 < b → not t ≡ true
not_same at b false h low high = refl
not_same at b true h low high = let same : b ≡ at = h refl in absurd (omega arith)

pub printed_free : (at : ℕ) (x : List ℕ) → at < 33 → printed x ≡ true → is_free at x ≡ true
printed_free at [] low h = refl
printed_free at (b ∷ x) low h =
    let k = both (ltb 32 b) (printed x) h in
    and_true (not (eqb b at)) (is_free at x) (not_same at b (eqb b at) (eqb-true b at) low (ltb-true 32 b k.0)) (printed_free at x low k.1)

within : (xs : List ℕ) (i : ℕ) → printed xs ≡ true → i < length xs → ltb 32 (get_or xs i 0) ≡ true
within [] i h lt = absurd (omega arith)
within (x ∷ xs) zero h lt = (both (ltb 32 x) (printed xs) h).0
within (x ∷ xs) (suc i) h lt = within xs i (both (ltb 32 x) (printed xs) h).1 (omega arith)

digits_printed : printed lower_digits ≡ true
digits_printed = refl

pub hex_printed : (bytes : List ℕ) → IsBytes bytes → printed (encode_with lower_digits bytes) ≡ true
unfolding encode_with
hex_printed [] h = refl
hex_printed (b ∷ bytes) h =
    let fits : b < 256 = h 0 in
    and_true _ _ (within lower_digits (b / 16) digits_printed (omega arith)) (and_true _ _ (within lower_digits (b % 16) digits_printed (omega arith)) (hex_printed bytes (λ i. h (suc i))))

pub salt_printed : (salt : List ℕ) → IsBytes salt → printed (salt_text salt) ≡ true
salt_printed [] h = refl
salt_printed (b ∷ bytes) h = hex_printed (b ∷ bytes) h

all_digits_printed : (ds : List ℕ) → all_ascii_digits ds ≡ true → printed ds ≡ true
all_digits_printed [] h = refl
all_digits_printed (d ∷ ds) h =
    let k = both (is_ascii_digit d) (all_ascii_digits ds) h in
    let r = digit_range d k.0 in
    and_true (ltb 32 d) (printed ds) (lt-ltb _ _ (omega (arith, r.0))) (all_digits_printed ds k.1)

own : IsNumeralModel (λ ds. all_ascii_digits ds ≡ true) (digits_value 10)
own = numerals_by_value (λ ds. all_ascii_digits ds ≡ true) (search rules)

pub decimal_printed : (n : ℕ) → n < 2 ^ 64 → printed (decimal n) ≡ true
decimal_printed n small = all_digits_printed (decimal n) (digits_decimal own n (omega arith))

-- the bytes of a name, without those above 0x7E
pub name_bytes_printed : (text : List ℕ) → list_all is_printed text ≡ true → printed text ≡ true
name_bytes_printed [] h = refl
name_bytes_printed (b ∷ text) h =
    let k = both (is_printed b) (list_all is_printed text) h in
    and_true (ltb 32 b) (printed text) (both (ltb 32 b) (ltb b 127) k.0).0 (name_bytes_printed text k.1)

-- ---- printed text in a line

pub free : (x : List ℕ) → printed x ≡ true → Free x
free x h = printed_free 32 x (omega arith) h

pub one : (x : List ℕ) → printed x ≡ true → OneLine x
one x h = printed_free 10 x (omega arith) h

pub then_one : (a b : List ℕ) → OneLine a → OneLine b → OneLine (a then b)
then_one a b ha hb = rw (list_all-append (λ x. not (eqb x 10)) a (32 ∷ b), ha) hb

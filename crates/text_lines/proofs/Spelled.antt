-- Digits and names, byte by byte.
use Rattle.std.proofs.Common.{◌≡◌, ◌<◌, ◌≤◌, ℕ, zero, suc, List, [], ◌∷◌, Bool, true, false, ◌&&◌, not, ltb, eqb, refl, arith}
use Rattle.std.proofs.lemmas.Bool.{ltb-true}
use Rattle.std.proofs.lemmas.Bool.Decides.{nat_tests}
use Rattle.std.specs.Char.{is_ascii_digit}
use Rattle.std.specs.Str.{IsAscii, IsUtf8}
use Rattle.std.specs.List.{list_all}
use Rattle.std.proofs.lemmas.Str.{IsUtf8-from_ascii}
use Rattle.text_lines.specs.Values.{is_printed, is_name_byte, is_name, is_part, is_folder_name}

pub both : (a b : Bool) → (a && b) ≡ true → (a ≡ true) × (b ≡ true)
both true b e = (refl, e)
both false b e = absurd cc

pub both_true : (a b : Bool) → a ≡ true → b ≡ true → (a && b) ≡ true
both_true true b e f = f
both_true false b e f = absurd cc

pub digit_range : (c : ℕ) → is_ascii_digit c ≡ true → (48 ≤ c) × (c < 58)
digit_range c e = grind (arith, nat_tests)

printed_ascii : (b : ℕ) → is_printed b ≡ true → b < 128
printed_ascii b e = let k = both (ltb 32 b) (ltb b 127) e in omega (arith, ltb-true b 127 k.1)

ascii_printed : (bs : List ℕ) → list_all is_printed bs ≡ true → IsAscii bs
ascii_printed [] e i = omega arith
ascii_printed (b ∷ bs) e zero = printed_ascii b (both (is_printed b) (list_all is_printed bs) e).0
ascii_printed (b ∷ bs) e (suc i) = ascii_printed bs (both (is_printed b) (list_all is_printed bs) e).1 i

pub utf8_printed : (text : List ℕ) → list_all is_printed text ≡ true → IsUtf8 text
utf8_printed text e = IsUtf8-from_ascii text (ascii_printed text e)

pub names_printed : (bs : List ℕ) → list_all is_name_byte bs ≡ true → list_all is_printed bs ≡ true
names_printed [] e = refl
names_printed (b ∷ bs) e =
    let k = both (is_name_byte b) (list_all is_name_byte bs) e in
    both_true (is_printed b) (list_all is_printed bs) (both (is_printed b) (not (eqb b 47)) k.0).0 (names_printed bs k.1)

pub name_printed : (text : List ℕ) → is_name text ≡ true → list_all is_printed text ≡ true
name_printed text e = let h = both _ _ e in let k = both _ _ h.0 in let l = both _ _ k.0 in names_printed text l.1

pub part_printed : (text : List ℕ) → is_part text ≡ true → list_all is_printed text ≡ true
part_printed text e = let h = both _ _ e in names_printed text h.1

pub folder_name_printed : (text : List ℕ) → is_folder_name text ≡ true → list_all is_printed text ≡ true
folder_name_printed text e = (both _ _ e).1

-- Bytes, as digits spell them.
use Rattle.std.proofs.Common.{◌≡◌, ◌<◌, ◌≤◌, ◌*◌, ℕ, List, [], ◌∷◌, length, true, false, ◌&&◌, not, cond, ltb, Result, Ok, Err, refl, sym, ap, subst, ◌∙◌, arith, inl, inr}
use Rattle.std.proofs.lemmas.Bool.{lt-ltb, ltb-false, le-ltb, not-true, false_from_ne_true}
use Rattle.std.specs.Str.{bytes_eq}
use Rattle.hex.specs.declared.error.FromHexError.{FromHexError}
use Rattle.hex.specs.Hex.{IsBytes, decode_of, encode_lower, lower_digits}
use Rattle.hex.proofs.HexLemmas.{length-encode_with, decode_of-ok, decode_of-encode_lower}
use Rattle.text_lines.specs.declared.kinds.PlanKind.{PlanKind}
use Rattle.text_lines.specs.declared.kinds.PlanKind.TheVariants as kinds
use Rattle.text_lines.specs.Values.{again_from, check}
use Rattle.text_lines.proofs.Spelled.{both}
use Rattle.text_lines.proofs.Numbers.{bind_ok, check_ok, chosen, same_text, text_is}
use Rattle.text_lines.proofs.Printed.{hex_printed, printed}
use Rattle.frame_text.specs.Spelling.{bytes_text}
use Rattle.frame_text.specs.Reading.{digits_of, bytes_in}

abbrev done : List ℕ → Result (List ℕ) PlanKind
done x = Ok x

abbrev refused : Result (List ℕ) PlanKind
refused = Err kinds.Hex

done_is : (x y : List ℕ) → done x ≡ done y → x ≡ y
done_is x y e = cc

some_text : (bytes : List ℕ) → 0 < length bytes → bytes_text bytes ≡ encode_lower bytes
some_text [] h = absurd (omega arith)
some_text (b ∷ bytes) h = refl

again_ok : (text : List ℕ) (r : Result (List ℕ) FromHexError) (bytes : List ℕ) → again_from text r ≡ Ok bytes → (r ≡ Ok bytes) × (encode_lower bytes ≡ text)
again_ok text (Ok b) bytes e =
    let c = check_ok (bytes_eq (encode_lower b) text) kinds.Hex b bytes e in
    (ap (λ (x : List ℕ). Ok x) c.1, ap encode_lower (sym c.1) ∙ text_is (encode_lower b) text c.0)
again_ok text (Err f) bytes e = absurd cc

abbrev Spells : List ℕ → List ℕ → Type 0
Spells text bytes = (text ≡ bytes_text bytes) × IsBytes bytes

spells : (text bytes : List ℕ) → 0 < length text → again_from text (decode_of text) ≡ Ok bytes → Spells text bytes
spells text bytes some e =
    let a = again_ok text (decode_of text) bytes e in
    let d = decode_of-ok text bytes a.0 in
    (sym a.1 ∙ sym (some_text bytes (omega (arith, d.2))), d.3)

is_some : (n : ℕ) → ltb 0 n ≡ true → 0 < n
is_some n e = grind (arith)

digits_takes : (text bytes : List ℕ) → digits_of text ≡ Ok bytes → Spells text bytes
unfolding digits_of
digits_takes text bytes e =
    elim (chosen (bytes_eq text (45 ∷ [])) (done []) (cond (ltb 0 (length text)) (again_from text (decode_of text)) refused) (done bytes) e) [
      | inl h ↦ subst (Spells text) (done_is [] bytes h.1) (text_is text (45 ∷ []) h.0, λ i. omega arith)
      | inr h ↦
          elim (chosen (ltb 0 (length text)) (again_from text (decode_of text)) refused (done bytes) h.1) [
            | inl k ↦ spells text bytes (is_some (length text) k.0) k.1
            | inr k ↦ absurd (cc (k.1))
          ]
    ]

digits_from : (x bytes : List ℕ) → bytes_eq x (45 ∷ []) ≡ false → ltb 0 (length x) ≡ true → decode_of x ≡ Ok bytes → x ≡ encode_lower bytes → digits_of x ≡ Ok bytes
unfolding digits_of
digits_from x bytes a b d e = rw (a, b, d, sym e, same_text x) refl

digits_again : (bytes : List ℕ) → IsBytes bytes → digits_of (bytes_text bytes) ≡ Ok bytes
unfolding digits_of
digits_again [] h = refl
digits_again (b ∷ bytes) h =
    let all : List ℕ = b ∷ bytes in
    let x : List ℕ = encode_lower all in
    let len : length x ≡ 2 * length all = length-encode_with lower_digits all in
    digits_from x all (false_from_ne_true (bytes_eq x (45 ∷ [])) (λ e. let same : length x ≡ 1 = ap length (text_is x (45 ∷ []) e) in absurd (omega arith)))
    (lt-ltb _ _ (omega arith)) (decode_of-encode_lower all h) refl

-- bytes, so many at least and so many at most
pub record Within (least most : ℕ) (text bytes : List ℕ) : Type 0 where
  pub text_is : text ≡ bytes_text bytes
  pub each : IsBytes bytes
  pub least_is : least ≤ length bytes
  pub most_is : length bytes ≤ most

within_range : (n least most : ℕ) → (not (ltb n least) && not (ltb most n)) ≡ true → (least ≤ n) × (n ≤ most)
within_range n least most e =
    let k = both (not (ltb n least)) (not (ltb most n)) e in
    (ltb-false n least (not-true (ltb n least) k.0), ltb-false most n (not-true (ltb most n) k.1))

pub bytes_takes : (least most : ℕ) (text bytes : List ℕ) → bytes_in least most text ≡ Ok bytes → Within least most text bytes
unfolding bytes_in
bytes_takes least most text bytes e =
    let a = bind_ok (digits_of text) (λ b. check (not (ltb (length b) least) && not (ltb most (length b))) kinds.Range b) bytes e in
    let c = check_ok (not (ltb (length a.0) least) && not (ltb most (length a.0))) kinds.Range a.0 bytes a.2 in
    let r = within_range (length a.0) least most c.0 in
    let d = digits_takes text a.0 a.1 in
    subst (Within least most text) c.1 (record { text_is = d.0; each = d.1; least_is = r.0; most_is = r.1 })

pub bytes_again : (least most : ℕ) (bytes : List ℕ) → IsBytes bytes → least ≤ length bytes → length bytes ≤ most → bytes_in least most (bytes_text bytes) ≡ Ok bytes
unfolding bytes_in
bytes_again least most bytes h low high =
    let a : ltb (length bytes) least ≡ false = le-ltb _ _ low in
    let b : ltb most (length bytes) ≡ false = le-ltb _ _ high in
    rw (digits_again bytes h, a, b) refl

pub bytes_printed : (bytes : List ℕ) → IsBytes bytes → printed (bytes_text bytes) ≡ true
bytes_printed [] h = refl
bytes_printed (b ∷ bytes) h = hex_printed (b ∷ bytes) h

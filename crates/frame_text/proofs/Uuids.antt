-- What a UUID's text is read as: sixteen bytes.
use Rattle.std.proofs.Common.{◌≡◌, ◌<◌, ◌+◌, ◌*◌, ℕ, zero, suc, List, [], ◌∷◌, length, get_or, take, drop, All, Bool, true, false, ◌&&◌, eqb, if◌then◌else◌, Option, Some, None, Ok, refl, subst, lit<, arith, inl, inr}
use Rattle.std.specs.List.{list_all}
use Rattle.std.specs.Str.{bytes_eq}
use Rattle.std.proofs.lemmas.Bool.{cases_lt}
use Rattle.std.proofs.lemmas.Bool.Decides.{nat_tests}
use Rattle.std.proofs.lemmas.List.{get_or_past}
use Rattle.hex.specs.Hex.{IsBytes}
use Rattle.uuid.specs.Text.{by_index, is_hex_digit, value_of, byte_of_digits, digits_of, has_urn_prefix, parsed, parsed_simple, parsed_hyphenated, parsed_braced, parsed_urn}
use Rattle.uuid.proofs.TextLemmas.{by_index_length, by_index_at, all_fit}
use Rattle.guid_crc.specs.Guids.{Guid, IsGuid, guid_of, guid_spelled, guid_text}
use Rattle.guid_crc.proofs.Spelled.{read_text}
use Rattle.text_lines.proofs.Spelled.{both}
use Rattle.guest_plan.specs.Items.{uuid_of}
use Rattle.guest_plan.proofs.Uuids.{uuid_takes, uuid_again}

value_small : (c : ℕ) → is_hex_digit c ≡ true → value_of c < 16
value_small c e = grind (arith, nat_tests)

digit_at : (xs : List ℕ) (k : ℕ) → list_all is_hex_digit xs ≡ true → k < length xs → is_hex_digit (get_or xs k 0) ≡ true
digit_at [] k e h = absurd (omega arith)
digit_at (x ∷ xs) zero e h = (both (is_hex_digit x) (list_all is_hex_digit xs) e).0
digit_at (x ∷ xs) (suc k) e h = digit_at xs k (both (is_hex_digit x) (list_all is_hex_digit xs) e).1 (omega arith)

byte_small : (hex : List ℕ) → length hex ≡ 32 → list_all is_hex_digit hex ≡ true → (k : ℕ) → k < 16 → byte_of_digits hex k < 256
byte_small hex len e k h =
    let a = value_small (get_or hex (2 * k) 0) (digit_at hex (2 * k) e (omega arith)) in
    let b = value_small (get_or hex (2 * k + 1) 0) (digit_at hex (2 * k + 1) e (omega arith)) in
    omega arith

abbrev IsUuid : Option (List ℕ) → Type 0
IsUuid None = Unit {0}
IsUuid (Some u) = (length u ≡ 16) × All (λ b. b < 256) u

where_so : (b : Bool) (u : Option (List ℕ)) → (b ≡ true → IsUuid u) → IsUuid (if b then u else None)
where_so true u h = h refl
where_so false u h = tt

either : (b : Bool) (u v : Option (List ℕ)) → IsUuid u → IsUuid v → IsUuid (if b then u else v)
either true u v a b = a
either false u v a b = b

bytes_of_digits : (hex : List ℕ) → length hex ≡ 32 → list_all is_hex_digit hex ≡ true → IsUuid (Some (by_index 16 (byte_of_digits hex)))
bytes_of_digits hex len e =
    let all : length (by_index 16 (byte_of_digits hex)) ≡ 16 = by_index_length 16 (byte_of_digits hex) in
    (all, all_fit (by_index 16 (byte_of_digits hex)) (λ k h. let low : k < 16 = omega (arith, all) in rw (by_index_at 16 (byte_of_digits hex) k 0 low) (byte_small hex len e k low)))

is_eq : (n m : ℕ) → eqb n m ≡ true → n ≡ m
is_eq n m e = grind (arith, nat_tests)

simple_is : (hex : List ℕ) → IsUuid (parsed_simple hex)
simple_is hex =
    where_so (eqb (length hex) 32 && list_all is_hex_digit hex) (Some (by_index 16 (byte_of_digits hex)))
    (λ e. let k = both (eqb (length hex) 32) (list_all is_hex_digit hex) e in bytes_of_digits hex (is_eq (length hex) 32 k.0) k.1)

hyphenated_is : (s : List ℕ) → IsUuid (parsed_hyphenated s)
hyphenated_is s = where_so _ (parsed_simple (digits_of s)) (λ e. simple_is (digits_of s))

braced_is : (s : List ℕ) → IsUuid (parsed_braced s)
braced_is s = where_so (eqb (length s) 38 && eqb (get_or s 0 0) 123 && eqb (get_or s 37 0) 125) (parsed_hyphenated (take 36 (drop 1 s))) (λ e. hyphenated_is (take 36 (drop 1 s)))

urn_is : (s : List ℕ) → IsUuid (parsed_urn s)
urn_is s = where_so (eqb (length s) 45 && has_urn_prefix s) (parsed_hyphenated (drop 9 s)) (λ e. hyphenated_is (drop 9 s))

abbrev by_urn : List ℕ → Option (List ℕ)
by_urn s = if eqb (length s) 45 then parsed_urn s else None

abbrev by_braces : List ℕ → Option (List ℕ)
by_braces s = if eqb (length s) 38 then parsed_braced s else by_urn s

abbrev by_hyphens : List ℕ → Option (List ℕ)
by_hyphens s = if eqb (length s) 36 then parsed_hyphenated s else by_braces s

parsed_is : (s : List ℕ) → IsUuid (parsed s)
parsed_is s =
    either (eqb (length s) 32) (parsed_simple s) (by_hyphens s) (simple_is s)
    (either (eqb (length s) 36) (parsed_hyphenated s) (by_braces s) (hyphenated_is s)
    (either (eqb (length s) 38) (parsed_braced s) (by_urn s) (braced_is s) (where_so (eqb (length s) 45) (parsed_urn s) (λ _. urn_is s))))

abbrev guid : List ℕ → Guid
guid u = record { 0 = u }

tested_is : (b : Bool) (u : List ℕ) (g : Guid) → IsUuid (Some u) → (if b then Some (guid u) else None) ≡ Some g → IsGuid g
tested_is true u g h e = let same : guid u ≡ g = cc in subst IsGuid same h
tested_is false u g h e = absurd cc

spelled_is : (text : List ℕ) (o : Option (List ℕ)) (g : Guid) → IsUuid o → guid_spelled text o ≡ Some g → IsGuid g
spelled_is text None g h e = absurd cc
spelled_is text (Some u) g h e = tested_is (bytes_eq (guid_text u) text) u g h e

guid_is : (text : List ℕ) (g : Guid) → guid_of text ≡ Some g → IsGuid g
unfolding guid_of
guid_is text g e = spelled_is text (parsed text) g (parsed_is text) e

all_bytes : (xs : List ℕ) → All (λ b. b < 256) xs → IsBytes xs
all_bytes xs h i =
    elim (cases_lt i (length xs)) [
      | inl within ↦ h i 0 within
      | inr past ↦ rw (get_or_past xs i 0 past) (lit< tt)
    ]

-- a UUID's bytes
pub record Is (uuid : List ℕ) : Type 0 where
  pub len : length uuid ≡ 16
  pub bytes : IsBytes uuid

pub uuid_is : (text : List ℕ) (g : Guid) → uuid_of text ≡ Ok g → (text ≡ guid_text g.0) × Is g.0
uuid_is text g e =
    let t = uuid_takes text g e in
    let k = guid_is (guid_text g.0) g t.1 in
    (t.0, record { len = k.0; bytes = all_bytes g.0 k.1 })

pub uuid_back : (uuid : List ℕ) → Is uuid → uuid_of (guid_text uuid) ≡ Ok (guid uuid)
uuid_back uuid h = uuid_again (guid uuid) (read_text (guid_text uuid) (guid uuid) (h.len, all_fit uuid (λ k _. h.bytes k)) refl)

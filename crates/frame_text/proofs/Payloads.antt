-- The 16 bytes of a read.
use Rattle.std.proofs.Common.{◌≡◌, ℕ, zero, suc, ◌^◌, ◌<◌, List, [], ◌∷◌, ◌++◌, length, take, drop, refl, ap, ◌∙◌, lit<, arith}
use Rattle.std.proofs.lemmas.Nat.{le_bytes_4, le_bytes_8, from_le_bytes-to_le_bytes_4, from_le_bytes-to_le_bytes_8}
use Rattle.std.specs.Int.{w32, w64, from_le_bytes, to_le_bytes}
use Rattle.guest_rules.specs.Machine.{ItemRead, item_read}
use Rattle.hex.specs.Hex.{IsBytes}
use Rattle.frame_text.specs.Reading.{read_with, payload_with}

-- the payload of a read: 16 bytes
abbrev pub IsRead : List ℕ → Type 0
IsRead payload = (length payload ≡ 16) × IsBytes payload

-- a read's numbers, which fit
pub record Fits (r : ItemRead) : Type 0 where
  pub item : r.item < 2 ^ 32
  pub offset : r.offset < 2 ^ 64
  pub size : r.size < 2 ^ 32

pub says : (item offset size : ℕ) → item < 2 ^ 32 → offset < 2 ^ 64 → size < 2 ^ 32 → item_read (payload_with item offset size) ≡ read_with item offset size
says item offset size a b c =
    let i : from_le_bytes w32 (to_le_bytes w32 item) ≡ item = from_le_bytes-to_le_bytes_4 item a in
    let o : from_le_bytes w64 (to_le_bytes w64 offset) ≡ offset = from_le_bytes-to_le_bytes_8 offset b in
    let s : from_le_bytes w32 (to_le_bytes w32 size) ≡ size = from_le_bytes-to_le_bytes_4 size c in
    ap (λ (x : ℕ). read_with x (from_le_bytes w64 (to_le_bytes w64 offset)) (from_le_bytes w32 (to_le_bytes w32 size))) i
    ∙ ap (λ (x : ℕ). read_with item x (from_le_bytes w32 (to_le_bytes w32 size))) o
    ∙ ap (λ (x : ℕ). read_with item offset x) s

pub joined_bytes : (xs ys : List ℕ) → IsBytes xs → IsBytes ys → IsBytes (xs ++ ys)
joined_bytes [] ys a b i = b i
joined_bytes (x ∷ xs) ys a b zero = a 0
joined_bytes (x ∷ xs) ys a b (suc i) = joined_bytes xs ys (λ k. a (suc k)) b i

four_bytes : (n : ℕ) → IsBytes (to_le_bytes w32 n)
four_bytes n zero = omega arith
four_bytes n (suc zero) = omega arith
four_bytes n (suc (suc zero)) = omega arith
four_bytes n (suc (suc (suc zero))) = omega arith
four_bytes n (suc (suc (suc (suc i)))) = lit< tt

eight_bytes : (n : ℕ) → IsBytes (to_le_bytes w64 n)
eight_bytes n zero = omega arith
eight_bytes n (suc zero) = omega arith
eight_bytes n (suc (suc zero)) = omega arith
eight_bytes n (suc (suc (suc zero))) = omega arith
eight_bytes n (suc (suc (suc (suc zero)))) = omega arith
eight_bytes n (suc (suc (suc (suc (suc zero))))) = omega arith
eight_bytes n (suc (suc (suc (suc (suc (suc zero)))))) = omega arith
eight_bytes n (suc (suc (suc (suc (suc (suc (suc zero))))))) = omega arith
eight_bytes n (suc (suc (suc (suc (suc (suc (suc (suc i)))))))) = lit< tt

pub is_read : (item offset size : ℕ) → IsRead (payload_with item offset size)
is_read item offset size = (refl, joined_bytes (to_le_bytes w32 item) (to_le_bytes w64 offset ++ to_le_bytes w32 size) (four_bytes item) (joined_bytes (to_le_bytes w64 offset) (to_le_bytes w32 size) (eight_bytes offset) (four_bytes size)))

pub firsts : (n : ℕ) (bytes : List ℕ) → IsBytes bytes → IsBytes (take n bytes)
firsts zero xs p i = lit< tt
firsts (suc n) [] p i = lit< tt
firsts (suc n) (x ∷ xs) p zero = p 0
firsts (suc n) (x ∷ xs) p (suc i) = firsts n xs (λ k. p (suc k)) i

below32 : (b : List ℕ) → IsBytes b → from_le_bytes w32 b < 2 ^ 32
below32 b f = omega (arith, f 0, f 1, f 2, f 3)

below64 : (b : List ℕ) → IsBytes b → from_le_bytes w64 b < 2 ^ 64
below64 b f = omega (arith, f 0, f 1, f 2, f 3, f 4, f 5, f 6, f 7)

pub lasts : (n : ℕ) (bytes : List ℕ) → IsBytes bytes → IsBytes (drop n bytes)
lasts zero xs p i = p i
lasts (suc n) [] p i = lit< tt
lasts (suc n) (x ∷ xs) p i = lasts n xs (λ k. p (suc k)) i

pub fits : (payload : List ℕ) → IsRead payload → Fits (item_read payload)
fits payload h = record {
  item = below32 (take 4 payload) (firsts 4 payload h.1);
  offset = below64 (take 8 (drop 4 payload)) (firsts 8 (drop 4 payload) (lasts 4 payload h.1));
  size = below32 (take 4 (drop 12 payload)) (firsts 4 (drop 12 payload) (lasts 12 payload h.1));
}

abbrev pub again : ItemRead → List ℕ
again r = payload_with r.item r.offset r.size

pub again_is : (payload : List ℕ) → IsRead payload → again (item_read payload) ≡ payload
again_is (a ∷ b ∷ c ∷ d ∷ e ∷ f ∷ g ∷ h ∷ i ∷ j ∷ k ∷ l ∷ m ∷ n ∷ o ∷ p ∷ []) is =
    let all : List ℕ = a ∷ b ∷ c ∷ d ∷ e ∷ f ∷ g ∷ h ∷ i ∷ j ∷ k ∷ l ∷ m ∷ n ∷ o ∷ p ∷ [] in
    let first : List ℕ = a ∷ b ∷ c ∷ d ∷ [] in
    let second : List ℕ = e ∷ f ∷ g ∷ h ∷ i ∷ j ∷ k ∷ l ∷ [] in
    let third : List ℕ = m ∷ n ∷ o ∷ p ∷ [] in
    let x : to_le_bytes w32 (from_le_bytes w32 first) ≡ first = le_bytes_4 first _ refl (firsts 4 all is.1) refl in
    let y : to_le_bytes w64 (from_le_bytes w64 second) ≡ second = le_bytes_8 second _ refl (firsts 8 (drop 4 all) (lasts 4 all is.1)) refl in
    let z : to_le_bytes w32 (from_le_bytes w32 third) ≡ third = le_bytes_4 third _ refl (firsts 4 (drop 12 all) (lasts 12 all is.1)) refl in
    ap (λ (t : List ℕ). t ++ to_le_bytes w64 (from_le_bytes w64 second) ++ to_le_bytes w32 (from_le_bytes w32 third)) x
    ∙ ap (λ (t : List ℕ). first ++ t ++ to_le_bytes w32 (from_le_bytes w32 third)) y
    ∙ ap (λ (t : List ℕ). first ++ second ++ t) z
again_is _ is = absurd (omega (arith, is.0))

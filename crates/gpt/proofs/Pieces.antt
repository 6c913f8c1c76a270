-- Bytes cut into fields.
use Rattle.std.proofs.Common.{◌≡◌, ℕ, ◌+◌, ◌-◌, ◌^◌, ◌<◌, ◌≤◌, List, ◌++◌, All, length, get_or, take, drop, reverse, refl, sym, ap, ◌∙◌, arith, inl, inr}
use Rattle.std.specs.Int.{w32, w64, from_le_bytes}
use Rattle.std.proofs.lemmas.Bool.{cases_lt}
use Rattle.std.proofs.lemmas.List.{take-append-drop, drop-drop, length-append, length-take, length-drop, length-reverse, get_or-reverse, get_or_past}
use Rattle.std.proofs.lemmas.List.Elements.{All-get_or, All-from_get_or, All-append, All-take, All-drop}
use Rattle.std.proofs.lemmas.Nat.{le_bytes_4, le_bytes_8}
use Rattle.guid_crc.specs.Guids.{disk_form, IsGuid}
use Rattle.guid_crc.proofs.Spelled.{disk_form-twice}
use Rattle.gpt.specs.Fields.{part_at, u32_at, u64_at, guid_at}
use Rattle.gpt.specs.Header.{le32, le64}

abbrev pub IsByte : ℕ → Type 0
IsByte b = b < 256

pub part_length : (at n : ℕ) (b : List ℕ) → at + n ≤ length b → length (part_at at n b) ≡ n
part_length at n b h = omega (arith, length-take n (drop at b), length-drop at b)

pub part_bytes : (at n : ℕ) (b : List ℕ) → All IsByte b → All IsByte (part_at at n b)
part_bytes at n b h = All-take IsByte n (drop at b) (All-drop IsByte at b h)

pub byte_at : (b : List ℕ) → All IsByte b → (i : ℕ) → get_or b i 0 < 256
byte_at b h i = elim (cases_lt i (length b)) [
  | inl lt ↦ All-get_or IsByte b i 0 lt h
  | inr le ↦ rw (get_or_past b i 0 le) (omega arith)
]

bytes-reverse : (b : List ℕ) → All IsByte b → All IsByte (reverse b)
bytes-reverse b h = All-from_get_or IsByte (reverse b) 0 (λ i lt.
    let inside : i < length b = omega (arith, length-reverse b) in
    rw (get_or-reverse b i 0 inside) (byte_at b h (length b - 1 - i)))

pub disk_form-length : (g : List ℕ) → length g ≡ 16 → length (disk_form g) ≡ 16
disk_form-length g len =
    let a = reverse (take 4 g) in
    let b = reverse (take 2 (drop 4 g)) in
    let c = reverse (take 2 (drop 6 g)) in
    let la : length a ≡ 4 = omega (arith, length-reverse (take 4 g), length-take 4 g) in
    let lb : length b ≡ 2 = omega (arith, length-reverse (take 2 (drop 4 g)), length-take 2 (drop 4 g), length-drop 4 g) in
    let lc : length c ≡ 2 = omega (arith, length-reverse (take 2 (drop 6 g)), length-take 2 (drop 6 g), length-drop 6 g) in
    omega (arith, la, lb, lc, length-drop 8 g, length-append (a ++ b ++ c) (drop 8 g), length-append (a ++ b) c, length-append a b)

pub disk_form-bytes : (g : List ℕ) → All IsByte g → All IsByte (disk_form g)
disk_form-bytes g h =
    let a = bytes-reverse (take 4 g) (All-take IsByte 4 g h) in
    let b = bytes-reverse (take 2 (drop 4 g)) (part_bytes 4 2 g h) in
    let c = bytes-reverse (take 2 (drop 6 g)) (part_bytes 6 2 g h) in
    All-append IsByte _ _ (All-append IsByte _ _ (All-append IsByte _ _ a b) c) (All-drop IsByte 8 g h)

pub guid_at-fits : (at : ℕ) (b : List ℕ) → at + 16 ≤ length b → All IsByte b → IsGuid (guid_at at b)
guid_at-fits at b h bytes = (disk_form-length (part_at at 16 b) (part_length at 16 b h), disk_form-bytes (part_at at 16 b) (part_bytes at 16 b bytes))

below4 : (b : List ℕ) → All IsByte b → from_le_bytes w32 b < 2 ^ 32
below4 b h = let f = byte_at b h in omega (arith, f 0, f 1, f 2, f 3)

below8 : (b : List ℕ) → All IsByte b → from_le_bytes w64 b < 2 ^ 64
below8 b h = let f = byte_at b h in omega (arith, f 0, f 1, f 2, f 3, f 4, f 5, f 6, f 7)

pub u32_at-fits : (at : ℕ) (b : List ℕ) → All IsByte b → u32_at at b < 2 ^ 32
u32_at-fits at b h = below4 (part_at at 4 b) (part_bytes at 4 b h)

pub u64_at-fits : (at : ℕ) (b : List ℕ) → All IsByte b → u64_at at b < 2 ^ 64
u64_at-fits at b h = below8 (part_at at 8 b) (part_bytes at 8 b h)

-- a piece off the front
pub cut : (at n : ℕ) (b x : List ℕ) → part_at at n b ≡ x → drop at b ≡ x ++ drop (at + n) b
cut at n b x e = sym (take-append-drop n (drop at b)) ∙ ap (λ (y : List ℕ). y ++ drop n (drop at b)) e ∙ ap (λ (y : List ℕ). x ++ y) (drop-drop n at b)

pub cut32 : (at : ℕ) (b : List ℕ) → at + 4 ≤ length b → All IsByte b → drop at b ≡ le32 (u32_at at b) ++ drop (at + 4) b
cut32 at b h bytes =
    cut at 4 b (le32 (u32_at at b)) (sym (le_bytes_4 (part_at at 4 b) (u32_at at b) (part_length at 4 b h) (byte_at (part_at at 4 b) (part_bytes at 4 b bytes)) refl))

pub cut64 : (at : ℕ) (b : List ℕ) → at + 8 ≤ length b → All IsByte b → drop at b ≡ le64 (u64_at at b) ++ drop (at + 8) b
cut64 at b h bytes =
    cut at 8 b (le64 (u64_at at b)) (sym (le_bytes_8 (part_at at 8 b) (u64_at at b) (part_length at 8 b h) (byte_at (part_at at 8 b) (part_bytes at 8 b bytes)) refl))

pub cut_guid : (at : ℕ) (b : List ℕ) → at + 16 ≤ length b → drop at b ≡ disk_form (guid_at at b).0 ++ drop (at + 16) b
cut_guid at b h = cut at 16 b (disk_form (disk_form (part_at at 16 b))) (sym (disk_form-twice (part_at at 16 b) (part_length at 16 b h)))

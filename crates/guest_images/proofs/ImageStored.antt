-- An image with zeros up to a multiple of 4096 bytes, and what its parts are to the statuses.
use Rattle.std.proofs.Common.{◌≡◌, ◌≤◌, ◌+◌, ◌-◌, ◌*◌, ◌^◌, ℕ, List, ◌++◌, length, Bool, true, false, ◌||◌, nat_lt, Option, Some, None, refl, sym, ap, subst, ◌∙◌, arith, append-nil}
use Rattle.std.specs.Prelude.{if◌then◌else◌}
use Rattle.sha_tree.specs.Tree.{div_up}
use Rattle.guid_crc.specs.Guids.{Guid}
use Rattle.instance_image.specs.Records.{zeros}
use Rattle.instance_image.specs.Grammar.{IsImage, empty_slots, image_bytes, taken}
use Rattle.guest_images.specs.declared.status.UnfitKind.{UnfitKind}
use Rattle.guest_images.specs.declared.status.UnfitKind.TheVariants.{TooMany}
use Rattle.guest_images.specs.Imaging.{IsImageFile, image_unfit}

-- what the writer makes is an image, also with sectors of zeros behind it
abbrev pub IsWritten : List ℕ → List (Guid × ℕ) → Type 0
IsWritten salt parts = (more : ℕ) → IsImage (1 + taken parts + more) salt (empty_slots parts) (image_bytes salt parts ++ zeros (512 * more))

pub image_length : (salt : List ℕ) (parts : List (Guid × ℕ)) → IsWritten salt parts → length (image_bytes salt parts) ≡ 512 * (1 + taken parts)
image_length salt parts h =
    let len = (h 0).len in
    ap length (sym (append-nil (image_bytes salt parts))) ∙ len ∙ omega arith

whole_sectors : (n : ℕ) → n + (8 * div_up n 8 - n) ≡ 8 * div_up n 8
whole_sectors n = omega arith

whole_bytes : (n : ℕ) → 512 * (8 * div_up n 8 - n) ≡ 4096 * div_up (512 * n) 4096 - 512 * n
whole_bytes n = omega arith

pub image_padded : (salt : List ℕ) (parts : List (Guid × ℕ)) → IsWritten salt parts → IsImageFile salt parts
image_padded salt parts h =
    let n = 1 + taken parts in
    let bytes = image_bytes salt parts in
    let more = 8 * div_up n 8 - n in
    let room : 512 * more ≡ 4096 * div_up (length bytes) 4096 - length bytes =
    whole_bytes n ∙ ap (λ (m : ℕ). 4096 * div_up m 4096 - m) (sym (image_length salt parts h)) in
    let sectors : IsImage (8 * div_up n 8) salt (empty_slots parts) (bytes ++ zeros (512 * more)) =
    subst (λ (s : ℕ). IsImage s salt (empty_slots parts) (bytes ++ zeros (512 * more))) (whole_sectors n) (h more) in
    subst (λ (z : ℕ). IsImage (8 * div_up n 8) salt (empty_slots parts) (bytes ++ zeros z)) room sectors

-- ---- partitions of which an image can be made

pub record FitImage (parts : List (Guid × ℕ)) : Type 0 where
  pub few : length parts ≤ 256
  pub size : 1 + taken parts ≤ 2 ^ 21

none_of : (b : Bool) (k : UnfitKind) (rest : Option UnfitKind) → (if b then Some k else rest) ≡ None → b ≡ false
none_of true k rest e = absurd (cc (e))
none_of false k rest e = refl

neither : (a b : Bool) → (a || b) ≡ false → (a ≡ false) × (b ≡ false)
neither true b e = absurd (cc (e))
neither false b e = (refl, e)

not_more : (limit n : ℕ) → nat_lt limit n ≡ false → n ≤ limit
not_more limit n e = grind arith

pub fit_image : (parts : List (Guid × ℕ)) → image_unfit parts ≡ None → FitImage parts
fit_image parts e =
    let a = none_of (nat_lt 256 (length parts) || nat_lt (2 ^ 21) (1 + taken parts)) TooMany _ e in
    let b = neither (nat_lt 256 (length parts)) (nat_lt (2 ^ 21) (1 + taken parts)) a in
    record { few = not_more 256 (length parts) b.0; size = not_more (2 ^ 21) (1 + taken parts) b.1 }

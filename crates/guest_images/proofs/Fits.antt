-- Pieces of which a disk can be made: each has sectors, and they are few.
use Rattle.std.proofs.Common.{◌≡◌, ◌<◌, ◌≤◌, ◌*◌, ◌^◌, ◌==◌, ℕ, List, [], ◌∷◌, length, map, Bool, true, false, ◌||◌, if◌then◌else◌, nat_lt, Option, Some, None, refl, arith}
use Rattle.std.specs.Prelude.{All}
use Rattle.std.specs.List.{AllByRecursion, list_any}
use Rattle.std.proofs.lemmas.List.Elements.{All-nil, All-cons}
use Rattle.guid_crc.specs.Guids.{Guid}
use Rattle.gpt.specs.Image.{taken, HasSectors}
use Rattle.guest_images.specs.declared.pieces.Piece.{Piece}
use Rattle.guest_images.specs.declared.status.UnfitKind.{UnfitKind}
use Rattle.guest_images.specs.Composing.{IsPiece, is_empty, is_uneven, unfit_kind, part_of, sectors_of}

abbrev pub IsFilled : Piece → Type 0
IsFilled p = 0 < p.size

pub record Fit (pieces : List Piece) : Type 0 where
  pub some : 1 ≤ length pieces
  pub few : length pieces ≤ 128
  pub filled : AllByRecursion IsFilled pieces

none_of : (b : Bool) (k : UnfitKind) (rest : Option UnfitKind) → (if b then Some k else rest) ≡ None → (b ≡ false) × (rest ≡ None)
none_of true k rest e = absurd cc
none_of false k rest e = (refl, e)

both_false : (a b : Bool) → (a || b) ≡ false → (a ≡ false) × (b ≡ false)
both_false true b e = absurd cc
both_false false b e = (refl, e)

some_bytes : (n : ℕ) → (n == 0) ≡ false → 0 < n
some_bytes n e = grind arith

not_more : (n : ℕ) → nat_lt 128 n ≡ false → n ≤ 128
not_more n e = grind arith

all_filled : (pieces : List Piece) → list_any is_empty pieces ≡ false → AllByRecursion IsFilled pieces
all_filled [] e = tt
all_filled (p ∷ pieces) e = let both = both_false (is_empty p) (list_any is_empty pieces) e in (some_bytes p.size both.0, all_filled pieces both.1)

pub fit_of : (pieces : List Piece) → unfit_kind pieces ≡ None → Fit pieces
fit_of pieces e =
    let a = none_of (list_any is_empty pieces) _ _ e in
    let b = none_of (list_any is_uneven pieces) _ _ a.1 in
    let c = none_of (nat_lt 128 (length pieces)) _ _ b.1 in
    let d = none_of (length pieces == 0) _ _ c.1 in
    record { some = some_bytes (length pieces) d.0; few = not_more (length pieces) c.0; filled = all_filled pieces a.0 }

pub sectors_low : (size : ℕ) → size ≤ 2 ^ 30 → sectors_of size ≤ 2 ^ 22
unfolding sectors_of
sectors_low size small = omega arith

pub sectors_some : (size : ℕ) → 0 < size → 1 ≤ sectors_of size
unfolding sectors_of
sectors_some size some = omega arith

pub have_sectors : (disk : Guid) (pieces : List Piece) → AllByRecursion IsFilled pieces → All HasSectors (map (part_of disk) pieces)
have_sectors disk [] h = All-nil HasSectors
have_sectors disk (p ∷ pieces) h = All-cons HasSectors (part_of disk p) (map (part_of disk) pieces) (sectors_some p.size h.0) (have_sectors disk pieces h.1)

pub taken_low : (disk : Guid) (pieces : List Piece) → AllByRecursion IsPiece pieces → taken (map (part_of disk) pieces) ≤ 2 ^ 22 * length pieces
unfolding taken
taken_low disk [] h = omega arith
taken_low disk (p ∷ pieces) h = let one = sectors_low p.size h.0.small in let more = taken_low disk pieces h.1 in omega (arith, one, more)

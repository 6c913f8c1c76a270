-- The description of a composite disk is one that a composite file can give.
use Rattle.std.proofs.Common.{◌≡◌, ◌<◌, ◌≤◌, ◌+◌, ◌-◌, ◌*◌, ◌^◌, ℕ, List, [], ◌∷◌, ◌++◌, length, length-append, map, true, ◌&&◌, nat_lt, Some, refl, sym, ap, subst, ◌∙◌, arith}
use Rattle.std.specs.Prelude.{codes, slice_index}
use Rattle.std.specs.List.{AllByRecursion, list_all}
use Rattle.std.specs.Str.{IsUtf8}
use Rattle.std.proofs.lemmas.Str.{is_utf8-from_IsUtf8, IsUtf8-append}
use Rattle.std.proofs.lemmas.List.{map-append}
use Rattle.std.proofs.Math.Seq.{get_or-append_seam}
use Rattle.guid_crc.specs.Guids.{Guid}
use Rattle.gpt.specs.Image.{taken, total}
use Rattle.composite_spec.specs.Said.{Placed, Composite, IsPath, IsComposite, Rise, offset_of}
use Rattle.text_lines.specs.Values.{is_folder_name, is_printed}
use Rattle.text_lines.proofs.Spelled.{both, folder_name_printed, utf8_printed}
use Rattle.guest_images.specs.declared.pieces.Piece.{Piece}
use Rattle.guest_images.specs.Composing.{IsPiece, composite_of, disk_of, end_component, head_name, tail_name, part_of, parts_of, placed_from, sectors_of}
use Rattle.guest_images.proofs.Fits.{Fit, IsFilled, sectors_some, taken_low}

-- ---- paths

under : (a b : ℕ) → nat_lt a b ≡ true → a < b
under a b e = grind arith

file_path : (file : List ℕ) → is_folder_name file ≡ true → IsPath file
file_path file e =
    let a = both (nat_lt 0 (length file) && nat_lt (length file) 256) (list_all is_printed file) e in
    let b = both (nat_lt 0 (length file)) (nat_lt (length file) 256) a.0 in
    record { some = under 0 (length file) b.0; few = under (length file) 256 b.1; text = is_utf8-from_IsUtf8 file (utf8_printed file (folder_name_printed file e)) }

end_path : (out ending : List ℕ) → length out ≤ 250 → length ending ≡ 5 → IsUtf8 out → IsUtf8 ending → IsPath (out ++ ending)
end_path out ending few five u v = record {
  some = omega (arith, length-append out ending);
  few = omega (arith, length-append out ending);
  text = is_utf8-from_IsUtf8 (out ++ ending) (IsUtf8-append out ending u v);
}

abbrev HasPath : Placed → Type 0
HasPath c = IsPath c.path

paths_then : (first : ℕ) (pieces : List Piece) (c : Placed) → AllByRecursion IsPiece pieces → HasPath c → AllByRecursion HasPath (placed_from first pieces ++ c ∷ [])
unfolding placed_from
paths_then first [] c each h = (h, tt)
paths_then first (p ∷ pieces) c each h = (file_path p.file each.0.file, paths_then (first + sectors_of p.size) pieces c each.1 h)

-- ---- offsets

rise_from : (disk : Guid) (first before : ℕ) (pieces : List Piece) (c : Placed) → before < 512 * first → AllByRecursion IsFilled pieces → c.offset ≡ 512 * (first + taken (map (part_of disk) pieces))
    → Rise (Some before) (map offset_of (placed_from first pieces ++ c ∷ []))
unfolding placed_from taken
rise_from disk first before [] c low h e = (omega arith, tt)
rise_from disk first before (p ∷ pieces) c low h e =
    let some = sectors_some p.size h.0 in
    (low, rise_from disk (first + sectors_of p.size) (512 * first) pieces c (omega (arith, some)) h.1 (omega (arith, e)))

placed_length : (first : ℕ) (pieces : List Piece) → length (placed_from first pieces) ≡ length pieces
unfolding placed_from
placed_length first [] = refl
placed_length first (p ∷ pieces) = let more = placed_length (first + sectors_of p.size) pieces in omega (arith, more)

last_is : (xs : List ℕ) (y : ℕ) → slice_index (xs ++ y ∷ []) (length (xs ++ y ∷ []) - 1) ≡ y
last_is xs y =
    let len : length (xs ++ y ∷ []) - 1 ≡ length xs = omega (arith, length-append xs (y ∷ [])) in
    rw len (get_or-append_seam xs y [] 0)

pub described : (out : List ℕ) (pieces : List Piece) → length out ≤ 250 → IsUtf8 out → AllByRecursion IsPiece pieces → Fit pieces → IsComposite (composite_of out pieces)
described out pieces few u each fit =
    let disk = disk_of out in
    let sum = taken (parts_of out pieces) in
    let low : sum ≤ 2 ^ 22 * length pieces = taken_low disk pieces each in
    let tail = end_component (tail_name out) (512 * (sum + 40)) in
    let body = placed_from 40 pieces in
    let len : length (body ++ tail ∷ []) ≡ length pieces + 1 = length-append body (tail ∷ []) ∙ ap (λ n. n + 1) (placed_length 40 pieces) in
    let offsets : map offset_of (body ++ tail ∷ []) ≡ map offset_of body ++ tail.offset ∷ [] = map-append offset_of body (tail ∷ []) in
    let front : List ℕ = 0 ∷ map offset_of body in
    let end : slice_index (front ++ tail.offset ∷ []) (length (front ++ tail.offset ∷ []) - 1) < 512 * (sum + 80) = rw (last_is front tail.offset) (omega arith) in
    record {
      paths = (
        end_path out (codes ".head") few refl u (utf8_printed (codes ".head") refl),
        paths_then 40 pieces tail each (end_path out (codes ".tail") few refl u (utf8_printed (codes ".tail") refl)),
      );
      rise = (refl, rise_from disk 40 0 pieces tail (omega arith) fit.filled (ap (λ n. 512 * n) (omega arith)));
      few = omega (arith, len, fit.few);
      length_is = record {
        some = omega arith;
        beyond = subst (λ (z : List ℕ). slice_index (0 ∷ z) (length (0 ∷ z) - 1) < 512 * (sum + 80)) (sym offsets) end;
        sectors = omega arith;
        bound = omega (arith, low, fit.few);
      };
    }

pub spec_same : (out head tail : List ℕ) (pieces : List Piece) (sectors : ℕ) (c : Composite)
    → c ≡ record { components = end_component head 0 ∷ (placed_from 40 pieces ++ end_component tail (512 * (sectors - 40)) ∷ []); length = 512 * sectors }
    → head ≡ head_name out → tail ≡ tail_name out → sectors ≡ total (parts_of out pieces) → c ≡ composite_of out pieces
spec_same out head tail pieces sectors c is h t s =
    let place : sectors - 40 ≡ taken (parts_of out pieces) + 40 = omega (arith, s) in
    rw (is, place, h, t, s) refl

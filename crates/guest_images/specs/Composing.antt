-- The composite disk of parts: its partition table, and its description.
use Rattle.std.specs.Prelude.{◌≡◌, ◌≤◌, ◌^◌, ℕ, ◌+◌, ◌-◌, ◌*◌, ◌%◌, List, [], ◌∷◌, ◌++◌, Bool, true, false, not, ◌&&◌, length, map, take, replicate, nat_lt, ◌==◌, Option, Some, None, if◌then◌else◌, codes}
use Rattle.std.specs.List.{flat_map, list_any}
use Rattle.sha1.specs.Sha1.{sha1}
use Rattle.uuid.specs.Parts.{with_version, with_variant}
use Rattle.uuid.specs.declared.Variant.TheVariants.{RFC4122}
use Rattle.uuid.specs.declared.Version.TheVariants.{Sha1}
use Rattle.sha_tree.specs.Tree.{div_up}
use Rattle.guid_crc.specs.Guids.{Guid}
use Rattle.gpt.specs.declared.image.Part.{Part}
use Rattle.gpt.specs.Grammar.{IsGpt}
use Rattle.gpt.specs.Image.{taken, total, head_bytes, tail_bytes, written}
use Rattle.composite_spec.specs.Said.{Placed, Composite}
use Rattle.composite_spec.specs.Spelling.{IsFile}
use Rattle.composite_spec.specs.Writing.{file_bytes}
use Rattle.text_lines.specs.Values.{is_folder_name}
use Rattle.guest_files.specs.Keeping.{Parcel}
use Rattle.guest_images.specs.declared.parts.PartLine.{PartLine}
use Rattle.guest_images.specs.declared.pieces.Piece.{Piece}
use Rattle.guest_images.specs.declared.status.UnfitKind.{UnfitKind}
use Rattle.guest_images.specs.declared.status.UnfitKind.TheVariants.{Empty, Uneven, TooMany, NoParts}

-- a line's part, of a file of so many bytes
abbrev pub piece_of : PartLine → ℕ → Piece
piece_of line size = record { name = line.name; write = line.write; file = line.file; size = size }

-- what a piece can be
pub record IsPiece (p : Piece) : Type 0 where
  pub short : length p.name ≤ 36
  pub file : is_folder_name p.file ≡ true
  pub small : p.size ≤ 2 ^ 30

-- ---- whether a disk can be made

abbrev pub is_empty : Piece → Bool
is_empty p = p.size == 0

-- a part that may be written is whole blocks
abbrev pub is_uneven : Piece → Bool
is_uneven p = p.write && not (p.size % 4096 == 0)

-- the first of these that is so
abbrev pub unfit_kind : List Piece → Option UnfitKind
unfit_kind pieces =
    if list_any is_empty pieces then Some Empty
    else if list_any is_uneven pieces then Some Uneven
    else if nat_lt 128 (length pieces) then Some TooMany
    else if length pieces == 0 then Some NoParts
    else None

-- ---- the partition table

-- the version 5 UUID of a name under a namespace (RFC 9562, section 5.5)
abbrev pub uuid_of : Guid → List ℕ → Guid
uuid_of space name = record { 0 = with_version (with_variant (take 16 (sha1 (space.0 ++ name))) RFC4122) Sha1 }

-- the disk's is that of its name under the nil UUID
abbrev pub disk_of : List ℕ → Guid
disk_of out = uuid_of (record { 0 = replicate 16 0 }) out

-- the units of a name of ASCII bytes (UTF-16, little-endian), in a field of 72 bytes
abbrev pub unit_of : ℕ → List ℕ
unit_of b = b ∷ 0 ∷ []

abbrev pub name_field : List ℕ → List ℕ
name_field name = flat_map unit_of name ++ replicate (72 - 2 * length name) 0

-- so many bytes in sectors of 512, a whole number of blocks of 8
unfoldable pub sectors_of : ℕ → ℕ
sectors_of size = 8 * div_up size 4096

abbrev pub part_of : Guid → Piece → Part
part_of disk p = record { name = name_field p.name; unique = uuid_of disk p.name; sectors = sectors_of p.size }

abbrev pub parts_of : List ℕ → List Piece → List Part
parts_of out pieces = map (part_of (disk_of out)) pieces

-- ---- the description

abbrev pub head_name : List ℕ → List ℕ
head_name out = out ++ codes ".head"

abbrev pub tail_name : List ℕ → List ℕ
tail_name out = out ++ codes ".tail"

-- the files one behind the other, from this sector on
unfoldable pub placed_from : ℕ → List Piece → List Placed
placed_from first [] = []
placed_from first (p ∷ pieces) = record { path = p.file; offset = 512 * first; write = p.write } ∷ placed_from (first + sectors_of p.size) pieces

abbrev pub end_component : List ℕ → ℕ → Placed
end_component path offset = record { path = path; offset = offset; write = false }

-- the head of the table, the files from sector 40 on, and the tail of the table in the last 40 sectors
abbrev pub composite_of : List ℕ → List Piece → Composite
composite_of out pieces = record {
  components = end_component (head_name out) 0 ∷ (placed_from 40 pieces ++ end_component (tail_name out) (512 * (taken (parts_of out pieces) + 40)) ∷ []);
  length = 512 * total (parts_of out pieces);
}

-- what is stored, in this order
abbrev pub parcels_of : List ℕ → List Piece → List Parcel
parcels_of out pieces =
    (out, file_bytes (composite_of out pieces))
    ∷ (head_name out, head_bytes (disk_of out) (parts_of out pieces))
    ∷ (tail_name out, tail_bytes (disk_of out) (parts_of out pieces))
    ∷ []

-- the description is in its grammar, and so is the table, with the parts' entries
abbrev pub IsDescribed : List ℕ → List Piece → Type 0
IsDescribed out pieces = IsFile (file_bytes (composite_of out pieces)) (composite_of out pieces)

abbrev pub HasTable : List ℕ → List Piece → Type 0
HasTable out pieces =
    IsGpt (head_bytes (disk_of out) (parts_of out pieces)) (tail_bytes (disk_of out) (parts_of out pieces)) (total (parts_of out pieces)) (written (disk_of out) (parts_of out pieces))

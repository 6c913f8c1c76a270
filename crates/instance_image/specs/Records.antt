-- The partitions of an instance image, version 1: each is a header of one sector and its reserved sectors, in which the payload of
-- a record stands. Sectors have 512 bytes, numbers are little-endian.
use Rattle.std.specs.Prelude.{◌≡◌, ℕ, ◌+◌, ◌-◌, ◌*◌, ◌/◌, ◌^◌, ◌≤◌, ◌⊎◌, min, List, [], ◌∷◌, ◌++◌, length, take, drop, replicate, Option, Some, None, Result, Ok, Err, Bool, ◌||◌, nat_lt, if◌then◌else◌}
use Rattle.std.specs.Int.{w32, w64, to_le_bytes, from_le_bytes}
use Rattle.std.specs.List.{AllByRecursion}
use Rattle.std.specs.Str.{bytes_eq}
use Rattle.instance_image.specs.declared.values.Part.{Part}
use Rattle.instance_image.specs.declared.faults.PutFault.{PutFault}
use Rattle.instance_image.specs.declared.faults.PutFault.TheVariants.{NoRecord, TooLarge}

abbrev pub zeros : ℕ → List ℕ
zeros n = replicate n 0

-- the n bytes at a place
abbrev pub part_at : ℕ → ℕ → List ℕ → List ℕ
part_at at n bytes = take n (drop at bytes)

-- a partition's header: its UUID in text order, the size of its payload, its reserved sectors, and zeros
unfoldable pub header_of : List ℕ → ℕ → ℕ → List ℕ
header_of uuid size reserved = uuid ++ (to_le_bytes w64 size ++ (to_le_bytes w32 reserved ++ zeros 484))

-- the header that bytes begin with
abbrev pub header_in : List ℕ → List ℕ
header_in bytes = take 512 bytes

-- what the bytes of a header say
abbrev pub uuid_in : List ℕ → List ℕ
uuid_in header = take 16 header

abbrev pub size_in : List ℕ → ℕ
size_in header = from_le_bytes w64 (part_at 16 8 header)

abbrev pub reserved_in : List ℕ → ℕ
reserved_in header = from_le_bytes w32 (part_at 24 4 header)

-- how many sectors so many bytes take
abbrev pub sectors_of : ℕ → ℕ
sectors_of n = (n + 511) / 512

-- What an image is to those who read and write its records: where it begins on which disk, its salt, and its partitions in order.
-- A partition's sector counts from the image's first.
pub record Kept : Type 0 where
  pub disk : ℕ
  pub first : ℕ
  pub salt : List ℕ
  pub parts : List Part

-- the first partition of a UUID
unfoldable pub find_part : List Part → List ℕ → Option Part
find_part [] uuid = None
find_part (p ∷ parts) uuid = if bytes_eq p.uuid.0 uuid then Some p else find_part parts uuid

abbrev pub size_of : Option Part → Option ℕ
size_of None = None
size_of (Some p) = Some p.size

-- the same partitions, with another payload size of the first one of a UUID
unfoldable pub keep_size : List Part → List ℕ → ℕ → List Part
keep_size [] uuid size = []
keep_size (p ∷ parts) uuid size = if bytes_eq p.uuid.0 uuid then record p { size = size } ∷ parts else p ∷ keep_size parts uuid size

-- the most bytes of text that a partition takes: nonce and tag of its sealed form take 28 of the reserved bytes
abbrev pub room_of : Part → ℕ
room_of p = min 65536 (512 * p.reserved - 28)

-- whether a text of so many bytes fits nowhere in the partition
abbrev pub is_large : ℕ → Part → Bool
is_large text p = nat_lt 65536 text || nat_lt (512 * p.reserved) (text + 28)

abbrev pub fitting : ℕ → Option Part → Result Part PutFault
fitting text None = Err NoRecord
fitting text (Some p) = if is_large text p then Err (TooLarge text (room_of p)) else Ok p

-- the partition into which a text of so many bytes fits, or why there is none
abbrev pub fits_in : List Part → List ℕ → ℕ → Result Part PutFault
fits_in parts uuid text = fitting text (find_part parts uuid)

-- whether there is one
abbrev pub fits : Result Part PutFault → Result (Unit {0}) PutFault
fits (Ok p) = Ok tt
fits (Err why) = Err why

-- A payload is none, or the sealed form of a text: from 28 bytes to 65,564, and no more than are reserved.
pub record IsPayloadSize (size reserved : ℕ) : Type 0 where
  pub least : 28 ≤ size
  pub most : size ≤ 65564
  pub room : size ≤ 512 * reserved

-- a partition of an image that begins at this sector lies behind the image's first sector and below sector 2 ^ 40
pub record IsPartAt (first : ℕ) (p : Part) : Type 0 where
  pub uuid_len : length p.uuid.0 ≡ 16
  pub behind : 1 ≤ p.sector
  pub end : first + (p.sector + (1 + p.reserved)) ≤ 2 ^ 40
  pub payload : (p.size ≡ 0) ⊎ IsPayloadSize p.size p.reserved

-- what holds of each partition
abbrev pub IsKept : Kept → Type 0
IsKept k = AllByRecursion (IsPartAt k.first) k.parts

-- partitions stand one behind another from a sector on
abbrev pub AreLaid : ℕ → List Part → Type 0
AreLaid at [] = Unit {0}
AreLaid at (p ∷ parts) = (p.sector ≡ at) × AreLaid (at + (1 + p.reserved)) parts

-- What holds of each image: its partitions stand so from its sector 1 on.
pub record IsLaid (k : Kept) : Type 0 where
  pub kept : IsKept k
  pub laid : AreLaid 1 k.parts

-- Fields of records, and pieces at their places.
use Rattle.std.specs.Prelude.{◌≡◌, ℕ, List, take, drop, length}
use Rattle.std.specs.Int.{w32, w64, from_le_bytes}
use Rattle.guid_crc.specs.Guids.{Guid, disk_form}

-- the n bytes at this place
abbrev pub part_at : ℕ → ℕ → List ℕ → List ℕ
part_at at n bytes = take n (drop at bytes)

abbrev pub u32_at : ℕ → List ℕ → ℕ
u32_at at bytes = from_le_bytes w32 (part_at at 4 bytes)

abbrev pub u64_at : ℕ → List ℕ → ℕ
u64_at at bytes = from_le_bytes w64 (part_at at 8 bytes)

abbrev pub guid_at : ℕ → List ℕ → Guid
guid_at at bytes = record { 0 = disk_form (part_at at 16 bytes) }

-- the piece stands at this place, and lies wholly in the bytes
abbrev pub StandsAt : ℕ → List ℕ → List ℕ → Type 0
StandsAt at piece bytes = part_at at (length piece) bytes ≡ piece

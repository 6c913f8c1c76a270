-- The header's bytes (UEFI 2.10, table 5.5).
use Rattle.std.specs.Prelude.{◌<◌, ◌^◌, ℕ, List, ◌++◌, take, drop, replicate, codes}
use Rattle.std.specs.Int.{w32, w64, to_le_bytes}
use Rattle.guid_crc.specs.Guids.{disk_form, IsGuid}
use Rattle.guid_crc.specs.Remainder.{crc32}
use Rattle.gpt.specs.declared.header.Header.{Header}
use Rattle.gpt.specs.Fields.{u32_at, u64_at, guid_at}

abbrev pub le32 : ℕ → List ℕ
le32 n = to_le_bytes w32 n

abbrev pub le64 : ℕ → List ℕ
le64 n = to_le_bytes w64 n

abbrev pub signature : List ℕ
signature = codes "EFI PART"

-- what a header can say
pub record IsHeader (h : Header) : Type 0 where
  pub revision : h.revision < 2 ^ 32
  pub size : h.size < 2 ^ 32
  pub crc : h.crc < 2 ^ 32
  pub reserved : h.reserved < 2 ^ 32
  pub own : h.own < 2 ^ 64
  pub other : h.other < 2 ^ 64
  pub first_usable : h.first_usable < 2 ^ 64
  pub last_usable : h.last_usable < 2 ^ 64
  pub disk : IsGuid h.disk
  pub array : h.array < 2 ^ 64
  pub count : h.count < 2 ^ 32
  pub entry_size : h.entry_size < 2 ^ 32
  pub array_crc : h.array_crc < 2 ^ 32

-- the fields, joined in order: 92 bytes
unfoldable pub header_text : Header → List ℕ
header_text h =
    signature ++ (le32 h.revision ++ (le32 h.size ++ (le32 h.crc ++ (le32 h.reserved
    ++ (le64 h.own ++ (le64 h.other ++ (le64 h.first_usable ++ (le64 h.last_usable
    ++ (disk_form h.disk.0 ++ (le64 h.array ++ (le32 h.count ++ (le32 h.entry_size ++ le32 h.array_crc))))))))))))

-- the CRC-32 of a header is that of its bytes with the CRC's field zero
abbrev pub header_crc : Header → ℕ
header_crc h = crc32 (header_text (record h { crc = 0 }))

-- ---- the reader's side

-- the fields of 92 bytes
unfoldable pub header_of : List ℕ → Header
header_of b = record {
  revision = u32_at 8 b;
  size = u32_at 12 b;
  crc = u32_at 16 b;
  reserved = u32_at 20 b;
  own = u64_at 24 b;
  other = u64_at 32 b;
  first_usable = u64_at 40 b;
  last_usable = u64_at 48 b;
  disk = guid_at 56 b;
  array = u64_at 72 b;
  count = u32_at 80 b;
  entry_size = u32_at 84 b;
  array_crc = u32_at 88 b;
}

-- the bytes with the CRC's field zero
abbrev pub blanked : List ℕ → List ℕ
blanked b = take 16 b ++ (replicate 4 0 ++ drop 20 b)

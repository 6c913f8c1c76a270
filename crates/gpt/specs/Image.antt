-- What is written: a disk of partitions one behind the other (UEFI 2.10, sections 5.2.3 and 5.3).
use Rattle.std.specs.Prelude.{◌≤◌, ℕ, ◌+◌, ◌-◌, min, List, [], ◌∷◌, ◌++◌, length, replicate}
use Rattle.guid_crc.specs.Guids.{Guid}
use Rattle.guid_crc.specs.Remainder.{crc32}
use Rattle.gpt.specs.declared.header.Header.{Header}
use Rattle.gpt.specs.declared.values.Entry.{Entry}
use Rattle.gpt.specs.declared.values.Table.{Table}
use Rattle.gpt.specs.declared.image.Part.{Part}
use Rattle.gpt.specs.Header.{le32, header_text, header_crc}
use Rattle.gpt.specs.Entries.{array_text}

unfoldable pub zeros : ℕ → List ℕ
zeros n = replicate n 0

-- the kind of a Linux file system, 0fc63daf-8483-4772-8e79-3d69d8477de4
abbrev pub linux : Guid
linux = record { 0 = 0x0f ∷ 0xc6 ∷ 0x3d ∷ 0xaf ∷ 0x84 ∷ 0x83 ∷ 0x47 ∷ 0x72 ∷ 0x8e ∷ 0x79 ∷ 0x3d ∷ 0x69 ∷ 0xd8 ∷ 0x47 ∷ 0x7d ∷ 0xe4 ∷ [] }

-- an entry that isn't used
abbrev pub unused : Entry
unused = record { kind = record { 0 = replicate 16 0 }; unique = record { 0 = replicate 16 0 }; first = 0; last = 0; attributes = 0; name = replicate 72 0 }

abbrev pub entry_for : ℕ → Part → Entry
entry_for first p = record { kind = linux; unique = p.unique; first = first; last = first + p.sectors - 1; attributes = 0; name = p.name }

-- the parts one behind the other, from this sector on
unfoldable pub placed : ℕ → List Part → List Entry
placed first [] = []
placed first (p ∷ parts) = entry_for first p ∷ placed (first + p.sectors) parts

-- how many sectors they take
unfoldable pub taken : List Part → ℕ
taken [] = 0
taken (p ∷ parts) = p.sectors + taken parts

-- all 128 entries
abbrev pub all_entries : List Part → List Entry
all_entries parts = placed 40 parts ++ replicate (128 - length parts) unused

-- the table that is written
abbrev pub written : Guid → List Part → Table
written disk parts = record { disk = disk; entries = all_entries parts }

-- 40 sectors before the parts, and 40 behind them
abbrev pub total : List Part → ℕ
total parts = taken parts + 80

-- a header with its CRC-32
abbrev pub sealed : Header → Header
sealed h = record h { crc = header_crc h }

-- a header, still without its CRC-32, in the sector `own`, of parts that take `sum` sectors, and whose array
-- begins in the sector `array`
abbrev pub plain_header : ℕ → ℕ → ℕ → Guid → ℕ → ℕ → Header
plain_header own other array disk sum array_crc = record {
  revision = 0x10000;
  size = 92;
  crc = 0;
  reserved = 0;
  own = own;
  other = other;
  first_usable = 40;
  last_usable = sum + 39;
  disk = disk;
  array = array;
  count = 128;
  entry_size = 128;
  array_crc = array_crc;
}

abbrev pub header_for : ℕ → ℕ → ℕ → Guid → List Part → Header
header_for own other array disk parts = sealed (plain_header own other array disk (taken parts) (crc32 (array_text (all_entries parts))))

abbrev pub primary_header : Guid → List Part → Header
primary_header disk parts = header_for 1 (taken parts + 79) 2 disk parts

abbrev pub alternate_header : Guid → List Part → Header
alternate_header disk parts = header_for (taken parts + 79) 1 (taken parts + 47) disk parts

-- the record of a protective MBR: not bootable, from the second sector of the first cylinder to the last,
-- of kind EE, from LBA 1, and so many sectors (UEFI 2.10, table 5.4)
abbrev pub mbr_record : ℕ → List ℕ
mbr_record others = (0 ∷ 0 ∷ 2 ∷ 0 ∷ 0xee ∷ 0xff ∷ 0xff ∷ 0xff ∷ []) ++ (le32 1 ++ le32 others)

-- a protective MBR with its signature (UEFI 2.10, table 5.3)
unfoldable pub mbr_with : ℕ → List ℕ
mbr_with others = zeros 446 ++ (mbr_record others ++ (zeros 48 ++ 0x55 ∷ 0xaa ∷ []))

-- that of a disk: all other sectors, or as many as 32 bits can say
abbrev pub mbr : ℕ → List ℕ
mbr sectors = mbr_with (min (sectors - 1) 0xFFFFFFFF)

-- a sector with a header
abbrev pub header_sector : Header → List ℕ
header_sector h = header_text h ++ zeros 420

-- 40 sectors: MBR, header, array, six of zeros
abbrev pub head_with : ℕ → Header → List ℕ → List ℕ
head_with sectors h array = mbr sectors ++ (header_sector h ++ (array ++ zeros 3072))

-- 40 sectors: seven of zeros, array, header
abbrev pub tail_with : Header → List ℕ → List ℕ
tail_with h array = zeros 3584 ++ (array ++ header_sector h)

-- the first 40 sectors
unfoldable pub head_bytes : Guid → List Part → List ℕ
head_bytes disk parts = head_with (total parts) (primary_header disk parts) (array_text (all_entries parts))

-- the last 40 sectors
unfoldable pub tail_bytes : Guid → List Part → List ℕ
tail_bytes disk parts = tail_with (alternate_header disk parts) (array_text (all_entries parts))

-- a part has a sector
abbrev pub HasSectors : Part → Type 0
HasSectors p = 1 ≤ p.sectors

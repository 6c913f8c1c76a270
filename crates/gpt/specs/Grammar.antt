-- The grammar: which bytes at the two ends of a disk are those of a table (UEFI 2.10, section 5.3).
-- Free are: a header's reserved field, its field of the other header's place, and all bytes of the 40
-- sectors but the header's 92 and the array's.
use Rattle.std.specs.Prelude.{◌≡◌, ◌≤◌, ◌<◌, ◌⊎◌, ℕ, ◌+◌, ◌-◌, ◌*◌, true, false, List, length}
use Rattle.std.specs.List.{AllByRecursion, AllPairs}
use Rattle.guid_crc.specs.Remainder.{crc32}
use Rattle.gpt.specs.declared.header.Header.{Header}
use Rattle.gpt.specs.declared.header.Side.{Side}
use Rattle.gpt.specs.declared.values.Entry.{Entry}
use Rattle.gpt.specs.declared.values.Table.{Table}
use Rattle.gpt.specs.Fields.{StandsAt}
use Rattle.gpt.specs.Header.{IsHeader, header_text, header_crc}
use Rattle.gpt.specs.Entries.{IsEntry, array_text, is_used, share}
use Rattle.gpt.specs.Rules.{primary, alternate}

-- the header tells its own sector, the array lies wholly in the sectors for it (four entries a sector),
-- and the usable sectors are sectors of the disk
pub record IsInPlace (s : Side) (h : Header) : Type 0 where
  pub own : h.own ≡ s.own
  pub low : s.low ≤ h.array
  pub high : 4 * h.array + h.count ≤ 4 * s.high
  pub usable : h.first_usable ≤ h.last_usable
  pub last : h.last_usable < s.sectors

-- a used entry lies in the usable sectors
pub record IsWithin (from to : ℕ) (e : Entry) : Type 0 where
  pub first : from ≤ e.first
  pub order : e.first ≤ e.last
  pub last : e.last ≤ to

abbrev pub UsedIsWithin : ℕ → ℕ → Entry → Type 0
UsedIsWithin from to e = is_used e ≡ true → IsWithin from to e

-- these sectors hold a copy of the table
pub record IsCopy (s : Side) (bytes : List ℕ) (t : Table) : Type 0 where
  pub header : Header
  pub fits : IsHeader header
  pub stands : StandsAt ((s.own - s.base) * 512) (header_text header) bytes
  pub revision : header.revision ≡ 0x10000
  pub size : header.size ≡ 92
  pub crc : header.crc ≡ header_crc header
  pub entry_size : header.entry_size ≡ 128
  pub some : 1 ≤ header.count
  pub few : header.count ≤ 128
  pub place : IsInPlace s header
  pub disk : header.disk ≡ t.disk
  pub count : header.count ≡ length t.entries
  pub entries : AllByRecursion IsEntry t.entries
  pub array : StandsAt ((header.array - s.base) * 512) (array_text t.entries) bytes
  pub array_crc : header.array_crc ≡ crc32 (array_text t.entries)
  pub within : AllByRecursion (UsedIsWithin header.first_usable header.last_usable) t.entries
  pub apart : AllPairs (λ a b. share a b ≡ false) t.entries

-- the first 40 and the last 40 sectors of a disk are those of the table: its primary is a copy of it;
-- or the primary is a copy of no table, and the alternate is one of this
pub record IsGpt (head tail : List ℕ) (sectors : ℕ) (t : Table) : Type 0 where
  pub least : 80 ≤ sectors
  pub most : sectors ≤ 1099511627776
  pub copy : IsCopy (primary sectors) head t ⊎ (((u : Table) → IsCopy (primary sectors) head u → ⊥) × IsCopy (alternate sectors) tail t)

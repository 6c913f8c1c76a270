-- The rules of a copy, in their order, and the first that is broken.
use Rattle.std.specs.Prelude.{◌≤◌, ℕ, ◌+◌, ◌-◌, ◌*◌, Bool, false, not, ◌&&◌, List, [], take, Option, Some, None, Result, Ok, Err, ◌==◌, nat_lt, if◌then◌else◌}
use Rattle.std.specs.Str.{bytes_eq}
use Rattle.guid_crc.specs.Remainder.{crc32}
use Rattle.gpt.specs.declared.faults.GptFault.{GptFault}
use Rattle.gpt.specs.declared.faults.GptFault.TheVariants.{Size, Signature, Revision, HeaderSize, HeaderCrc, EntrySize, EntryCount, Place, ArrayCrc, Range, Overlap}
use Rattle.gpt.specs.declared.header.Header.{Header}
use Rattle.gpt.specs.declared.header.Side.{Side}
use Rattle.gpt.specs.declared.values.Entry.{Entry}
use Rattle.gpt.specs.declared.values.Table.{Table}
use Rattle.gpt.specs.Fields.{part_at}
use Rattle.gpt.specs.Header.{header_of, blanked, signature}
use Rattle.gpt.specs.Entries.{entries_of, first_outside, first_overlap}

-- the primary is read from the first 40 sectors, the alternate from the last 40
abbrev pub primary : ℕ → Side
primary sectors = record { base = 0; own = 1; low = 2; high = 40; sectors = sectors }

abbrev pub alternate : ℕ → Side
alternate sectors = record { base = sectors - 40; own = sectors - 1; low = sectors - 40; high = sectors - 1; sectors = sectors }

abbrev pub must : Bool → GptFault → Option GptFault
must holds fault = if holds then None else Some fault

infixr 10 ◌then◌
abbrev pub ◌then◌ : Option GptFault → Option GptFault → Option GptFault
(Some fault) then later = Some fault
None then later = later

abbrev pub is_in_place : Side → Header → Bool
is_in_place s h =
    if not (h.own == s.own) then false
    else if nat_lt h.array s.low then false
    else if nat_lt s.high h.array then false
    else if nat_lt (4 * s.high) (4 * h.array + h.count) then false
    else not (nat_lt h.last_usable h.first_usable) && nat_lt h.last_usable s.sectors

unfoldable pub header_fault : Side → List ℕ → Option GptFault
header_fault s b =
    must (bytes_eq (take 8 b) signature) Signature
    then must ((header_of b).revision == 0x10000) (Revision (header_of b).revision)
    then must ((header_of b).size == 92) (HeaderSize (header_of b).size)
    then must ((header_of b).crc == crc32 (blanked b)) (HeaderCrc (header_of b).crc (crc32 (blanked b)))
    then must ((header_of b).entry_size == 128) (EntrySize (header_of b).entry_size)
    then must (nat_lt 0 (header_of b).count && nat_lt (header_of b).count 129) (EntryCount (header_of b).count)
    then must (is_in_place s (header_of b)) Place

abbrev pub outside_fault : Option ℕ → Option GptFault
outside_fault None = None
outside_fault (Some entry) = Some (Range entry)

abbrev pub overlap_fault : Option (ℕ × ℕ) → Option GptFault
overlap_fault None = None
overlap_fault (Some p) = Some (Overlap p.0 p.1)

unfoldable pub entries_fault : Header → List Entry → Option GptFault
entries_fault h entries = outside_fault (first_outside h.first_usable h.last_usable 0 entries) then overlap_fault (first_overlap [] entries)

unfoldable pub array_fault : Header → List ℕ → Option GptFault
array_fault h a = must (h.array_crc == crc32 a) (ArrayCrc h.array_crc (crc32 a)) then entries_fault h (entries_of h.count a)

-- where the header stands, and the bytes of its array
abbrev pub header_bytes : Side → List ℕ → List ℕ
header_bytes s b = part_at ((s.own - s.base) * 512) 92 b

abbrev pub array_bytes : Side → Header → List ℕ → List ℕ
array_bytes s h b = part_at ((h.array - s.base) * 512) (128 * h.count) b

abbrev pub answer : Option GptFault → Table → Result Table GptFault
answer None t = Ok t
answer (Some fault) t = Err fault

abbrev pub table_of : Header → List ℕ → Table
table_of h a = record { disk = h.disk; entries = entries_of h.count a }

-- one copy, by the rules of its header and then of its array
abbrev pub copy_with : Side → Header → List ℕ → Result Table GptFault
copy_with s h b = answer (header_fault s (header_bytes s b) then array_fault h (array_bytes s h b)) (table_of h (array_bytes s h b))

unfoldable pub copy_of : Side → List ℕ → Result Table GptFault
copy_of s b = copy_with s (header_of (header_bytes s b)) b

-- the first copy that keeps the rules, or what the first one breaks
abbrev pub first_good : Result Table GptFault → Result Table GptFault → Result Table GptFault
first_good (Ok t) other = Ok t
first_good (Err fault) (Ok t) = Ok t
first_good (Err fault) (Err later) = Err fault

-- at least 80 sectors, and at most 2^40
abbrev pub is_sized : ℕ → Bool
is_sized sectors = not (nat_lt sectors 80) && not (nat_lt 1099511627776 sectors)

-- the table of a disk of this many sectors, of which these are the first 40 and the last 40
unfoldable pub gpt_of : List ℕ → List ℕ → ℕ → Result Table GptFault
gpt_of head tail sectors =
    if is_sized sectors then first_good (copy_of (primary sectors) head) (copy_of (alternate sectors) tail) else Err (Size sectors)

-- what the code knows of a side: all that is read lies in its 40 sectors
pub record IsSide (s : Side) : Type 0 where
  pub above : s.base ≤ s.own
  pub own : s.own ≤ s.base + 39
  pub low : s.base ≤ s.low
  pub high : s.high ≤ s.base + 40
  pub few : s.high ≤ 1099511627776

-- Entries of the array (UEFI 2.10, table 5.6), and the rules that they must keep.
use Rattle.std.specs.Prelude.{◌≡◌, ◌<◌, ◌^◌, ℕ, zero, suc, ◌+◌, Bool, false, not, ◌&&◌, ◌||◌, List, [], ◌∷◌, ◌++◌, take, drop, length, replicate, All, Option, Some, None, nat_lt, if◌then◌else◌}
use Rattle.std.specs.List.{flat_map}
use Rattle.std.specs.Str.{bytes_eq}
use Rattle.guid_crc.specs.Guids.{disk_form, IsGuid}
use Rattle.gpt.specs.declared.values.Entry.{Entry}
use Rattle.gpt.specs.Fields.{part_at, u64_at, guid_at}
use Rattle.gpt.specs.Header.{le64}

-- what an entry can say
pub record IsEntry (e : Entry) : Type 0 where
  pub kind : IsGuid e.kind
  pub unique : IsGuid e.unique
  pub first : e.first < 2 ^ 64
  pub last : e.last < 2 ^ 64
  pub attributes : e.attributes < 2 ^ 64
  pub name : length e.name ≡ 72
  pub bytes : All (λ b. b < 256) e.name

-- the fields, joined in order: 128 bytes
unfoldable pub entry_text : Entry → List ℕ
entry_text e =
    disk_form e.kind.0 ++ (disk_form e.unique.0 ++ (le64 e.first ++ (le64 e.last ++ (le64 e.attributes ++ e.name))))

-- the array: its entries, joined in order
abbrev pub array_text : List Entry → List ℕ
array_text entries = flat_map entry_text entries

-- the kind of an entry that isn't used is zero
abbrev pub is_used : Entry → Bool
is_used e = not (bytes_eq e.kind.0 (replicate 16 0))

-- a used entry that doesn't lie within these sectors
abbrev pub is_outside : ℕ → ℕ → Entry → Bool
is_outside low high e = if is_used e then nat_lt e.first low || nat_lt e.last e.first || nat_lt high e.last else false

-- used entries that have a sector in common
abbrev pub share : Entry → Entry → Bool
share a b = if is_used a && is_used b then not (nat_lt b.last a.first) && not (nat_lt a.last b.first) else false

-- ---- the reader's side

-- the entry of 128 bytes
unfoldable pub entry_of : List ℕ → Entry
entry_of b = record {
  kind = guid_at 0 b;
  unique = guid_at 16 b;
  first = u64_at 32 b;
  last = u64_at 40 b;
  attributes = u64_at 48 b;
  name = part_at 56 72 b;
}

-- the entries of an array
unfoldable pub entries_of : ℕ → List ℕ → List Entry
entries_of zero b = []
entries_of (suc n) b = entry_of (take 128 b) ∷ entries_of n (drop 128 b)

-- the first entry outside, the first of the list numbered at
unfoldable pub first_outside : ℕ → ℕ → ℕ → List Entry → Option ℕ
first_outside low high at [] = None
first_outside low high at (e ∷ es) = if is_outside low high e then Some at else first_outside low high (at + 1) es

-- the first that shares a sector with e
unfoldable pub first_sharing : ℕ → Entry → List Entry → Option ℕ
first_sharing at e [] = None
first_sharing at e (x ∷ xs) = if share x e then Some at else first_sharing (at + 1) e xs

-- the two numbers, where there is the lower one; else what comes later
abbrev pub pair_or : Option ℕ → ℕ → Option (ℕ × ℕ) → Option (ℕ × ℕ)
pair_or None b later = later
pair_or (Some a) b later = Some (a, b)

-- the first entry that shares a sector with one before it, and the first of those
unfoldable pub first_overlap : List Entry → List Entry → Option (ℕ × ℕ)
first_overlap before [] = None
first_overlap before (e ∷ es) = pair_or (first_sharing 0 e before) (length before) (first_overlap (before ++ e ∷ []) es)

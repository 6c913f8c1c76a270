-- What a file in memory is: its bytes as pages, its tree pages; and the names of a directory.
use Rattle.std.specs.Prelude.{◌≡◌, ◌+◌, ◌-◌, ◌*◌, ◌/◌, ◌%◌, ◌≤◌, nat_le, nat_lt, length, cond, ◌||◌, Bool, ℕ, nat_eq, if◌then◌else◌, List, [], map, replicate, slice_index, take, drop, unwrap_or, IsSome, Option, Some, None}
use Rattle.std.specs.declared.cmp.Ordering.{Ordering}
use Rattle.std.specs.Ordering.{nat_cmp, ordering_then}
use Rattle.std.specs.BTreeMap.{is_at}
use Rattle.std.specs.Map.{lookup}
use Rattle.std.specs.List.{list_any, range_with_len}
use Rattle.std.specs.Cmp.Lexicographic.{pointwise}
use Rattle.host_traits.specs.Held.{File}
use Rattle.sha_tree.specs.Tree.{place}

-- the entries of a map with keys that are numbers
abbrev pub Entries : Type 0 → Type 0
Entries A = List (ℕ × A)

abbrev pub at : {A : Type 0} → Entries A → ℕ → Option A
at entries k = lookup (is_at (nat_cmp k)) entries

-- new has a at k, and else what old has
abbrev pub Puts : {A : Type 0} → Entries A → Entries A → ℕ → A → Type 0
Puts old new k a = (q : ℕ) → at new q ≡ cond (is_at (nat_cmp k) q) (Some a) (at old q)

-- ---- the bytes of a file, kept as pages of 4096 bytes by their numbers

-- the byte at a place: where there is no page, 0
unfoldable pub byte_in : Entries (List ℕ) → ℕ → ℕ
byte_in pages place = slice_index (unwrap_or (at pages (place / 4096)) []) (place % 4096)

-- so many bytes from a place on
abbrev pub bytes_in : Entries (List ℕ) → ℕ → ℕ → List ℕ
bytes_in pages place count = map (byte_in pages) (range_with_len place count)

-- the bytes from a place on put over those that f gives
abbrev pub byte_over : ℕ → List ℕ → (ℕ → ℕ) → ℕ → ℕ
byte_over at bytes f place = if nat_lt place at || nat_le (at + length bytes) place then f place else slice_index bytes (place - at)

-- the bytes up to a size
unfoldable pub sparse_bytes : ℕ → Entries (List ℕ) → List ℕ
sparse_bytes size pages = bytes_in pages 0 size

-- some page has this number or a larger one
pub record Reaches (pages : Entries (List ℕ)) (limit : ℕ) : Type 0 where
  pub number : ℕ
  pub there : IsSome (at pages number)
  pub from : limit ≤ number

-- past the size each byte is 0
abbrev pub IsCutAt : ℕ → Entries (List ℕ) → Type 0
IsCutAt size pages = (place : ℕ) → size ≤ place → byte_in pages place ≡ 0

-- ---- tree pages, by level and index

abbrev pub Pages : Type 0
Pages = List ((ℕ × ℕ) × List ℕ)

-- by level, and then by index
abbrev pub place_cmp : ℕ × ℕ → ℕ × ℕ → Ordering
place_cmp a b = ordering_then (nat_cmp a.0 b.0) (nat_cmp a.1 b.1)

abbrev pub or_zeros : Option (List ℕ) → List ℕ
or_zeros None = replicate 4096 0
or_zeros (Some page) = page

abbrev pub page_in : Pages → ℕ → ℕ → List ℕ
page_in pages level i = or_zeros (lookup (is_at (place_cmp (level, i))) pages)

-- the page of a level and index in a stored tree over so many blocks
abbrev pub stored_page : ℕ → List ℕ → ℕ → ℕ → List ℕ
stored_page count stored level i = take 4096 (drop (4096 * place count level i) stored)

-- a file: its bytes, its descriptor, and the tree pages that it has
pub record FileData : Type 0 where
  pub bytes : List ℕ
  pub descriptor : List ℕ
  pub pages : Pages

abbrev pub blank_file : FileData
blank_file = record { bytes = []; descriptor = []; pages = [] }

abbrev pub file_of : FileData → File
file_of f = record { bytes = f.bytes; descriptor = f.descriptor; tree = page_in f.pages }

-- ---- directories

abbrev pub NameList : Type 0
NameList = List (List ℕ)

abbrev pub has_name : NameList → List ℕ → Bool
has_name names name = list_any (pointwise nat_eq name) names

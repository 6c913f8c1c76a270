-- The hash tree of a list of bytes, as fs-verity defines it. Each page is a function of the whole
-- list: there are no paths, places or buffers here.
use Rattle.std.specs.Prelude.{◌≤◌, ◌<◌, ◌≡◌, ℕ, zero, suc, ◌+◌, ◌-◌, ◌*◌, ◌/◌, ◌%◌, ◌<◌, List, [], ◌∷◌, ◌++◌, length, take, drop, replicate, map, sum_by, slice_index_or, min, nat_le, if◌then◌else◌}
use Rattle.std.specs.List.{range_with_len, flat_map}
use Rattle.sha2.specs.Sha256.{sha256}
use Rattle.mg_base.specs.declared.values.Digest.{Digest}

-- bytes padded with zeros to a page
abbrev pub padded : List ℕ → List ℕ
padded bytes = bytes ++ replicate (4096 - length bytes) 0

-- n divided by d, rounded up
abbrev pub div_up : ℕ → ℕ → ℕ
div_up n d = (n + (d - 1)) / d

-- the number of blocks of so many bytes
abbrev pub block_count : ℕ → ℕ
block_count size = div_up size 4096

-- block i of the bytes
unfoldable pub block : List ℕ → ℕ → List ℕ
block bytes i = padded (take 4096 (drop (4096 * i) bytes))

abbrev pub blocks : List ℕ → List (List ℕ)
blocks bytes = map (block bytes) (range_with_len 0 (block_count (length bytes)))

-- the salt padded with zeros to a whole number of hash blocks
unfoldable pub padded_salt : List ℕ → List ℕ
padded_salt salt = salt ++ replicate ((64 - length salt % 64) % 64) 0

-- what is hashed for a page: the padded salt, and the page
abbrev pub hash_input : List ℕ → List ℕ → List ℕ
hash_input salt page = padded_salt salt ++ page

-- the hash of a page
unfoldable pub page_hash : List ℕ → List ℕ → List ℕ
page_hash salt page = sha256 (hash_input salt page)

-- the number of pages of a level, over so many blocks
unfoldable pub pages_at : ℕ → ℕ → ℕ
pages_at count zero = count
pages_at count (suc level) = div_up (pages_at count level) 128

-- how many of the levels, at most `more` of them, hold more than one page
unfoldable pub levels_above : ℕ → ℕ → ℕ
levels_above zero count = 0
levels_above (suc more) count = if nat_le count 1 then 0 else suc (levels_above more (div_up count 128))

-- the first level with at most one page, for up to 128 ^ 10 blocks
unfoldable pub top : ℕ → ℕ
top count = levels_above 10 count

-- the number of pages above the blocks
unfoldable pub tree_pages : ℕ → ℕ
tree_pages count = sum_by (pages_at count) (range_with_len 1 (top count))

-- the pages of the level below that page i of a level stands over
unfoldable pub children : ℕ → ℕ → List ℕ
children below i = range_with_len (128 * i) (min 128 (below - 128 * i))

-- page i of a level
unfoldable pub page : List ℕ → List ℕ → ℕ → ℕ → List ℕ
page bytes salt zero i = block bytes i
page bytes salt (suc level) i =
    padded (flat_map (λ j. page_hash salt (page bytes salt level j))
    (children (pages_at (block_count (length bytes)) level) i))

-- the digest that stands for the bytes
unfoldable pub root : List ℕ → List ℕ → List ℕ
root [] salt = replicate 32 0
root (b ∷ bs) salt =
    page_hash salt (page (b ∷ bs) salt (top (block_count (length (b ∷ bs)))) 0)

-- the bytes in a slot of a page of digests
abbrev pub slot : List ℕ → ℕ → List ℕ
slot page k = take 32 (drop (32 * k) page)

-- the place of a page above the blocks in the stored tree: the levels above it come first
unfoldable pub place : ℕ → ℕ → ℕ → ℕ
place count level i = sum_by (pages_at count) (range_with_len (level + 1) (top count - level)) + i

-- the page of a level that stands over block i
unfoldable pub ancestor : ℕ → ℕ → ℕ
ancestor i zero = i
ancestor i (suc level) = ancestor i level / 128

-- the digests are those of the blocks
pub record AreLeaves (bytes salt : List ℕ) (leaves : List Digest) : Type 0 where
  pub count : length leaves ≡ block_count (length bytes)
  pub each : (i : ℕ) (d : Digest) → i < length leaves → (slice_index_or leaves i d).0 ≡ page_hash salt (block bytes i)

-- the pages of a level, in order
unfoldable pub level_bytes : List ℕ → List ℕ → ℕ → List ℕ
level_bytes bytes salt level =
    flat_map (page bytes salt level) (range_with_len 0 (pages_at (block_count (length bytes)) level))

-- the pages of these levels, the highest first, down to level 1
unfoldable pub levels_down : List ℕ → List ℕ → ℕ → List ℕ
levels_down bytes salt zero = []
levels_down bytes salt (suc level) = level_bytes bytes salt (suc level) ++ levels_down bytes salt level

-- the stored tree
unfoldable pub stored_tree : List ℕ → List ℕ → List ℕ
stored_tree bytes salt = levels_down bytes salt (top (block_count (length bytes)))

-- each page above the blocks stands at its place
abbrev pub IsStored : List ℕ → List ℕ → List ℕ → Type 0
IsStored stored bytes salt =
    (level i : ℕ) → 0 < level → level ≤ top (block_count (length bytes)) → i < pages_at (block_count (length bytes)) level →
    take 4096 (drop (4096 * place (block_count (length bytes)) level i) stored) ≡ page bytes salt level i

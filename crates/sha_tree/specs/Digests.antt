-- The hash tree over a list of block digests: the blocks make the tree through their digests alone.
-- In a page the digests of the pages below stand in slots of 32 bytes, and zeros in the slots that
-- are left of 128.
use Rattle.std.specs.Prelude.{ℕ, zero, suc, ◌-◌, ◌*◌, List, [], ◌++◌, length, replicate, slice_index_or}
use Rattle.std.specs.List.{flat_map}
use Rattle.mg_base.specs.declared.values.Digest.{Digest}
use Rattle.sha_tree.specs.Tree.{page_hash, pages_at, top, children}

abbrev pub no_digest : Digest
no_digest = record { 0 = replicate 32 0 }

-- the digest of block i
abbrev pub leaf : List Digest → ℕ → List ℕ
leaf digests i = (slice_index_or digests i no_digest).0

-- the digests of some pages, and zeros in the other slots
abbrev pub slots_of : (ℕ → List ℕ) → List ℕ → List ℕ
slots_of digest pages = flat_map digest pages ++ replicate (32 * (128 - length pages)) 0

-- the digest of page i of a level, under a salt, where f gives the digests of the n blocks
unfoldable pub digest_at : List ℕ → (ℕ → List ℕ) → ℕ → ℕ → ℕ → List ℕ
digest_at salt f n zero i = f i
digest_at salt f n (suc level) i =
    page_hash salt (slots_of (digest_at salt f n level) (children (pages_at n level) i))

-- page i of a level above the blocks
unfoldable pub tree_page : List ℕ → (ℕ → List ℕ) → ℕ → ℕ → ℕ → List ℕ
tree_page salt f n zero i = []
tree_page salt f n (suc level) i =
    slots_of (digest_at salt f n level) (children (pages_at n level) i)

-- the digest that stands for the n blocks
unfoldable pub tree_root : List ℕ → (ℕ → List ℕ) → ℕ → List ℕ
tree_root salt f zero = replicate 32 0
tree_root salt f (suc n) = digest_at salt f (suc n) (top (suc n)) 0

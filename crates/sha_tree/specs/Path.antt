-- What pieces of 4096 bytes tie to the root of a tree, whoever said them.
use Rattle.std.specs.Prelude.{Bool, IsTrue, ◌≡◌, ℕ, zero, suc, ◌+◌, ◌/◌, ◌%◌, ◌<◌, ◌≤◌, List, length}
use Rattle.sha2.specs.Sha256.{sha256}
use Rattle.sha_tree.specs.declared.measure.Measure.{Measure}
use Rattle.sha_tree.specs.Tree.{block, block_count, hash_input, page, page_hash, pages_at, slot, top}
use Rattle.sha_tree.specs.Measured.{HasTree}

-- so many levels below the top, the pieces tie this digest to page i: at the top it is the root, and
-- below it stands in its slot of a piece whose own hash is tied to the page above
abbrev pub IsTied : (List ℕ → Type 0) → Measure → ℕ → ℕ → List ℕ → Type 0
IsTied Piece m zero i digest = (i ≡ 0) × (digest ≡ m.root.0)
IsTied Piece m (suc depth) i digest =
    (p : List ℕ) × Piece p × IsTied Piece m depth (i / 128) (page_hash m.salt p) × (digest ≡ slot p (i % 128))

-- the pieces tie this digest to page i of the level of a tree of this measure
pub record IsDerived (Piece : List ℕ → Type 0) (m : Measure) (level i : ℕ) (digest : List ℕ) : Type 0 where
  pub depth : ℕ
  pub level_is : level + depth ≡ top m.blocks
  pub index : i < pages_at m.blocks level
  pub tied : IsTied Piece m depth i digest

-- an input that is hashed for the tree of a content: a page of it, under the salt
pub record IsInput (content salt x : List ℕ) : Type 0 where
  pub level : ℕ
  pub i : ℕ
  pub level_in : level ≤ top (block_count (length content))
  pub index : i < pages_at (block_count (length content)) level
  pub is : x ≡ hash_input salt (page content salt level i)

-- no two different ones of these share a digest
abbrev pub NoClash : (List ℕ → Type 0) → Type 0
NoClash Hashed = (x y : List ℕ) → Hashed x → Hashed y → sha256 x ≡ sha256 y → x ≡ y

-- each digest that the pieces tie to a place is that of the content's page there, and each piece with
-- such a digest is that page, or at level 0 that block
pub record AreOf (Piece : List ℕ → Type 0) (m : Measure) (content : List ℕ) : Type 0 where
  pub digests : (level i : ℕ) (digest : List ℕ) → IsDerived Piece m level i digest → digest ≡ page_hash m.salt (page content m.salt level i)
  pub pages : (level i : ℕ) (p : List ℕ) → Piece p → IsDerived Piece m level i (page_hash m.salt p) → p ≡ page content m.salt level i
  pub blocks : (i : ℕ) (p : List ℕ) → Piece p → IsDerived Piece m 0 i (page_hash m.salt p) → p ≡ block content i

-- Where no two different inputs share a digest, what pieces tie to the root of a content's tree is the content's.
-- A test says which byte lists are pieces, and one says which are hashed: the salted pieces, and what is hashed for the content.
abbrev pub PathsAreSound : Type 0
PathsAreSound = (piece hashed : List ℕ → Bool) (m : Measure) (content : List ℕ) → HasTree m content → 0 < m.blocks →
    NoClash (λ x. IsTrue (hashed x)) →
    ((p : List ℕ) → IsTrue (piece p) → IsTrue (hashed (hash_input m.salt p))) →
    ((x : List ℕ) → IsInput content m.salt x → IsTrue (hashed x)) →
    AreOf (λ p. IsTrue (piece p)) m content

-- The pieces of what was heard.
use Rattle.std.specs.Prelude.{◌≡◌, ◌⊎◌, ℕ, ◌+◌, ◌≤◌, List, length, take, drop}
use Rattle.host_traits.specs.declared.calls.Call.{Call}
use Rattle.host_traits.specs.declared.calls.Call.TheVariants.{BlockRead, FileRead, TreeRead}
use Rattle.host_traits.specs.declared.calls.Said.{Said}
use Rattle.host_traits.specs.declared.calls.Said.TheVariants.{Bytes}
use Rattle.host_traits.specs.Told.{Exchanges}
use Rattle.host_traits.specs.Did.{IsIn}
use Rattle.sha_tree.specs.Tree.{padded, hash_input}
use Rattle.sha_tree.specs.Path.{IsInput}

-- a piece of one answer: of a file or a tree page its bytes, padded with zeros to a page; of a disk each
-- run of 4096 bytes
abbrev pub IsPieceOf : Call → Said → List ℕ → Type 0
IsPieceOf (FileRead file at want) (Bytes bytes) p = p ≡ padded bytes
IsPieceOf (TreeRead file level index) (Bytes bytes) p = p ≡ padded bytes
IsPieceOf (BlockRead disk sector count) (Bytes bytes) p = (at : ℕ) × (at + 4096 ≤ length bytes) × (p ≡ take 4096 (drop at bytes))
IsPieceOf call said p = ⊥

-- a piece of what was heard
pub record IsPiece (heard : Exchanges) (p : List ℕ) : Type 0 where
  pub call : Call
  pub said : Said
  pub was_heard : IsIn call said heard
  pub piece : IsPieceOf call said p

-- a piece that was heard, with the padded salt before it
pub record IsSeen (heard : Exchanges) (salt x : List ℕ) : Type 0 where
  pub p : List ℕ
  pub piece : IsPiece heard p
  pub is : x ≡ hash_input salt p

-- what is hashed where a content's pages are read: what was heard, and the content's own pages
abbrev pub IsHashed : Exchanges → List ℕ → List ℕ → List ℕ → Type 0
IsHashed heard content salt x = IsSeen heard salt x ⊎ IsInput content salt x

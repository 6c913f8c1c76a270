-- A file that is read chunk by chunk, and the tree of it.
use Rattle.std.specs.Prelude.{◌≡◌, ◌^◌, ◌⊎◌, ℕ, List, [], length, take, drop, Option, Some, None}
use Rattle.sha_tree.specs.Fed.{Fed, IsFed}
use Rattle.sha_tree.specs.Tree.{root, stored_tree}
use Rattle.sha_tree.specs.declared.finish.Tree.{Tree}
use Rattle.host_traits.specs.Folders.{Files}
use Rattle.guest_images.specs.Measuring.{HasInput}

-- these are the file's bytes from a place on, cut behind 2 ^ 20, where the folder tells its files
abbrev pub IsChunk : Option Files → List ℕ → ℕ → List ℕ → Type 0
IsChunk None name at chunk = Unit {0}
IsChunk (Some files) name at chunk = (content : List ℕ) × (files name ≡ Some content) × (chunk ≡ take (2 ^ 20) (drop at content))

-- none were read yet, or these are the file's first bytes
abbrev pub Begins : Option Files → List ℕ → List ℕ → Type 0
Begins None name bytes = Unit {0}
Begins (Some files) name bytes =
    (bytes ≡ []) ⊎ ((content : List ℕ) × (files name ≡ Some content) × (bytes ≡ take (length bytes) content))

-- a builder was fed the first bytes of a file, so many
pub record IsFedTo (files : Option Files) (name : List ℕ) (at : ℕ) (builder : Fed) : Type 0 where
  pub bytes : List ℕ
  pub fed : IsFed builder bytes
  pub count : length bytes ≡ at
  pub front : Begins files name bytes

-- a builder was fed a file
pub record IsFedFile (files : Option Files) (name : List ℕ) (builder : Fed) : Type 0 where
  pub content : List ℕ
  pub input : HasInput files name content
  pub fed : IsFed builder content

-- the tree of a content under a salt
pub record IsTree (content salt : List ℕ) (tree : Tree) : Type 0 where
  pub size : tree.size ≡ length content
  pub root : tree.root.0 ≡ root content salt
  pub stored : tree.stored.items ≡ stored_tree content salt

-- the tree of a file under a salt
pub record IsTreeOf (files : Option Files) (name salt : List ℕ) (made : Tree) : Type 0 where
  pub content : List ℕ
  pub input : HasInput files name content
  pub tree : IsTree content salt made

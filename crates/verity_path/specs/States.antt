-- What contracts see of anchors and proved pages.
use Rattle.std.specs.Prelude.{◌≡◌, ℕ, List}
use Rattle.sha_tree.specs.Tree.{page_hash}

-- the digest that the page at a place must have, under a salt
pub record Place : Type 0 where
  pub salt : List ℕ
  pub level : ℕ
  pub index : ℕ
  pub digest : List ℕ

-- a page, and the anchor that it meets
pub record Met : Type 0 where
  pub page : List ℕ
  pub anchor : Place

-- the page's hash under the anchor's salt is the anchor's digest
abbrev pub IsMet : Met → Type 0
IsMet m = page_hash m.anchor.salt m.page ≡ m.anchor.digest

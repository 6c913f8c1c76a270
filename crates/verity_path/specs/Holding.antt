-- A measured content that a host holds, and what is read of it where no call failed or the host is honest: the content, or
-- nothing for want of memory. No premise says that digests don't clash.
use Rattle.std.specs.Prelude.{◌≡◌, ℕ, ◌-◌, ◌*◌, ◌%◌, ◌<◌, ◌≤◌, List, length, take, drop, Some, Result, Ok, Err}
use Rattle.host_traits.specs.Held.{Held, Disk, File}
use Rattle.host_traits.specs.Told.{Told, Calm}
use Rattle.sha_tree.specs.declared.measure.Measure.{Measure}
use Rattle.sha_tree.specs.Tree.{block, page, page_hash, pages_at, slot, ancestor, stored_tree, top, tree_pages}
use Rattle.sha_tree.specs.Measured.{HasTree}
use Rattle.verity_path.specs.States.{Place, Met}
use Rattle.verity_path.specs.declared.walk.Layout.{Layout}
use Rattle.verity_path.specs.declared.walk.Layout.TheVariants.{File as OnFile, Parts as InParts}
use Rattle.verity_path.specs.declared.walk.WalkFault.{WalkFault}
use Rattle.verity_path.specs.declared.walk.WalkFault.TheVariants as fault

-- a file that is held has a content's bytes, as many as its layout says, and the pages of the content's tree
pub record HoldsFile (h : Held) (number size : ℕ) (m : Measure) (content : List ℕ) : Type 0 where
  pub file : File
  pub there : h.file number ≡ Some file
  pub size_is : size ≡ length content
  pub bytes : file.bytes ≡ content
  pub tree : (level i : ℕ) → 0 < level → level ≤ top m.blocks → i < pages_at m.blocks level
      → file.tree level i ≡ page content m.salt level i

-- a disk that is held, of whole sectors, has a content's blocks, each whole, from a sector on, and its stored tree from a byte on
pub record HoldsParts (h : Held) (number first at : ℕ) (m : Measure) (content : List ℕ) : Type 0 where
  pub disk : Disk
  pub there : h.disk number ≡ Some disk
  pub sectors : length disk.bytes % 512 ≡ 0
  pub whole : length content ≡ 4096 * m.blocks
  pub blocks : take (4096 * m.blocks) (drop (512 * first) disk.bytes) ≡ content
  pub tree : take (4096 * tree_pages m.blocks) (drop at disk.bytes) ≡ stored_tree content m.salt

-- the one or the other, by the layout
abbrev pub HoldsAt : Held → Layout → Measure → List ℕ → Type 0
HoldsAt h (OnFile file size) m content = HoldsFile h file size m content
HoldsAt h (InParts disk first tree) m content = HoldsParts h disk first tree m content

-- Where a host held a content and its tree at these places, and no call failed or the host is honest, what came is right by the
-- content, and the host holds afterwards what it held.
pub record WhereHeld (layout : Layout) (m : Measure) (old new : Told) (IsRight : List ℕ → Type 0) : Type 0 where
  pub right : (h : Held) (content : List ℕ) → Calm old new → old.held ≡ Some h → HoldsAt h layout m content
      → HasTree m content → m.blocks ≤ 1048576 → (new.held ≡ Some h) × IsRight content

-- this came, or the host had no memory
abbrev pub OrMemory : {A : Type 0} → Result A WalkFault → (A → Type 0) → Type 0
OrMemory (Ok x) IsRight = IsRight x
OrMemory (Err why) IsRight = why ≡ fault.Memory

-- the digest of an anchor is that of the content's page at its place
pub record IsAnchored (m : Measure) (content : List ℕ) (a : Place) : Type 0 where
  pub salt_is : a.salt ≡ m.salt
  pub digest_is : a.digest ≡ page_hash m.salt (page content m.salt a.level a.index)

-- the page of such an anchor, over a measure of so many blocks, is the content's
abbrev pub PageIsRight : Layout → ℕ → Place → Told → Told → List ℕ → Result (Unit {0}) WalkFault → Type 0
PageIsRight layout count a old new p result = (m : Measure) → m.blocks ≡ count
    → WhereHeld layout m old new (λ content. IsAnchored m content a
    → OrMemory result (λ _. p ≡ page content m.salt a.level a.index))

-- the same of a page that is proved, and of the digest in one of its slots
abbrev pub ProvedIsRight : Layout → ℕ → Place → Told → Told → Result Met WalkFault → Type 0
ProvedIsRight layout count a old new result = (m : Measure) → m.blocks ≡ count
    → WhereHeld layout m old new (λ content. IsAnchored m content a
    → OrMemory result (λ p. p.page ≡ page content m.salt a.level a.index))

abbrev pub BelowIsRight : Layout → ℕ → ℕ → Place → Told → Told → Result Place WalkFault → Type 0
BelowIsRight layout count block a old new result = (m : Measure) → m.blocks ≡ count
    → WhereHeld layout m old new (λ content. IsAnchored m content a
    → OrMemory result (λ b. b.digest ≡ slot (page content m.salt a.level a.index) (ancestor block (a.level - 1) % 128)))

-- a page that was walked to is the content's block
abbrev pub WalkIsRight : Layout → Measure → ℕ → Told → Told → Result Met WalkFault → Type 0
WalkIsRight layout m index old new result = WhereHeld layout m old new (λ content. OrMemory result (λ p. p.page ≡ block content index))

-- a read of a range gives the content's bytes, cut at its end
abbrev pub RangeIsRight : Layout → Measure → ℕ → ℕ → ℕ → Told → Told → List ℕ → Result (Unit {0}) WalkFault → Type 0
RangeIsRight layout m size offset len old new bytes result =
    WhereHeld layout m old new (λ content. size ≡ length content → OrMemory result (λ _. bytes ≡ take len (drop offset content)))

-- What pieces tie to the root of a content's tree is the content's.
use Rattle.std.proofs.Common.{◌≡◌, ℕ, zero, suc, ◌+◌, ◌*◌, ◌/◌, ◌%◌, ◌<◌, ◌≤◌, List, length, refl, ap, sym, ◌∙◌, arith}
use Rattle.std.specs.Prelude.{◌≢◌}
use Rattle.std.proofs.lemmas.List.{append_cancel_left}
use Rattle.sha_tree.specs.declared.measure.Measure.{Measure}
use Rattle.sha_tree.specs.Tree.{block, block_count, hash_input, padded_salt, page, page_hash, pages_at, slot, top}
use Rattle.sha_tree.specs.Measured.{IsMeasured, HasTree}
use Rattle.sha_tree.specs.Path.{IsTied, IsDerived, IsInput, NoClash, AreOf}
use Rattle.sha_tree.proofs.Levels.{pages_at-top}
use Rattle.sha_tree.proofs.Pages.{slot-page, root-some}

-- a device's content has the measure's tree
pub measured_tree : (m : Measure) (content : List ℕ) → IsMeasured m content → HasTree m content
measured_tree m content h = record { blocks = rw h.size (omega arith); root = h.root }

-- more pieces tie no less
pub tied_more : (P Q : List ℕ → Type 0) (m : Measure) → ((p : List ℕ) → P p → Q p) → (depth i : ℕ) (digest : List ℕ) → IsTied P m depth i digest → IsTied Q m depth i digest
tied_more P Q m more zero i digest t = t
tied_more P Q m more (suc depth) i digest t =
    (t.0, more t.0 t.1, tied_more P Q m more depth (i / 128) (page_hash m.salt t.0) t.2, t.3)

pub derived_more : (P Q : List ℕ → Type 0) (m : Measure) → ((p : List ℕ) → P p → Q p) → (level i : ℕ) (digest : List ℕ) → IsDerived P m level i digest → IsDerived Q m level i digest
derived_more P Q m more level i digest d =
    record { depth = d.depth; level_is = d.level_is; index = d.index; tied = tied_more P Q m more d.depth i digest d.tied }

-- the root is tied to the top page
pub derived_top : (P : List ℕ → Type 0) (m : Measure) → 0 < m.blocks → m.blocks ≤ 1048576 → IsDerived P m (top m.blocks) 0 m.root.0
derived_top P m some limit = record {
  depth = 0;
  level_is = omega arith;
  index = rw (pages_at-top m.blocks some limit) (omega arith);
  tied = (refl, refl);
}

-- a digest in a page whose hash is tied is tied one level down
pub derived_below : (P : List ℕ → Type 0) (m : Measure) (level i : ℕ) (p digest : List ℕ) → P p →
    IsDerived P m (level + 1) (i / 128) (page_hash m.salt p) → i < pages_at m.blocks level → digest ≡ slot p (i % 128) → IsDerived P m level i digest
derived_below P m level i p digest piece above within is = record {
  depth = suc above.depth;
  level_is = omega (arith, above.level_is);
  index = within;
  tied = (p, piece, above.tied, is);
}

page_above : (count level i : ℕ) → i < pages_at count level → i / 128 < pages_at count (suc level)
unfolding pages_at
page_above count level i h = omega arith

-- two pages with one hash are one
same_page : (Hashed : List ℕ → Type 0) (salt p q : List ℕ) → NoClash Hashed → Hashed (hash_input salt p) → Hashed (hash_input salt q) →
    page_hash salt p ≡ page_hash salt q → p ≡ q
unfolding page_hash
same_page Hashed salt p q apart has_p has_q same =
    append_cancel_left (padded_salt salt) p q (apart (hash_input salt p) (hash_input salt q) has_p has_q same)

page-block : (content salt : List ℕ) (i : ℕ) → page content salt 0 i ≡ block content i
unfolding page
page-block content salt i = refl

module _ (Piece Hashed : List ℕ → Type 0) (m : Measure) (content : List ℕ) (tree : HasTree m content) (some : 0 < m.blocks)
    (apart : NoClash Hashed) (pieces : (p : List ℕ) → Piece p → Hashed (hash_input m.salt p)) (inputs : (x : List ℕ) → IsInput content m.salt x → Hashed x) where
  count : block_count (length content) ≡ m.blocks
  count = tree.blocks

  input : (level i : ℕ) → level ≤ top m.blocks → i < pages_at m.blocks level → Hashed (hash_input m.salt (page content m.salt level i))
  input level i low within = inputs _ (record { level = level; i = i; level_in = rw count low; index = rw count within; is = refl })

  tied_is : (depth level i : ℕ) (digest : List ℕ) → level + depth ≡ top m.blocks → i < pages_at m.blocks level → IsTied Piece m depth i digest →
      digest ≡ page_hash m.salt (page content m.salt level i)
  tied_is zero level i digest up within t =
      let bytes : 0 < length content = omega (arith, count) in
      let level_is : top m.blocks ≡ level = omega arith in
      t.1 ∙ sym tree.root ∙ root-some content m.salt bytes
      ∙ ap (λ (l : ℕ). page_hash m.salt (page content m.salt l 0)) (ap top count ∙ level_is)
      ∙ ap (λ (j : ℕ). page_hash m.salt (page content m.salt level j)) (sym t.0)
  tied_is (suc depth) level i digest up within t =
      let p = t.0 in
      let there = page_above m.blocks level i within in
      let hash = tied_is depth (suc level) (i / 128) (page_hash m.salt p) (omega arith) there t.2 in
      let whole = same_page Hashed m.salt p (page content m.salt (suc level) (i / 128)) apart (pieces p t.1) (input (suc level) (i / 128) (omega arith) there) hash in
      let back : 128 * (i / 128) + i % 128 ≡ i = omega arith in
      t.3 ∙ ap (λ (q : List ℕ). slot q (i % 128)) whole
      ∙ slot-page content m.salt level (i / 128) (i % 128) (omega arith) (rw (count, back) within)
      ∙ ap (λ (j : ℕ). page_hash m.salt (page content m.salt level j)) back

  -- a digest that is tied to a place is that of the content's page
  pub derived_is : (level i : ℕ) (digest : List ℕ) → IsDerived Piece m level i digest → digest ≡ page_hash m.salt (page content m.salt level i)
  derived_is level i digest d = tied_is d.depth level i digest d.level_is d.index d.tied

  -- a piece with a digest that is tied to a place is the content's page
  pub piece_is : (level i : ℕ) (p : List ℕ) → Piece p → IsDerived Piece m level i (page_hash m.salt p) → p ≡ page content m.salt level i
  piece_is level i p piece d =
      same_page Hashed m.salt p (page content m.salt level i) apart (pieces p piece) (input level i (omega (arith, d.level_is)) d.index)
      (derived_is level i (page_hash m.salt p) d)

  -- a page with another hash than the one that is tied to its place is not the content's page
  pub other_page : (level i : ℕ) (p digest : List ℕ) → IsDerived Piece m level i digest → digest ≢ page_hash m.salt p → p ≢ page content m.salt level i
  other_page level i p digest d differ same =
      differ (derived_is level i digest d ∙ ap (page_hash m.salt) (sym same))

  pub all_sound : AreOf Piece m content
  all_sound = record {
    digests = derived_is;
    pages = piece_is;
    blocks = λ i p piece d. piece_is 0 i p piece d ∙ page-block content m.salt i;
  }

-- A walk and a read of a range over a host that holds the content.
use Rattle.std.proofs.Common.{◌≡◌, ℕ, suc, ◌+◌, ◌-◌, ◌*◌, ◌/◌, ◌%◌, ◌<◌, ◌≤◌, ◌∙◌, min, max, List, [], ◌++◌, length, take, drop, Result, Ok, Err, refl, ap, sym, arith}
use Rattle.std.specs.Prelude.{slice_range}
use Rattle.std.proofs.lemmas.List.{length-take, length-drop, take-append-le, drop-append-le, drop-take, take-take, drop-drop}
use Rattle.std.proofs.Math.Seq.{take-add}
use Rattle.host_traits.specs.Did.{Trace}
use Rattle.host_traits.specs.Told.{Told, Made, Talked, Calm}
use Rattle.host_traits.proofs.Holding.{calm_first, calm_rest}
use Rattle.sha_tree.specs.declared.measure.Measure.{Measure}
use Rattle.sha_tree.specs.Tree.{block, page, page_hash, pages_at, slot, ancestor, top}
use Rattle.sha_tree.specs.Measured.{HasTree}
use Rattle.sha_tree.proofs.Levels.{ancestor-page, ancestor-zero}
use Rattle.sha_tree.proofs.Pages.{slot-page, root-some}
use Rattle.verity_path.specs.States.{Place, Met}
use Rattle.verity_path.specs.Steps.{IsBelow}
use Rattle.verity_path.specs.Range.{end_of}
use Rattle.verity_path.specs.Holding.{WhereHeld, IsAnchored, ProvedIsRight, BelowIsRight, WalkIsRight, RangeIsRight}
use Rattle.verity_path.specs.declared.walk.Layout.{Layout}
use Rattle.verity_path.specs.declared.walk.WalkFault.{WalkFault}
use Rattle.verity_path.proofs.Walking.{IsAt, next_at}
use Rattle.verity_path.proofs.Pages.{take-most}

-- what two pieces of work told, one after the other: calm over both is calm over each
module _ (x y z : Told) (one two : List Made) (before : Talked x y one) (then : Talked y z two) where
  calm_one : Calm x z → Calm x y
  calm_one calm = calm_first x y z then.faults calm

  calm_two : Calm x z → Calm y z
  calm_two calm = calm_rest x y z before.faults before.honest calm

-- the anchor of a measure is that of the content's top page
anchored_top : (m : Measure) (content : List ℕ) (a : Place) → 0 < m.blocks → HasTree m content → a.salt ≡ m.salt → a.level ≡ top m.blocks → a.index ≡ 0
    → a.digest ≡ m.root.0 → IsAnchored m content a
anchored_top m content a some tree salt level index digest = record {
  salt_is = salt;
  digest_is = digest ∙ sym tree.root ∙ root-some content m.salt (omega (arith, tree.blocks, some))
      ∙ rw (level, index, tree.blocks) refl;
}

pub right_top : (layout : Layout) (m : Measure) (a : Place) (x : Told) → 0 < m.blocks → a.salt ≡ m.salt → a.level ≡ top m.blocks → a.index ≡ 0
    → a.digest ≡ m.root.0 → WhereHeld layout m x x (λ content. IsAnchored m content a)
right_top layout m a x some salt level index digest = record {
  right = λ h content calm held holds tree limit.
      (held, anchored_top m content a some tree salt level index digest);
}

module _ (layout : Layout) (m : Measure) (index count : ℕ) (same : count ≡ m.blocks) (within : index < m.blocks) where
  -- one level down
  pub right_below : (a b : Place) (level : ℕ) (t : Trace) (x y z : Told) (one two : List Made) → Talked x y one → Talked y z two → 0 < level → IsAt m index level a → IsBelow layout count index a t b
      → WhereHeld layout m x y (λ content. IsAnchored m content a) → BelowIsRight layout count index a y z (Ok b)
      → WhereHeld layout m x z (λ content. IsAnchored m content b)
  right_below a b level t x y z one two was is some at q before step = record {
    right = λ h content calm held holds tree limit.
        let here = before.right h content (calm_one x y z one two was is calm) held holds tree limit in
        let there = (step m (sym same)).right h content (calm_two x y z one two was is calm) here.0 holds tree limit in
        let next = next_at m index layout count a b level t some at q in
        let k : ℕ = ancestor index (a.level - 1) % 128 in
        let up : a.level ≡ suc (level - 1) = omega (arith, at.level_is, some) in
        let inside : ancestor index (level - 1) < pages_at m.blocks (level - 1) = ancestor-page m.blocks index (level - 1) within in
        let place : 128 * a.index + k ≡ ancestor index (level - 1) = sym q.index_is ∙ next.index_is in
        let digest : slot (page content m.salt (suc (level - 1)) a.index) k ≡ page_hash m.salt (page content m.salt (level - 1) (128 * a.index + k)) =
        slot-page content m.salt (level - 1) a.index k (omega arith) (rw (place, tree.blocks) inside) in (
          there.0,
          record {
            salt_is = q.salt_is ∙ here.1.salt_is;
            digest_is = there.1 here.1 ∙ ap (λ (l : ℕ). slot (page content m.salt l a.index) k) up ∙ digest
                ∙ rw (next.level_is, q.index_is) refl;
          },
        );
  }

  -- a fault on the way, or the block
  pub right_end : (a : Place) (level : ℕ) (x y z : Told) (one two : List Made) (r : Result Met WalkFault) → Talked x y one → Talked y z two → level ≡ 0 → IsAt m index level a
      → WhereHeld layout m x y (λ content. IsAnchored m content a) → ProvedIsRight layout count a y z r → WalkIsRight layout m index x z r
  unfolding page
  right_end a level x y z one two (Ok p) was is none at before step = record {
    right = λ h content calm held holds tree limit.
        let here = before.right h content (calm_one x y z one two was is calm) held holds tree limit in
        let there = (step m (sym same)).right h content (calm_two x y z one two was is calm) here.0 holds tree limit in
        let zero_is : a.level ≡ 0 = at.level_is ∙ none in
        let index_is : a.index ≡ index = at.index_is ∙ ap (ancestor index) none ∙ ancestor-zero index in
        (there.0, there.1 here.1 ∙ ap (λ (l : ℕ). page content m.salt l a.index) zero_is ∙ ap (block content) index_is);
  }
  right_end a level x y z one two (Err why) was is none at before step = record {
    right = λ h content calm held holds tree limit.
        let here = before.right h content (calm_one x y z one two was is calm) held holds tree limit in
        let there = (step m (sym same)).right h content (calm_two x y z one two was is calm) here.0 holds tree limit in
        (there.0, there.1 here.1);
  }

  pub right_fault : (a : Place) (x y z : Told) (one two : List Made) (why : WalkFault) → Talked x y one → Talked y z two → WhereHeld layout m x y (λ content. IsAnchored m content a)
      → BelowIsRight layout count index a y z (Err why) → WalkIsRight layout m index x z (Err why)
  right_fault a x y z one two why was is before step = record {
    right = λ h content calm held holds tree limit.
        let here = before.right h content (calm_one x y z one two was is calm) held holds tree limit in
        let there = (step m (sym same)).right h content (calm_two x y z one two was is calm) here.0 holds tree limit in
        (there.0, there.1 here.1);
  }

-- ---- a range

-- bytes of a block are bytes of the content
block_part : (content : List ℕ) (i k n : ℕ) → k + n ≤ 4096 → 4096 * i + (k + n) ≤ length content → take n (drop k (block content i)) ≡ take n (drop (4096 * i + k) content)
unfolding block
block_part content i k n few inside =
    let part : List ℕ = take 4096 (drop (4096 * i) content) in
    let len : k + n ≤ length part = omega (arith, length-take 4096 (drop (4096 * i) content), length-drop (4096 * i) content, few, inside) in
    let cut : 4096 ≡ k + (4096 - k) = omega (arith, few) in
    ap (take n) (drop-append-le k part _ (omega (arith, len))) ∙ take-append-le n (drop k part) _ (omega (arith, len, length-drop k part))
    ∙ ap (λ (c : ℕ). take n (drop k (take c (drop (4096 * i) content)))) cut ∙ ap (take n) (drop-take k (4096 - k) (drop (4096 * i) content))
    ∙ take-take n (4096 - k) (drop k (drop (4096 * i) content)) (omega (arith, few)) ∙ ap (take n) (drop-drop k (4096 * i) content)

-- the bytes so far, and those of one block more
part_more : (content bytes p : List ℕ) (offset i mid end : ℕ) → offset ≤ mid → 4096 * i ≤ mid → mid ≤ end → end ≤ 4096 * i + 4096 → end ≤ length content
    → bytes ≡ take (mid - offset) (drop offset content) → p ≡ block content i
    → bytes ++ take (end - mid) (drop (mid - 4096 * i) p) ≡ take (end - offset) (drop offset content)
part_more content bytes p offset i mid end le from to few inside before is =
    let at : 4096 * i + (mid - 4096 * i) ≡ mid = omega arith in
    let back : offset + (mid - offset) ≡ mid = omega arith in
    let more : take (end - mid) (drop (mid - 4096 * i) p) ≡ take (end - mid) (drop mid content) =
    ap (λ (q : List ℕ). take (end - mid) (drop (mid - 4096 * i) q)) is ∙ block_part content i (mid - 4096 * i) (end - mid) (omega arith) (omega arith)
    ∙ ap (λ (k : ℕ). take (end - mid) (drop k content)) at in
    let all : end - offset ≡ (mid - offset) + (end - mid) = omega arith in
    let rest : drop (mid - offset) (drop offset content) ≡ drop mid content = drop-drop (mid - offset) offset content ∙ ap (λ (k : ℕ). drop k content) back in
    rw (before, more, all) (ap (λ (xs : List ℕ). take (mid - offset) (drop offset content) ++ take (end - mid) xs) (sym rest) ∙ sym (take-add (mid - offset) (end - mid) (drop offset content)))

-- where the blocks below index are read
abbrev pub RightSoFar : Layout → Measure → ℕ → ℕ → ℕ → ℕ → Told → Told → List ℕ → Type 0
RightSoFar layout m size offset end index x y bytes =
    WhereHeld layout m x y (λ content. size ≡ length content → bytes ≡ take (min end (max offset (4096 * index)) - offset) (drop offset content))

module _ (layout : Layout) (m : Measure) (size offset len end : ℕ) (end_is : end ≡ end_of size offset len) (some : offset < end) where
  pub right_start : (x : Told) (bytes : List ℕ) → bytes ≡ [] → RightSoFar layout m size offset end (offset / 4096) x x bytes
  right_start x bytes none = record {
    right = λ h content calm held holds tree limit.
        let no : 0 ≡ min end (max offset (4096 * (offset / 4096))) - offset = omega arith in
        (held, λ is. none ∙ ap (λ (n : ℕ). take n (drop offset content)) no);
  }

  pub right_on : (x y z : Told) (one two : List Made) (index : ℕ) (bytes : List ℕ) (p : Met) → Talked x y one → Talked y z two → offset / 4096 ≤ index → 4096 * index < end
      → RightSoFar layout m size offset end index x y bytes → WalkIsRight layout m index y z (Ok p)
      → RightSoFar layout m size offset end (index + 1) x z
      (bytes ++ slice_range p.page (max offset (4096 * index) - 4096 * index) (min end (4096 * index + 4096) - 4096 * index))
  right_on x y z one two index bytes p was is from to before step = record {
    right = λ h content calm held holds tree limit.
        let here = before.right h content (calm_one x y z one two was is calm) held holds tree limit in
        let there = step.right h content (calm_two x y z one two was is calm) here.0 holds tree limit in
        let mid = max offset (4096 * index) in
        let last = min end (4096 * index + 4096) in
        let here_is : min end mid ≡ mid = omega arith in
        let there_is : min end (max offset (4096 * (index + 1))) ≡ last = omega arith in
        let part : (last - 4096 * index) - (mid - 4096 * index) ≡ last - mid = omega arith in (
          there.0,
          λ whole. rw (there_is, part) (part_more content bytes p.page offset index mid last (omega arith) (omega arith) (omega arith) (omega arith)
              (omega (arith, whole, end_is)) (rw here_is at (here.1 whole)) there.1),
        );
  }

  pub right_bad : (x y z : Told) (one two : List Made) (index : ℕ) (bytes left : List ℕ) (why : WalkFault) → Talked x y one → Talked y z two → RightSoFar layout m size offset end index x y bytes
      → WalkIsRight layout m index y z (Err why) → RangeIsRight layout m size offset len x z left (Err why)
  right_bad x y z one two index bytes left why was is before step = record {
    right = λ h content calm held holds tree limit.
        let here = before.right h content (calm_one x y z one two was is calm) held holds tree limit in
        let there = step.right h content (calm_two x y z one two was is calm) here.0 holds tree limit in
        (there.0, λ whole. there.1);
  }

  pub right_all : (x y : Told) (index : ℕ) (bytes : List ℕ) (u : Unit {0}) → index ≡ (end + 4095) / 4096 → RightSoFar layout m size offset end index x y bytes
      → RangeIsRight layout m size offset len x y bytes (Ok u)
  right_all x y index bytes u last before = record {
    right = λ h content calm held holds tree limit.
        let here = before.right h content calm held holds tree limit in (
          here.0,
          λ is.
              let all : min end (max offset (4096 * index)) - offset ≡ min (length (drop offset content)) len = omega (arith, length-drop offset content, last, end_is, some, is) in
              here.1 is ∙ ap (λ (n : ℕ). take n (drop offset content)) all ∙ take-most len (drop offset content),
        );
  }

-- an empty range
pub right_none : (layout : Layout) (m : Measure) (size offset len : ℕ) (x : Told) (bytes : List ℕ) (u : Unit {0}) → end_of size offset len ≤ offset → bytes ≡ []
    → RangeIsRight layout m size offset len x x bytes (Ok u)
right_none layout m size offset len x bytes u le none = record {
  right = λ h content calm held holds tree limit. (
    held,
    λ is.
        let no : 0 ≡ min (length (drop offset content)) len = omega (arith, length-drop offset content, le, is) in
        none ∙ ap (λ (n : ℕ). take n (drop offset content)) no ∙ take-most len (drop offset content),
  );
}

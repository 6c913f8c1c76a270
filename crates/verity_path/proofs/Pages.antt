-- A content that is held: the answer to the call for a page is as long as asked, and holds the content's page.
use Rattle.std.proofs.Common.{◌≡◌, ℕ, zero, suc, ◌+◌, ◌-◌, ◌*◌, ◌/◌, ◌%◌, ◌<◌, ◌≤◌, min, List, length, take, drop, refl, ap, sym, ◌∙◌, arith, append-nil, [], ◌∷◌, Some, true, false}
use Rattle.std.specs.Prelude.{◌==◌, if◌then◌else◌}
use Rattle.std.proofs.lemmas.Bool.Decides.{nat_tests}
use Rattle.std.proofs.lemmas.List.{length-take, length-drop, take_all, take-take, drop-take, drop-drop}
use Rattle.host_traits.specs.declared.calls.Said.TheVariants.{Bytes}
use Rattle.host_traits.specs.Held.{Held, serve}
use Rattle.host_traits.proofs.Holding.{file_served, tree_served, sectors_served}
use Rattle.sha_tree.specs.declared.measure.Measure.{Measure}
use Rattle.sha_tree.specs.Tree.{padded, block, block_count, page, pages_at, place, top, tree_pages, stored_tree}
use Rattle.sha_tree.proofs.Levels.{pages_at-zero, place-inside}
use Rattle.sha_tree.proofs.Pages.{length-page}
use Rattle.sha_tree.proofs.Stored.{page-stored, length-stored}
use Rattle.verity_path.specs.Calls.{call_for, asked_for, piece_for, tree_byte}
use Rattle.verity_path.specs.declared.walk.Layout.{Layout}
use Rattle.verity_path.specs.declared.walk.Layout.TheVariants.{File as OnFile, Parts as InParts}
use Rattle.verity_path.specs.Holding.{HoldsFile, HoldsParts, HoldsAt}

-- the call for a page is answered by bytes as long as asked, which hold the content's page, and changes nothing
pub record HasPage (h : Held) (layout : Layout) (m : Measure) (content : List ℕ) (level i : ℕ) : Type 0 where
  pub bytes : List ℕ
  pub served : (given : List ℕ) → serve h (call_for layout m.blocks level i) given ≡ Some (Bytes bytes, h)
  pub len : length bytes ≡ asked_for layout m.blocks level i
  pub piece : piece_for layout m.blocks level i bytes ≡ page content m.salt level i

padded-full : (bytes : List ℕ) → length bytes ≡ 4096 → padded bytes ≡ bytes
padded-full bytes e =
    let none : 4096 - length bytes ≡ 0 = omega arith in
    rw none (append-nil bytes)

-- a page of a part of some bytes
page_within : (xs : List ℕ) (from n at : ℕ) → at + 4096 ≤ n → take 4096 (drop at (take n (drop from xs))) ≡ take 4096 (drop (from + at) xs)
page_within xs from n at le =
    let cut : n ≡ at + (n - at) = omega arith in
    ap (λ k. take 4096 (drop at (take k (drop from xs)))) cut ∙ ap (take 4096) (drop-take at (n - at) (drop from xs))
    ∙ take-take 4096 (n - at) (drop at (drop from xs)) (omega arith) ∙ ap (take 4096) (drop-drop at from xs)

-- the sectors that are asked for hold the page
sectors_hold : (k : ℕ) → k < 512 → k + 4096 ≤ 512 * (if k == 0 then 8 else 9)
sectors_hold k small = elim (k == 0) as (λ v. (k == 0) ≡ v → k + 4096 ≤ 512 * (if v then 8 else 9))
    [ true ↦ λ e. grind (arith, nat_tests) | false ↦ λ e. omega arith ] refl

-- and end with a disk of whole sectors, where the page does
sectors_end : (at size : ℕ) → size % 512 ≡ 0 → at + 4096 ≤ size → 512 * (at / 512 + (if at % 512 == 0 then 8 else 9)) ≤ size
sectors_end at size whole le = elim (at % 512 == 0) as (λ v. (at % 512 == 0) ≡ v → 512 * (at / 512 + (if v then 8 else 9)) ≤ size)
    [ true ↦ λ e. omega arith | false ↦ λ e. grind (arith, nat_tests) ] refl

-- the bytes of sectors that are there
length-sectors : (xs : List ℕ) (sector count : ℕ) → 512 * (sector + count) ≤ length xs → length (take (512 * count) (drop (512 * sector) xs)) ≡ 512 * count
length-sectors xs sector count le = omega (arith, length-take (512 * count) (drop (512 * sector) xs), length-drop (512 * sector) xs)

-- a level above the blocks isn't level 0
not_zero : (level : ℕ) → (suc level == 0) ≡ false
not_zero level = grind (arith, nat_tests)

-- to take more than there is is to take all
pub take-most : (n : ℕ) (xs : List ℕ) → take (min (length xs) n) xs ≡ take n xs
take-most n [] = by_end n where
  by_end : (n : ℕ) → take (min 0 n) [] ≡ take {A = ℕ} n []
  by_end zero = refl
  by_end (suc n) = let none : min 0 (suc n) ≡ 0 = omega arith in rw none refl
take-most zero (x ∷ xs) = let none : min (length (x ∷ xs)) 0 ≡ 0 = omega arith in rw none refl
take-most (suc n) (x ∷ xs) = let more : min (length (x ∷ xs)) (suc n) ≡ suc (min (length xs) n) = omega arith in rw more (ap (λ r. x ∷ r) (take-most n xs))

module _ (h : Held) (m : Measure) (content : List ℕ) (blocks : block_count (length content) ≡ m.blocks) (limit : m.blocks ≤ 1048576) where
  full_block : (i : ℕ) → length content ≡ 4096 * m.blocks → i < m.blocks → length (take 4096 (drop (4096 * i) content)) ≡ 4096
  full_block i whole lt = omega (arith, length-take 4096 (drop (4096 * i) content), length-drop (4096 * i) content, whole)

  file_page : (file size level i : ℕ) → HoldsFile h file size m content → level ≤ top m.blocks → i < pages_at m.blocks level
      → HasPage h (OnFile file size) m content level i
  unfolding page block
  file_page file size zero i holds low within =
      let answer : List ℕ = take (min (size - 4096 * i) 4096) (drop (4096 * i) holds.file.bytes) in
      let left : size - 4096 * i ≡ length (drop (4096 * i) content) = omega (arith, holds.size_is, length-drop (4096 * i) content) in
      let same : answer ≡ take 4096 (drop (4096 * i) content) = rw (left, holds.bytes) (take-most 4096 (drop (4096 * i) content)) in
      record {
        bytes = answer;
        served = λ given. file_served h file (4096 * i) (min (size - 4096 * i) 4096) holds.file given holds.there;
        len = ap length same ∙ omega (arith, length-take 4096 (drop (4096 * i) content), left);
        piece = ap padded same;
      }
  file_page file size (suc level) i holds low within =
      let answer : List ℕ = take 4096 (holds.file.tree (suc level) i) in
      let len = length-page content m.salt (suc level) i in
      let same : answer ≡ page content m.salt (suc level) i =
      ap (take 4096) (holds.tree (suc level) i (omega arith) low within) ∙ take_all 4096 (page content m.salt (suc level) i) (omega (arith, len)) in
      record {
        bytes = answer;
        served = λ given. rw (not_zero level) (tree_served h file (suc level) i holds.file given holds.there);
        len = rw (not_zero level) (ap length same ∙ len);
        piece = padded-full answer (ap length same ∙ len) ∙ same;
      }

  -- a page of the stored tree that is held is the content's
  stored_page : (disk first tree level i : ℕ) → (holds : HoldsParts h disk first tree m content) → 0 < level → level ≤ top m.blocks → i < pages_at m.blocks level
      → take 4096 (drop (tree_byte tree m.blocks level i) holds.disk.bytes) ≡ page content m.salt level i
  stored_page disk first tree level i holds some low within =
      let count : block_count (length content) ≡ m.blocks = blocks in
      let place_in = place-inside m.blocks level i limit some low within in
      let stands : take 4096 (drop (4096 * place m.blocks level i) (stored_tree content m.salt)) ≡ page content m.salt level i =
      rw count at (page-stored content m.salt level i some (rw count low) (rw count within)) in
      sym (page_within holds.disk.bytes tree (4096 * tree_pages m.blocks) (4096 * place m.blocks level i) (omega arith))
      ∙ ap (λ x. take 4096 (drop (4096 * place m.blocks level i) x)) holds.tree ∙ stands

  -- the stored tree lies on the disk, where it has pages
  tree_ends : (disk first tree : ℕ) → (holds : HoldsParts h disk first tree m content) → 0 < tree_pages m.blocks
      → tree + 4096 * tree_pages m.blocks ≤ length holds.disk.bytes
  tree_ends disk first tree holds some =
      let count : block_count (length content) ≡ m.blocks = blocks in
      let len : length (stored_tree content m.salt) ≡ 4096 * tree_pages m.blocks = rw count at (length-stored content m.salt) in
      omega (arith, ap length holds.tree, len, length-take (4096 * tree_pages m.blocks) (drop tree holds.disk.bytes), length-drop tree holds.disk.bytes)

  parts_page : (disk first tree level i : ℕ) → HoldsParts h disk first tree m content → level ≤ top m.blocks → i < pages_at m.blocks level
      → HasPage h (InParts disk first tree) m content level i
  unfolding page block
  parts_page disk first tree zero i holds low within =
      let inside : i < m.blocks = omega (arith, pages_at-zero m.blocks) in
      let at : 512 * first + 4096 * i ≡ 512 * (first + 8 * i) = omega arith in
      let answer : List ℕ = take 4096 (drop (512 * (first + 8 * i)) holds.disk.bytes) in
      let ends : 512 * (first + 8 * i + 8) ≤ length holds.disk.bytes =
      omega (arith, ap length holds.blocks, holds.whole, length-take (4096 * m.blocks) (drop (512 * first) holds.disk.bytes), length-drop (512 * first) holds.disk.bytes) in
      let same : take 4096 (drop (4096 * i) content) ≡ answer =
      ap (λ x. take 4096 (drop (4096 * i) x)) (sym holds.blocks) ∙ page_within holds.disk.bytes (512 * first) (4096 * m.blocks) (4096 * i) (omega arith)
      ∙ ap (λ k. take 4096 (drop k holds.disk.bytes)) at in
      let full = full_block i holds.whole inside in
      let len : length answer ≡ 4096 = ap length (sym same) ∙ full in
      record {
        bytes = answer;
        served = λ given. sectors_served h disk (first + 8 * i) 8 holds.disk given holds.there ends;
        len = len;
        piece = take_all 4096 answer (omega (arith, len)) ∙ sym same ∙ sym (padded-full (take 4096 (drop (4096 * i) content)) full);
      }
  parts_page disk first tree (suc level) i holds low within =
      let at : ℕ = tree_byte tree m.blocks (suc level) i in
      let count : ℕ = if at % 512 == 0 then 8 else 9 in
      let place_in = place-inside m.blocks (suc level) i limit (omega arith) low within in
      let tree_in = tree_ends disk first tree holds (omega arith) in
      let ends : 512 * (at / 512 + count) ≤ length holds.disk.bytes = sectors_end at (length holds.disk.bytes) holds.sectors (omega arith) in
      let back : 512 * (at / 512) + at % 512 ≡ at = omega arith in
      record {
        bytes = take (512 * count) (drop (512 * (at / 512)) holds.disk.bytes);
        served = λ given. rw (not_zero level) (sectors_served h disk (at / 512) count holds.disk given holds.there ends);
        len = rw (not_zero level) (length-sectors holds.disk.bytes (at / 512) count ends);
        piece = rw (not_zero level) (page_within holds.disk.bytes (512 * (at / 512)) (512 * count) (at % 512) (sectors_hold (at % 512) (omega arith))
            ∙ ap (λ k. take 4096 (drop k holds.disk.bytes)) back ∙ stored_page disk first tree (suc level) i holds (omega arith) low within);
      }

  -- how the call for a page is served
  pub page_held : (layout : Layout) (level i : ℕ) → HoldsAt h layout m content → level ≤ top m.blocks → i < pages_at m.blocks level
      → HasPage h layout m content level i
  page_held (OnFile file size) level i holds low within = file_page file size level i holds low within
  page_held (InParts disk first tree) level i holds low within = parts_page disk first tree level i holds low within

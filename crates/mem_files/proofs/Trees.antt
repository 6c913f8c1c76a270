-- The tree pages of a file whose tree was built.
use Rattle.std.proofs.Common.{if◌then◌else◌, ◌≡◌, ◌&&◌, ◌+◌, ◌<◌, ◌≤◌, ℕ, Bool, true, false, List, length, refl, ◌∙◌, ap, inl, inr, arith}
use Rattle.std.specs.Prelude.{nat_eq, nat_lt, nat_le, replicate}
use Rattle.std.proofs.lemmas.Bool.{lt-ltb, le-ltb, le-leb, lt-leb, eq-eqb, ne_eqb, cases_lt, cases_eq, and_parts, ltb-true, leb-true}
use mathlib.Core.Path.{fun_ext}
use Rattle.sha_tree.specs.Tree.{block_count, pages_at, top, page, root, IsStored}
use Rattle.verity_descriptor.specs.Spelling.{descriptor_bytes}
use Rattle.host_traits.specs.Held.{tree_with}
use Rattle.mem_files.specs.FsVerity.{is_tree_page, verity_file}
use Rattle.mem_files.specs.Files.{FileData, file_of, page_in, stored_page}

-- the next page of a level
pub level_more : (k index : ℕ) (new mid old held : ℕ → ℕ → List ℕ) → ((l i : ℕ) → new l i ≡ tree_with mid k index (held k index) l i)
    → ((l i : ℕ) → mid l i ≡ (if nat_eq k l && nat_lt i index then held l i else old l i)) → (l i : ℕ) → new l i ≡ (if nat_eq k l && nat_lt i (index + 1) then held l i else old l i)
level_more k index new mid old held put before l i = elim (cases_eq k l) [
  | inr ne ↦
      let first : new l i ≡ mid l i = put l i ∙ rw (ne_eqb k l ne) refl in
      let after : mid l i ≡ old l i = before l i ∙ rw (ne_eqb k l ne) refl in
      rw (ne_eqb k l ne) (first ∙ after)
  | inl is ↦ elim (cases_eq index i) [
    | inl here ↦
        let next : i < index + 1 = omega arith in
        let first : new l i ≡ held k index = put l i ∙ rw (eq-eqb k l is, eq-eqb index i here) refl in
        rw (eq-eqb k l is, lt-ltb i (index + 1) next) (first ∙ ap (λ n. held n index) is ∙ ap (held l) here)
    | inr other ↦
        let first : new l i ≡ mid l i = put l i ∙ rw (eq-eqb k l is, ne_eqb index i other) refl in
        elim (cases_lt i index) [
          | inl low ↦
              let next : i < index + 1 = omega arith in
              let after : mid l i ≡ held l i = before l i ∙ rw (eq-eqb k l is, lt-ltb i index low) refl in
              rw (eq-eqb k l is, lt-ltb i (index + 1) next) (first ∙ after)
          | inr high ↦
              let next : index + 1 ≤ i = omega (arith, high, other) in
              let after : mid l i ≡ old l i = before l i ∙ rw (eq-eqb k l is, le-ltb i index high) refl in
              rw (eq-eqb k l is, le-ltb i (index + 1) next) (first ∙ after)
        ]
  ]
]

-- is it a page of the levels from 1 to this one?
abbrev pub is_up_to : (ℕ → ℕ) → ℕ → ℕ → ℕ → Bool
is_up_to pages below l i = nat_lt 0 l && nat_le l below && nat_lt i (pages l)

-- the next level
pub levels_more : (below : ℕ) (pages : ℕ → ℕ) (new mid held : ℕ → ℕ → List ℕ) (zeros : List ℕ) → ((l i : ℕ) → new l i ≡ (if nat_eq (below + 1) l && nat_lt i (pages (below + 1)) then held l i else mid l i))
    → ((l i : ℕ) → mid l i ≡ (if is_up_to pages below l i then held l i else zeros)) → (l i : ℕ) → new l i ≡ (if is_up_to pages (below + 1) l i then held l i else zeros)
levels_more below pages new mid held zeros put before l i = elim (cases_eq (below + 1) l) [
  | inl is ↦
      let some : 0 < l = omega arith in
      let within : l ≤ below + 1 = omega arith in
      let above : below < l = omega arith in
      let count : pages (below + 1) ≡ pages l = ap pages is in
      elim (cases_lt i (pages l)) [
        | inl low ↦
            let first : new l i ≡ held l i = put l i ∙ rw (eq-eqb (below + 1) l is, count, lt-ltb i (pages l) low) refl in
            rw (lt-ltb 0 l some, le-leb l (below + 1) within, lt-ltb i (pages l) low) first
        | inr high ↦
            let first : new l i ≡ mid l i = put l i ∙ rw (eq-eqb (below + 1) l is, count, le-ltb i (pages l) high) refl in
            let after : mid l i ≡ zeros = before l i ∙ rw (lt-ltb 0 l some, lt-leb l below above) refl in
            rw (lt-ltb 0 l some, le-leb l (below + 1) within, le-ltb i (pages l) high) (first ∙ after)
      ]
  | inr ne ↦
      let first : new l i ≡ mid l i = put l i ∙ rw (ne_eqb (below + 1) l ne) refl in
      elim (cases_lt below l) [
        | inl above ↦
            let past : below + 1 < l = omega (arith, ne) in
            let some : 0 < l = omega arith in
            let after : mid l i ≡ zeros = before l i ∙ rw (lt-ltb 0 l some, lt-leb l below above) refl in
            rw (lt-ltb 0 l some, lt-leb l (below + 1) past) (first ∙ after)
        | inr within ↦
            let more : l ≤ below + 1 = omega arith in
            let after : mid l i ≡ (if nat_lt 0 l && true && nat_lt i (pages l) then held l i else zeros) = before l i ∙ rw (le-leb l below within) refl in
            rw (le-leb l (below + 1) more) (first ∙ after)
      ]
]

tree_is : (bytes salt stored : List ℕ) (pages : ℕ → ℕ → List ℕ) → IsStored stored bytes salt
    → ((l i : ℕ) → pages l i ≡ (if is_tree_page (block_count (length bytes)) l i then stored_page (block_count (length bytes)) stored l i else replicate 4096 0))
    → (l i : ℕ) → pages l i ≡ (if is_tree_page (block_count (length bytes)) l i then page bytes salt l i else replicate 4096 0)
tree_is bytes salt stored pages lies is l i = is l i ∙ by_test (is_tree_page (block_count (length bytes)) l i) refl where
  by_test : (b : Bool) → is_tree_page (block_count (length bytes)) l i ≡ b → (if b then stored_page (block_count (length bytes)) stored l i else replicate 4096 0) ≡ (if b then page bytes salt l i else replicate 4096 0)
  by_test false e = refl
  by_test true e =
      let count = block_count (length bytes) in
      let two = and_parts (nat_lt 0 l && nat_le l (top count)) (nat_lt i (pages_at count l)) e in
      let one = and_parts (nat_lt 0 l) (nat_le l (top count)) two.0 in
      lies l i (ltb-true 0 l one.0) (leb-true l (top count) one.1) (ltb-true i (pages_at count l) two.1)

-- the file of these parts
pub verity_is : (bytes salt stored : List ℕ) (f : FileData) → f.bytes ≡ bytes
    → f.descriptor ≡ descriptor_bytes (record { size = length bytes; root = record { 0 = root bytes salt }; salt = salt }) → IsStored stored bytes salt
    → ((l i : ℕ) → page_in f.pages l i ≡ (if is_tree_page (block_count (length bytes)) l i then stored_page (block_count (length bytes)) stored l i else replicate 4096 0))
    → file_of f ≡ verity_file bytes salt
unfolding verity_file
verity_is bytes salt stored f same descriptor lies pages =
    let tree : page_in f.pages ≡ (λ l i. if is_tree_page (block_count (length bytes)) l i then page bytes salt l i else replicate 4096 0) =
    fun_ext (λ l. fun_ext (λ i. tree_is bytes salt stored (page_in f.pages) lies pages l i)) in
    rw (same, descriptor, tree) refl

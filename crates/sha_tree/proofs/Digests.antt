-- The tree over the digests of blocks.
use Rattle.std.proofs.Common.{◌≡◌, ℕ, zero, suc, ◌+◌, ◌-◌, ◌*◌, ◌<◌, ◌≤◌, ◌∙◌, ◌⊎◌, inl, inr, List, [], ◌∷◌, ◌++◌, length, replicate, min, refl, ap, sym, arith}
use Rattle.std.specs.Prelude.{slice_index_or}
use Rattle.std.specs.List.{range_with_len, flat_map}
use Rattle.std.proofs.lemmas.List.{get_or_default}
use Rattle.std.proofs.lemmas.List.FromFn.{length-range_with_len}
use Rattle.sha2.specs.Sha256.{sha256}
use Rattle.mg_base.specs.declared.values.Digest.{Digest}
use Rattle.sha_tree.specs.Tree.{padded_salt, page_hash, pages_at, children, page, block_count, root, top, AreLeaves}
use Rattle.sha_tree.specs.Digests.{no_digest, leaf, slots_of, digest_at, tree_page, tree_root}
use Rattle.sha_tree.proofs.Levels.{pages_at-top}
use Rattle.sha_tree.proofs.LeafPages.{page-pieces}
use Rattle.sha_tree.proofs.Pages.{root-some}

-- a block's digest
pub leaf_digest : (salt : List ℕ) (leaves : List Digest) (level n i : ℕ) (d : Digest) → level ≡ 0 → i < length leaves →
    (slice_index_or leaves i d).0 ≡ digest_at salt (leaf leaves) n level i
unfolding digest_at
leaf_digest salt leaves level n i d z within =
    ap (λ (x : Digest). x.0) (get_or_default leaves i d no_digest within) ∙ ap (λ (l : ℕ). digest_at salt (leaf leaves) n l i) (sym z)

-- the digest of a page from its slots
pub hash-slots : (salt : List ℕ) (f : ℕ → List ℕ) (n level i m : ℕ) (digest : List ℕ) → 0 < level → m ≡ min 128 (pages_at n (level - 1) - 128 * i) →
    digest ≡ sha256 (padded_salt salt ++ (flat_map (digest_at salt f n (level - 1)) (range_with_len (128 * i) m) ++ replicate (32 * (128 - m)) 0)) →
    digest ≡ digest_at salt f n level i
unfolding digest_at page_hash children
hash-slots salt f n zero i m digest some count is = absurd (omega arith)
hash-slots salt f n (suc level) i m digest some count is =
    let below : suc level - 1 ≡ level = omega arith in
    let all : ℕ = min 128 (pages_at n level - 128 * i) in
    let few : m ≡ all = rw below at count in
    let len = length-range_with_len (128 * i) all in
    let here = rw below at is in
    here
    ∙ ap (λ (k : ℕ). sha256 (padded_salt salt ++ (flat_map (digest_at salt f n level) (range_with_len (128 * i) k) ++ replicate {A = ℕ} (32 * (128 - k)) 0))) few
    ∙ ap (λ (k : ℕ). sha256 (padded_salt salt ++ (flat_map (digest_at salt f n level) (range_with_len (128 * i) all) ++ replicate {A = ℕ} (32 * (128 - k)) 0))) (sym len)

-- pieces that agree
flat-same : (f g : ℕ → List ℕ) (a m : ℕ) → ((j : ℕ) → a ≤ j → j < a + m → f j ≡ g j) → flat_map f (range_with_len a m) ≡ flat_map g (range_with_len a m)
flat-same f g a zero h = refl
flat-same f g a (suc m) h =
    let rest = flat-same f g (a + 1) m (λ j lo hi. h j (omega arith) (omega arith)) in
    rw (h a (omega arith) (omega arith), rest) refl

-- where the digests below are those of the content's pages, the slots are the content's page
slots-same : (bytes salt : List ℕ) (leaves : List Digest) (level i : ℕ) → AreLeaves bytes salt leaves →
    ((j : ℕ) → j < pages_at (length leaves) level → digest_at salt (leaf leaves) (length leaves) level j ≡ page_hash salt (page bytes salt level j)) →
    slots_of (digest_at salt (leaf leaves) (length leaves) level) (children (pages_at (length leaves) level) i) ≡ page bytes salt (suc level) i
unfolding children
slots-same bytes salt leaves level i h below =
    let n : ℕ = length leaves in
    let m : ℕ = min 128 (pages_at n level - 128 * i) in
    let f : ℕ → List ℕ = digest_at salt (leaf leaves) n level in
    let g : ℕ → List ℕ = λ j. page_hash salt (page bytes salt level j) in
    let len = length-range_with_len (128 * i) m in
    let same = flat-same f g (128 * i) m (λ j lo hi. below j (omega (arith, hi))) in
    let few : min 128 (pages_at (block_count (length bytes)) level - 128 * i) ≡ m = ap (λ (c : ℕ). min 128 (pages_at c level - 128 * i)) (sym h.count) in
    ap (λ (k : ℕ). flat_map f (range_with_len (128 * i) m) ++ replicate {A = ℕ} (32 * (128 - k)) 0) len
    ∙ ap (λ (t : List ℕ). t ++ replicate {A = ℕ} (32 * (128 - m)) 0) same
    ∙ sym (page-pieces bytes salt level i m few)

-- each digest is that of the content's page
pub digest-page : (bytes salt : List ℕ) (leaves : List Digest) → AreLeaves bytes salt leaves → (level i : ℕ) → i < pages_at (length leaves) level →
    digest_at salt (leaf leaves) (length leaves) level i ≡ page_hash salt (page bytes salt level i)
unfolding digest_at page pages_at
digest-page bytes salt leaves h zero i lt = h.each i no_digest lt
digest-page bytes salt leaves h (suc level) i lt =
    ap (page_hash salt) (slots-same bytes salt leaves level i h (λ j there. digest-page bytes salt leaves h level j there))

pub slots-page : (bytes salt : List ℕ) (leaves : List Digest) (level i : ℕ) → AreLeaves bytes salt leaves → 0 < level →
    tree_page salt (leaf leaves) (length leaves) level i ≡ page bytes salt level i
unfolding tree_page
slots-page bytes salt leaves zero i h some = absurd (omega arith)
slots-page bytes salt leaves (suc level) i h some = slots-same bytes salt leaves level i h (λ j there. digest-page bytes salt leaves h level j there)

-- the root over no digests, and over some
pub none-root : (salt : List ℕ) (f : ℕ → List ℕ) (n : ℕ) → n ≡ 0 → tree_root salt f n ≡ replicate 32 0
unfolding tree_root
none-root salt f zero none = refl
none-root salt f (suc n) none = absurd (omega arith)

pub some-root : (salt : List ℕ) (f : ℕ → List ℕ) (n : ℕ) → 0 < n → tree_root salt f n ≡ digest_at salt f n (top n) 0
unfolding tree_root
some-root salt f zero some = absurd (omega arith)
some-root salt f (suc n) some = refl

cases_zero : (n : ℕ) → (n ≡ 0) ⊎ (0 < n)
cases_zero zero = inl refl
cases_zero (suc n) = inr (omega arith)

no-bytes : (bytes salt : List ℕ) → length bytes ≡ 0 → root bytes salt ≡ replicate 32 0
unfolding root
no-bytes [] salt none = refl
no-bytes (b ∷ bs) salt none = absurd (omega arith)

-- the root over the digests of a content's blocks is the content's
pub same-root : (bytes salt : List ℕ) (leaves : List Digest) → AreLeaves bytes salt leaves → length leaves ≤ 1048576 →
    tree_root salt (leaf leaves) (length leaves) ≡ root bytes salt
same-root bytes salt leaves h few = elim (cases_zero (length leaves)) [
  | inl none ↦
      let count = h.count in
      none-root salt (leaf leaves) (length leaves) none ∙ sym (no-bytes bytes salt (omega (arith, none, count)))
  | inr some ↦
      let count = h.count in
      let one = pages_at-top (length leaves) some few in
      some-root salt (leaf leaves) (length leaves) some
      ∙ digest-page bytes salt leaves h (top (length leaves)) 0 (omega (arith, one))
      ∙ ap (λ (c : ℕ). page_hash salt (page bytes salt (top c) 0)) count
      ∙ sym (root-some bytes salt (omega (arith, some, count)))
]

-- Pages over the digests of blocks.
use Rattle.std.proofs.Common.{◌≡◌, ℕ, zero, suc, ◌+◌, ◌-◌, ◌*◌, ◌<◌, ◌≤◌, ◌∙◌, List, [], ◌∷◌, ◌++◌, length, replicate, min, refl, ap, sym, subst, arith, append_assoc, append-nil}
use Rattle.std.specs.List.{range_with_len, flat_map}
use Rattle.std.proofs.lemmas.List.{replicate-append-replicate}
use Rattle.std.proofs.lemmas.List.Concat.{flat_map-append}
use Rattle.sha2.specs.Hashers.{Holds256}
use Rattle.sha2.specs.declared.Sha256.{Sha256}
use Rattle.sha_tree.specs.Tree.{page_hash, pages_at, children, page, block_count}
use Rattle.sha_tree.proofs.Levels.{range_with_len-more}
use Rattle.sha_tree.proofs.Pages.{length-pieces, length-page_hash}

-- a page's first child is there
pub first_child : (count level i : ℕ) → 0 < level → i < pages_at count level → 128 * i < pages_at count (level - 1)
unfolding pages_at
first_child count zero i some within = absurd (omega arith)
first_child count (suc level) i some within = let same : suc level - 1 ≡ level = omega arith in rw same (omega arith)

-- one more piece
pub flat-more : (f : ℕ → List ℕ) (a n j : ℕ) → a + n ≡ j → flat_map f (range_with_len a (n + 1)) ≡ flat_map f (range_with_len a n) ++ f j
flat-more f a n j h =
    rw (range_with_len-more a n j h, flat_map-append f (range_with_len a n) (j ∷ []), append-nil (f j)) refl

-- one more child was hashed
pub child_more : (h : Sha256) (salt : List ℕ) (f : ℕ → List ℕ) (a n : ℕ) (child : List ℕ) → child ≡ f (a + n) →
    Holds256 h ((salt ++ flat_map f (range_with_len a n)) ++ child) → Holds256 h (salt ++ flat_map f (range_with_len a (n + 1)))
child_more h salt f a n child is holds =
    subst (λ (m : List ℕ). Holds256 h m)
    (append_assoc salt (flat_map f (range_with_len a n)) child ∙ ap (λ (t : List ℕ). salt ++ t) (ap (λ (t : List ℕ). flat_map f (range_with_len a n) ++ t) is ∙ sym (flat-more f a n (a + n) refl)))
    holds

-- no zeros yet
pub zeros_none : (h : Sha256) (salt front : List ℕ) (n k : ℕ) → k ≡ n → Holds256 h (salt ++ front) → Holds256 h (salt ++ (front ++ replicate (32 * (k - n)) 0))
zeros_none h salt front n k is holds =
    let none : 32 * (k - n) ≡ 0 = omega arith in
    subst (λ (m : List ℕ). Holds256 h (salt ++ m)) (sym (append-nil front) ∙ ap (λ (c : ℕ). front ++ replicate {A = ℕ} c 0) (sym none)) holds

-- 32 zeros more
pub zeros_more : (h : Sha256) (salt front : List ℕ) (n k : ℕ) → n ≤ k → Holds256 h ((salt ++ (front ++ replicate (32 * (k - n)) 0)) ++ replicate 32 0) → Holds256 h (salt ++ (front ++ replicate (32 * (k + 1 - n)) 0))
zeros_more h salt front n k low holds =
    let more : 32 * (k - n) + 32 ≡ 32 * (k + 1 - n) = omega arith in
    subst (λ (m : List ℕ). Holds256 h m)
    (append_assoc salt (front ++ replicate (32 * (k - n)) 0) (replicate 32 0)
    ∙ ap (λ (t : List ℕ). salt ++ t) (append_assoc front (replicate (32 * (k - n)) 0) (replicate 32 0)
    ∙ ap (λ (t : List ℕ). front ++ t) (replicate-append-replicate {A = ℕ} (32 * (k - n)) 32 0 ∙ ap (λ (c : ℕ). replicate {A = ℕ} c 0) more)))
    holds

-- a page in pieces
pub page-pieces : (bytes salt : List ℕ) (below i n : ℕ) → min 128 (pages_at (block_count (length bytes)) below - 128 * i) ≡ n →
    page bytes salt (suc below) i ≡ flat_map (λ j. page_hash salt (page bytes salt below j)) (range_with_len (128 * i) n) ++ replicate (32 * (128 - n)) 0
unfolding page children
page-pieces bytes salt below i n is =
    let f : ℕ → List ℕ = λ j. page_hash salt (page bytes salt below j) in
    let len = length-pieces f (128 * i) n (λ j. length-page_hash salt (page bytes salt below j)) in
    let room : 4096 - length (flat_map f (range_with_len (128 * i) n)) ≡ 32 * (128 - n) = omega arith in
    rw is (ap (λ (c : ℕ). flat_map f (range_with_len (128 * i) n) ++ replicate {A = ℕ} c 0) room)

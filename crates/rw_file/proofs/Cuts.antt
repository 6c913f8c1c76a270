-- New sizes: the blocks and the digests.
use Rattle.std.proofs.Common.{◌≡◌, ℕ, ◌+◌, ◌-◌, ◌*◌, ◌/◌, ◌%◌, ◌<◌, ◌≤◌, ◌∙◌, ◌⊎◌, List, ◌++◌, length, take, replicate, set, get_or, Some, None, ap, sym, arith, ⊎_elim}
use Rattle.std.specs.Prelude.{◌≢◌}
use Rattle.std.proofs.lemmas.List.{get_or-take, get_or_append_left, get_or_past, length-take, length-append, length-replicate}
use Rattle.std.proofs.Math.Seq.{get_or-append_right}
use Rattle.mg_base.specs.declared.values.Digest.{Digest}
use Rattle.host_traits.specs.Held.{resized}
use Rattle.sha_tree.specs.Tree.{block, block_count}
use Rattle.leaf_tree.specs.Leaves.{no_digest, zeros_to}
use Rattle.rw_file.specs.Contents.{leaf_of, digests_of}
use Rattle.rw_file.specs.Steps.{FitsLast}
use Rattle.rw_file.proofs.Bytes.{lt_or_le, is_block, same_block, get_or-block, length-block, zeros-are, length-resized, resized-before, resized-after, are_digests, same_leaf}
use Rattle.rw_file.proofs.Splicing.{length-zeros_to, get_or-zeros_to, set_digests}

-- a page of the block, with zeros from the cut on
pub cut_block : (c : List ℕ) (to : ℕ) (p q : List ℕ) → p ≡ block c (to / 4096) → q ≡ take (to % 4096) p ++ replicate (4096 - to % 4096) 0 →
    q ≡ block (resized c to) (to / 4096)
cut_block c to p q is made =
    let i : ℕ = to / 4096 in
    let o : ℕ = to % 4096 in
    let place : 4096 * i + o ≡ to = omega arith in
    let long : length p ≡ 4096 = ap length is ∙ length-block c i in
    let front : length (take o p) ≡ o = omega (arith, length-take o p, long) in
    made ∙ is_block (take o p ++ replicate (4096 - o) 0) (resized c to) i (omega (arith, length-append (take o p) (replicate (4096 - o) 0), front, length-replicate {A = ℕ} (4096 - o) 0))
    (λ j lt. ⊎_elim
    (λ low. get_or_append_left (take o p) (replicate (4096 - o) 0) 0 j (omega (arith, front, low)) ∙ get_or-take o p j 0 low ∙ ap (λ (x : List ℕ). get_or x j 0) is ∙ get_or-block c i j lt
    ∙ sym (resized-before c to (4096 * i + j) (omega (arith, low, place))))
    (λ high. get_or-append_right (take o p) (replicate (4096 - o) 0) j 0 (omega (arith, front, high)) ∙ zeros-are (4096 - o) (j - length (take o p))
    ∙ sym (resized-after c to (4096 * i + j) (omega (arith, high, place))))
    (lt_or_le j o))

-- the blocks that end within the new size stay
whole_stays : (c : List ℕ) (to j : ℕ) → 4096 * j + 4096 ≤ to → leaf_of c j ≡ leaf_of (resized c to) j
whole_stays c to j le =
    same_leaf c (resized c to) j (same_block c (resized c to) j (λ k lt. sym (resized-before c to (4096 * j + k) (omega (arith, lt, le)))))

-- all blocks stay where the file grows
grown_stays : (c : List ℕ) (to j : ℕ) → length c ≤ to → leaf_of c j ≡ leaf_of (resized c to) j
grown_stays c to j le = same_leaf c (resized c to) j (same_block c (resized c to) j (λ k lt. ⊎_elim
    (λ low. sym (resized-before c to (4096 * j + k) low))
    (λ high. get_or_past c (4096 * j + k) 0 (omega (arith, high, le)) ∙ sym (resized-after c to (4096 * j + k) high))
    (lt_or_le (4096 * j + k) to)))

pub last_none : (c : List ℕ) (to : ℕ) → (length c ≤ to) ⊎ (to % 4096 ≡ 0) → FitsLast to None c
last_none c to so =
    are_digests (zeros_to (block_count to) (digests_of c)) (resized c to) no_digest (length-zeros_to c (block_count to) ∙ ap block_count (sym (length-resized c to)))
    (λ j lt. let low : j < block_count to = omega (arith, lt, length-zeros_to c (block_count to)) in
    get_or-zeros_to c (block_count to) j no_digest low ∙ ⊎_elim (λ grows. grown_stays c to j grows) (λ aligned. whole_stays c to j (omega (arith, low, aligned))) so)

pub last_some : (c : List ℕ) (to : ℕ) (d : Digest) → (to % 4096 ≢ 0) → d ≡ leaf_of (resized c to) (to / 4096) → FitsLast to (Some d) c
last_some c to d inner is =
    let ds : List Digest = zeros_to (block_count to) (digests_of c) in
    let last : block_count to - 1 ≡ to / 4096 = omega (arith, inner) in
    let count : length ds ≡ block_count (length (resized c to)) = length-zeros_to c (block_count to) ∙ ap block_count (sym (length-resized c to)) in
    let inside : to / 4096 < length ds = omega (arith, length-zeros_to c (block_count to), inner) in
    ap (λ (k : ℕ). set ds k d) last ∙ set_digests ds (resized c to) (to / 4096) d count inside is
    (λ j lt other. let low : j < block_count to = omega (arith, lt, length-zeros_to c (block_count to)) in
    get_or-zeros_to c (block_count to) j no_digest low ∙ whole_stays c to j (below j low other))
  where
    below : (j : ℕ) → j < block_count to → (j ≡ to / 4096 → ⊥) → 4096 * j + 4096 ≤ to
    below j low other = ⊎_elim (λ before. omega (arith, before)) (λ from. absurd (other (omega (arith, from, low, inner)))) (lt_or_le j (to / 4096))

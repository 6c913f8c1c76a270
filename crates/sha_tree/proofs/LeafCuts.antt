-- The digests of blocks, from a cut.
use Rattle.std.proofs.Common.{◌≡◌, ℕ, zero, suc, ◌+◌, ◌-◌, ◌*◌, ◌<◌, ◌≤◌, ◌∙◌, List, [], ◌∷◌, ◌++◌, length, take, drop, min, replicate, get_or, refl, ap, sym, arith, append_assoc, append-nil, length-append}
use Rattle.std.specs.Prelude.{All}
use Rattle.std.specs.List.{flat_map, range_with_len}
use Rattle.std.proofs.Common.{◌⊎◌, inl, inr}
use Rattle.std.proofs.lemmas.Bool.{cases_lt}
use Rattle.std.proofs.lemmas.List.{get_or_append_left, take_all, get_or-map, length-map, replicate-append-replicate}
use Rattle.std.proofs.Math.Seq.{drop-append-add, take-append_seam, get_or-append_seam}
use Rattle.mg_base.specs.declared.values.Digest.{Digest}
use Rattle.sha_tree.specs.Tree.{page_hash, page, block, block_count, padded, pages_at, AreLeaves, level_bytes, levels_down, stored_tree, top}
use Rattle.sha_tree.specs.Fed.{IsCut, IsFed}
use Rattle.sha_tree.proofs.LeafPages.{flat-more, page-pieces}

abbrev Whole : List (List ℕ) → Type 0
Whole pages = All (λ p. length p ≡ 4096) pages

abbrev joined : List (List ℕ) → List ℕ
joined pages = flat_map (λ (p : List ℕ). p) pages

Whole-head : (p : List ℕ) (ps : List (List ℕ)) → Whole (p ∷ ps) → length p ≡ 4096
Whole-head p ps h = h 0 [] (omega arith)

Whole-tail : (p : List ℕ) (ps : List (List ℕ)) → Whole (p ∷ ps) → Whole ps
Whole-tail p ps h = λ k d lt. h (suc k) d (omega arith)

length-joined : (pages : List (List ℕ)) → Whole pages → length (joined pages) ≡ 4096 * length pages
length-joined [] h = refl
length-joined (p ∷ ps) h =
    omega (arith, length-append p (joined ps), Whole-head p ps h, length-joined ps (Whole-tail p ps h))

-- what stands past the first page
drop-page : (p : List ℕ) (rest : List ℕ) (i : ℕ) → length p ≡ 4096 → drop (4096 * suc i) (p ++ rest) ≡ drop (4096 * i) rest
drop-page p rest i h =
    let far : 4096 * suc i ≡ length p + 4096 * i = omega (arith, h) in
    rw far (drop-append-add p rest (4096 * i))

block-joined : (pages : List (List ℕ)) (rest : List ℕ) (i : ℕ) (d : List ℕ) → Whole pages → i < length pages → block (joined pages ++ rest) i ≡ get_or pages i d
unfolding block
block-joined [] rest i d h lt = absurd (omega arith)
block-joined (p ∷ ps) rest zero d h lt =
    let long = Whole-head p ps h in
    let front : take 4096 ((p ++ joined ps) ++ rest) ≡ p = rw append_assoc (rw long at (take-append_seam p (joined ps ++ rest))) in
    rw (front, long) (append-nil p)
block-joined (p ∷ ps) rest (suc i) d h lt =
    rw (append_assoc, drop-page p (joined ps ++ rest) i (Whole-head p ps h)) (block-joined ps rest i d (Whole-tail p ps h) (omega arith))

-- the digests of whole pages alone are those of the blocks
pub AreLeaves-whole : (salt : List ℕ) (leaves : List Digest) (bytes : List ℕ) → IsCut salt leaves [] bytes → AreLeaves bytes salt leaves
AreLeaves-whole salt leaves bytes h =
    let count : length leaves ≡ length h.pages = sym (length-map leaves (λ (x : Digest). x.0)) ∙ ap length h.hashes ∙ length-map h.pages (page_hash salt) in
    let size : length bytes ≡ 4096 * length h.pages = sym (ap length h.joined) ∙ ap length (append-nil (joined h.pages)) ∙ length-joined h.pages h.whole in
    record {
      count = omega arith;
      each = λ i d lt.
          sym (get_or-map (λ (x : Digest). x.0) leaves i d [] lt) ∙ ap (λ (t : List (List ℕ)). get_or t i []) h.hashes
          ∙ get_or-map (page_hash salt) h.pages i [] [] (omega arith)
          ∙ ap (page_hash salt) (sym (block-joined h.pages [] i [] h.whole (omega arith)))
          ∙ ap (λ (b : List ℕ). page_hash salt (block b i)) h.joined;
    }

block-last : (pages : List (List ℕ)) (rest : List ℕ) → Whole pages → length rest ≤ 4096 → block (joined pages ++ rest) (length pages) ≡ padded rest
unfolding block
block-last [] rest h short = rw (take_all 4096 rest short) refl
block-last (p ∷ ps) rest h short =
    rw (append_assoc, drop-page p (joined ps ++ rest) (length ps) (Whole-head p ps h)) (block-last ps rest (Whole-tail p ps h) short)

-- the digest of the last block stands at the end
leaf-at : (salt : List ℕ) (leaves : List Digest) (rest bytes : List ℕ) (d e : Digest) (i : ℕ) → (h : IsCut salt leaves rest bytes) →
    length leaves ≡ length h.pages → d.0 ≡ page_hash salt (padded rest) → (i < length leaves) ⊎ (length leaves ≤ i) → i < length leaves + 1 →
    (get_or (leaves ++ d ∷ []) i e).0 ≡ page_hash salt (block bytes i)
leaf-at salt leaves rest bytes d e i h count hash (inl lt) _ =
    ap (λ (x : Digest). x.0) (get_or_append_left leaves (d ∷ []) e i lt)
    ∙ sym (get_or-map (λ (x : Digest). x.0) leaves i e [] lt) ∙ ap (λ (t : List (List ℕ)). get_or t i []) h.hashes
    ∙ get_or-map (page_hash salt) h.pages i [] [] (omega arith)
    ∙ ap (page_hash salt) (sym (block-joined h.pages rest i [] h.whole (omega arith)))
    ∙ ap (λ (b : List ℕ). page_hash salt (block b i)) h.joined
leaf-at salt leaves rest bytes d e i h count hash (inr ge) lt =
    let at : i ≡ length leaves = omega arith in
    let last : length h.pages ≡ i = omega arith in
    let short = h.short in
    ap (λ (k : ℕ). (get_or (leaves ++ d ∷ []) k e).0) at
    ∙ ap (λ (x : Digest). x.0) (get_or-append_seam leaves d [] e)
    ∙ hash ∙ ap (page_hash salt) (sym (block-last h.pages rest h.whole (omega arith)))
    ∙ ap (λ (k : ℕ). page_hash salt (block (joined h.pages ++ rest) k)) last
    ∙ ap (λ (b : List ℕ). page_hash salt (block b i)) h.joined

-- the last block, padded, makes a whole page of a rest
pub AreLeaves-rest : (salt : List ℕ) (leaves : List Digest) (rest bytes page : List ℕ) (d : Digest) → IsCut salt leaves rest bytes → 0 < length rest →
    page ≡ padded rest → d.0 ≡ page_hash salt page → AreLeaves bytes salt (leaves ++ d ∷ [])
AreLeaves-rest salt leaves rest bytes page d h some is hash =
    let count : length leaves ≡ length h.pages = sym (length-map leaves (λ (x : Digest). x.0)) ∙ ap length h.hashes ∙ length-map h.pages (page_hash salt) in
    let size : length bytes ≡ 4096 * length h.pages + length rest = sym (ap length h.joined) ∙ length-append (joined h.pages) rest ∙ ap (λ (n : ℕ). n + length rest) (length-joined h.pages h.whole) in
    let short = h.short in
    let more : length (leaves ++ d ∷ []) ≡ length leaves + 1 = length-append leaves (d ∷ []) in
    record {
      count = omega arith;
      each = λ i e lt. leaf-at salt leaves rest bytes d e i h count (hash ∙ ap (page_hash salt) is) (cases_lt i (length leaves)) (omega arith);
    }

-- one more child was put
pub child_put : (before old new child : List ℕ) (f : ℕ → List ℕ) (a n : ℕ) → child ≡ f (a + n) → new ≡ old ++ child → old ≡ before ++ flat_map f (range_with_len a n) → new ≡ before ++ flat_map f (range_with_len a (n + 1))
child_put before old new child f a n is put h =
    put ∙ ap (λ (t : List ℕ). t ++ child) h ∙ append_assoc before (flat_map f (range_with_len a n)) child
    ∙ ap (λ (t : List ℕ). before ++ t) (ap (λ (t : List ℕ). flat_map f (range_with_len a n) ++ t) is ∙ sym (flat-more f a n (a + n) refl))

pub zeros_put : (before old new front : List ℕ) (n k : ℕ) → n ≤ k → new ≡ old ++ replicate 32 0 → old ≡ before ++ (front ++ replicate (32 * (k - n)) 0) → new ≡ before ++ (front ++ replicate (32 * (k + 1 - n)) 0)
zeros_put before old new front n k low put h =
    let more : 32 * (k - n) + 32 ≡ 32 * (k + 1 - n) = omega arith in
    put ∙ ap (λ (t : List ℕ). t ++ replicate 32 0) h ∙ append_assoc before (front ++ replicate (32 * (k - n)) 0) (replicate 32 0)
    ∙ ap (λ (t : List ℕ). before ++ t) (append_assoc front (replicate (32 * (k - n)) 0) (replicate 32 0)
    ∙ ap (λ (t : List ℕ). front ++ t) (replicate-append-replicate {A = ℕ} (32 * (k - n)) 32 0 ∙ ap (λ (c : ℕ). replicate {A = ℕ} c 0) more))

pub page_put : (bytes salt : List ℕ) (leaves : List Digest) (level i n : ℕ) (before new : List ℕ) → AreLeaves bytes salt leaves → 0 < level →
    n ≡ min 128 (pages_at (length leaves) (level - 1) - 128 * i) →
    new ≡ before ++ (flat_map (λ j. page_hash salt (page bytes salt (level - 1) j)) (range_with_len (128 * i) n) ++ replicate (32 * (128 - n)) 0) →
    new ≡ before ++ page bytes salt level i
page_put bytes salt leaves level i n before new h some count is =
    let up : suc (level - 1) ≡ level = omega arith in
    let few : min 128 (pages_at (block_count (length bytes)) (level - 1) - 128 * i) ≡ n =
    ap (λ (c : ℕ). min 128 (pages_at c (level - 1) - 128 * i)) (sym h.count) ∙ sym count in
    is ∙ ap (λ (p : List ℕ). before ++ p) (sym (page-pieces bytes salt (level - 1) i n few) ∙ ap (λ (l : ℕ). page bytes salt l i) up)

-- one more page was put
pub level_put : (bytes salt before old new : List ℕ) (level n : ℕ) → new ≡ old ++ page bytes salt level n → old ≡ before ++ flat_map (page bytes salt level) (range_with_len 0 n) →
    new ≡ before ++ flat_map (page bytes salt level) (range_with_len 0 (n + 1))
level_put bytes salt before old new level n put h =
    let same : n ≡ 0 + n = omega arith in
    child_put before old new (page bytes salt level n) (page bytes salt level) 0 n (ap (page bytes salt level) same) put h

-- all pages of a level were put
pub level_done : (bytes salt : List ℕ) (leaves : List Digest) (before new : List ℕ) (level count geometry pages : ℕ) → AreLeaves bytes salt leaves → geometry ≡ length leaves →
    pages ≡ pages_at geometry level → count ≡ pages → new ≡ before ++ flat_map (page bytes salt level) (range_with_len 0 count) → new ≡ before ++ level_bytes bytes salt level
unfolding level_bytes
level_done bytes salt leaves before new level count geometry pages h same is end done =
    done ∙ ap (λ (k : ℕ). before ++ flat_map (page bytes salt level) (range_with_len 0 k)) (end ∙ is ∙ ap (λ (g : ℕ). pages_at g level) (same ∙ h.count))

pub levels_none : (bytes salt before : List ℕ) (level : ℕ) → level ≡ 0 → before ≡ before ++ levels_down bytes salt level
unfolding levels_down
levels_none bytes salt before level z = sym (ap (λ (l : ℕ). before ++ levels_down bytes salt l) z ∙ append-nil before)

pub levels_more : (bytes salt before mid new : List ℕ) (level : ℕ) → 0 < level → mid ≡ before ++ level_bytes bytes salt level → new ≡ mid ++ levels_down bytes salt (level - 1) →
    new ≡ before ++ levels_down bytes salt level
unfolding levels_down
levels_more bytes salt before mid new zero some put h = absurd (omega arith)
levels_more bytes salt before mid new (suc level) some put h =
    let below : suc level - 1 ≡ level = omega arith in
    h ∙ ap (λ (t : List ℕ). t ++ levels_down bytes salt (suc level - 1)) put ∙ append_assoc before (level_bytes bytes salt (suc level)) (levels_down bytes salt (suc level - 1))
    ∙ ap (λ (l : ℕ). before ++ (level_bytes bytes salt (suc level) ++ levels_down bytes salt l)) below

-- the stored tree was put
pub stored_put : (bytes salt given : List ℕ) (leaves : List Digest) (geometry level : ℕ) (before new : List ℕ) → AreLeaves bytes given leaves → given ≡ salt → geometry ≡ length leaves → level ≡ top geometry →
    before ≡ [] → new ≡ before ++ levels_down bytes given level → new ≡ stored_tree bytes salt
unfolding stored_tree
stored_put bytes salt given leaves geometry level before new h named same is none put =
    put ∙ ap (λ (t : List ℕ). t ++ levels_down bytes given level) none ∙ ap (λ (s : List ℕ). levels_down bytes s level) named
    ∙ ap (λ (l : ℕ). levels_down bytes salt l) (is ∙ ap top (same ∙ h.count))

-- a new builder was fed nothing
pub IsFed-none : (salt : List ℕ) → IsFed (record { salt = salt; size = 0; leaves = []; rest = [] }) []
IsFed-none salt = record { size = refl; cut = record { pages = []; whole = λ k d lt. absurd (omega arith); hashes = refl; joined = refl; short = omega arith } }

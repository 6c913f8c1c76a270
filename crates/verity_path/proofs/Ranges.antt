-- A read of a range, block by block.
use Rattle.std.proofs.Common.{◌≡◌, ℕ, ◌+◌, ◌-◌, ◌*◌, ◌/◌, ◌%◌, ◌<◌, ◌≤◌, min, max, List, [], ◌++◌, zero, append_assoc, append-nil, length, take, drop, get_or, ap, sym, suc, ◌∙◌, refl, arith, ⊎_elim, Ok, Err}
use Rattle.std.specs.Prelude.{slice_index, slice_range, ◌⊎◌}
use Rattle.std.proofs.lemmas.List.{get_or-take, get_or-drop, get_or_append_left, length-take, length-drop, length-append, ext_get_or}
use Rattle.std.proofs.Math.Nat.{suc-mul, mul-le-mul_right}
use Rattle.std.proofs.Math.Seq.{get_or-append_right}
use Rattle.host_traits.specs.declared.calls.Call.{Call}
use Rattle.host_traits.specs.Told.{Told, Exchanges}
use Rattle.host_traits.specs.Did.{Did}
use Rattle.host_traits.proofs.Doing.{did_none, did_so, did_then}
use Rattle.sha_tree.specs.declared.measure.Measure.{Measure}
use Rattle.sha_tree.specs.Tree.{block as content_block, page_hash, top}
use Rattle.sha_tree.specs.Measured.{HasTree}
use Rattle.sha_tree.specs.Path.{IsDerived, NoClash}
use Rattle.sha_tree.proofs.Sound.{derived_more}
use Rattle.verity_path.specs.States.{Met}
use Rattle.verity_path.specs.Calls.{IsOnPath}
use Rattle.verity_path.specs.Order.{asked_in, blocks_calls, walk_calls}
use Rattle.verity_path.specs.Pieces.{IsPiece, IsHashed}
use Rattle.verity_path.specs.Walk.{WalkOutcome}
use Rattle.verity_path.specs.Range.{end_of, touched, most_answers, read_calls, IsForRead, IsCut, RangeOutcome, RangeSoFar}
use Rattle.verity_path.specs.declared.walk.Layout.{Layout}
use Rattle.verity_path.specs.declared.walk.Layout.TheVariants.{File}
use Rattle.verity_path.specs.declared.walk.WalkFault.{WalkFault}
use Rattle.verity_path.proofs.Order.{asked-append, later_order}
use Rattle.verity_path.proofs.Pieces.{piece_left, piece_right}
use Rattle.verity_path.proofs.Judged.{right_right, right_both, right_later}
use Rattle.verity_path.proofs.Walking.{sound}
use Rattle.verity_path.proofs.Blaming.{blame_later, blame_so}

lt_or_le : (a b : ℕ) → (a < b) ⊎ (b ≤ a)
lt_or_le a b = grind arith

pub cut_none : (own : Exchanges) (m : Measure) (offset end : ℕ) → end ≤ offset → IsCut own m offset end []
cut_none own m offset end le = record { len = omega arith; each = λ j lt. absurd (omega arith) }

module _ (x y : Exchanges) (m : Measure) (offset mid end i : ℕ) (bytes more page : List ℕ) (is : mid ≡ max offset (4096 * i)) (le_end : mid ≤ end) (le_block : end ≤ 4096 * (i + 1))
    (more_len : length more ≡ end - mid) (more_at : (n : ℕ) → n < end - mid → get_or more n 0 ≡ get_or page ((mid - 4096 * i) + n) 0)
    (cut : IsCut x m offset mid bytes) (piece : IsPiece y page) (derived : IsDerived (IsPiece y) m 0 i (page_hash m.salt page)) where
  whole_len : length (bytes ++ more) ≡ end - offset
  whole_len = omega (arith, length-append bytes more, cut.len, more_len)

  Page : ℕ → Type 0
  Page j = (p : List ℕ) × IsPiece (x ++ y) p × IsDerived (IsPiece (x ++ y)) m 0 ((offset + j) / 4096) (page_hash m.salt p)
      × ((k : ℕ) → k < length (bytes ++ more) → (offset + k) / 4096 ≡ (offset + j) / 4096 → slice_index (bytes ++ more) k ≡ slice_index p ((offset + k) % 4096))

  before : (j : ℕ) → j < length bytes → Page j
  unfolding Page
  before j lt =
      let old = cut.each j lt in (
        old.0,
        piece_left x y old.0 old.1,
        derived_more (IsPiece x) (IsPiece (x ++ y)) m (λ p. piece_left x y p) 0 ((offset + j) / 4096) (page_hash m.salt old.0) old.2,
        λ k inside same.
            let early : k < length bytes = omega (arith, cut.len) in
            get_or_append_left bytes more 0 k early ∙ old.3 k early same,
      )

  after : (j : ℕ) → length bytes ≤ j → j < length (bytes ++ more) → Page j
  unfolding Page
  after j le lt =
      let block : (offset + j) / 4096 ≡ i = omega (arith, cut.len, whole_len) in (
        page,
        piece_right x y page piece,
        rw block (derived_more (IsPiece y) (IsPiece (x ++ y)) m (λ p. piece_right x y p) 0 i (page_hash m.salt page) derived),
        λ k inside same.
            let late : length bytes ≤ k = omega (arith, cut.len) in
            let small : k - length bytes < end - mid = omega (arith, cut.len, whole_len) in
            let place : (mid - 4096 * i) + (k - length bytes) ≡ (offset + k) % 4096 = omega (arith, cut.len) in
            get_or-append_right bytes more k 0 late ∙ more_at (k - length bytes) small ∙ ap (λ n. get_or page n 0) place,
      )

  cut_with : IsCut (x ++ y) m offset end (bytes ++ more)
  unfolding Page
  cut_with = record { len = whole_len; each = λ j lt. ⊎_elim (λ early. before j early) (λ late. after j late lt) (lt_or_le j (length bytes)) }

pub cut_more : (x y : Exchanges) (m : Measure) (offset mid end i : ℕ) (bytes page : List ℕ) → mid ≡ max offset (4096 * i) → mid ≤ end → end ≤ 4096 * (i + 1) → length page ≡ 4096
    → IsCut x m offset mid bytes → IsPiece y page → IsDerived (IsPiece y) m 0 i (page_hash m.salt page)
    → IsCut (x ++ y) m offset end (bytes ++ take (end - mid) (drop (mid - 4096 * i) page))
cut_more x y m offset mid end i bytes page is le_end le_block size cut piece derived =
    cut_with x y m offset mid end i bytes (take (end - mid) (drop (mid - 4096 * i) page)) page is le_end le_block
    (simp (length-take, length-drop) (omega arith))
    (λ n lt. get_or-take (end - mid) (drop (mid - 4096 * i) page) n 0 lt ∙ get_or-drop (mid - 4096 * i) page n 0)
    cut piece derived

touched_some : (offset end : ℕ) → offset < end → touched offset end ≡ (end + 4095) / 4096 - offset / 4096
touched_some offset end lt = grind (arith, lt)

touched_none : (offset end : ℕ) → end ≤ offset → touched offset end ≡ 0
touched_none offset end le = grind (arith, le)

-- ---- the calls for some blocks

module _ (layout : Layout) (m : Measure) where
  abbrev walk_of : ℕ → List Call
  walk_of block = walk_calls layout m.blocks block (top m.blocks)

  -- those of a block more
  blocks-snoc : (n block : ℕ) → blocks_calls layout m block (suc n) ≡ blocks_calls layout m block n ++ walk_of (block + n)
  blocks-snoc zero block = let same : block + 0 ≡ block = omega arith in append-nil (walk_of block) ∙ ap walk_of (sym same)
  blocks-snoc (suc n) block =
      let same : suc block + n ≡ block + suc n = omega arith in
      ap (λ (cs : List Call). walk_of block ++ cs) (blocks-snoc n (suc block) ∙ ap (λ (k : ℕ). blocks_calls layout m (suc block) n ++ walk_of k) same)
      ∙ sym (append_assoc (walk_of block) (blocks_calls layout m (suc block) n) (walk_of (block + suc n)))

  -- those of the blocks before one, its own, and those behind it
  blocks-cut : (k r total block : ℕ) → total ≡ k + suc r
      → blocks_calls layout m block k ++ (walk_of (block + k) ++ blocks_calls layout m (suc (block + k)) r) ≡ blocks_calls layout m block total
  blocks-cut zero r total block is =
      let same : block + 0 ≡ block = omega arith in
      let all : total ≡ suc r = omega (arith, is) in
      ap (λ (b : ℕ). walk_of b ++ blocks_calls layout m (suc b) r) same ∙ ap (blocks_calls layout m block) (sym all)
  blocks-cut (suc k) r zero block is = absurd (omega (arith, is))
  blocks-cut (suc k) r (suc total) block is =
      let same : suc block + k ≡ block + suc k = omega arith in
      append_assoc (walk_of block) (blocks_calls layout m (suc block) k) _
      ∙ ap (λ (cs : List Call). walk_of block ++ cs)
      (ap (λ (b : ℕ). blocks_calls layout m (suc block) k ++ (walk_of b ++ blocks_calls layout m (suc b) r)) (sym same) ∙ blocks-cut k r total (suc block) (omega (arith, is)))

-- the answers of the blocks before one
abbrev pub answers_to : Measure → ℕ → ℕ → ℕ
answers_to m offset index = (index - offset / 4096) * (top m.blocks + 1)

module _ (layout : Layout) (m : Measure) (size offset len end : ℕ) (end_is : end ≡ end_of size offset len) (some : offset < end) where
  path_for : (index : ℕ) (call : Call) → offset / 4096 ≤ index → 4096 * index < end → IsOnPath layout m index call → IsForRead layout m size offset len call
  path_for index call from to path = record { block = index; some = rw (← end_is) some; from = from; to = rw (← end_is) to; path = path }

  pub range_start : (a : Told) (bytes : List ℕ) → bytes ≡ [] → Did (IsForRead layout m size offset len) (answers_to m offset (offset / 4096)) a a (RangeSoFar layout m offset end (offset / 4096) bytes)
  range_start a bytes none =
      let no : offset / 4096 - offset / 4096 ≡ 0 = omega arith in
      rw none (did_none _ _ a _ (refl, cut_none [] m offset _ (omega arith), ap (blocks_calls layout m (offset / 4096)) (sym no), λ call said i. absurd i))

  more_answers : (index : ℕ) → offset / 4096 ≤ index → answers_to m offset index + (top m.blocks + 1) ≡ answers_to m offset (index + 1)
  more_answers index from =
      let next : index + 1 - offset / 4096 ≡ suc (index - offset / 4096) = omega arith in
      rw next (sym (suc-mul (index - offset / 4096) (top m.blocks + 1)))

  -- the answers of the whole range
  all_answers : most_answers m size offset len ≡ answers_to m offset ((end + 4095) / 4096)
  all_answers = ap (λ (n : ℕ). n * (top m.blocks + 1)) (rw (← end_is) (touched_some offset end some))

  answers_low : (index last : ℕ) → index ≤ last → answers_to m offset index ≤ answers_to m offset last
  answers_low index last le = mul-le-mul_right (top m.blocks + 1) (omega (arith, le))

  pub range_on : (a b c : Told) (index : ℕ) (bytes : List ℕ) (p : Met) → offset / 4096 ≤ index → 4096 * index < end → Did (IsForRead layout m size offset len) (answers_to m offset index) a b (RangeSoFar layout m offset end index bytes)
      → Did (IsOnPath layout m index) (top m.blocks + 1) b c (WalkOutcome layout m index (Ok p))
      → Did (IsForRead layout m size offset len) (answers_to m offset (index + 1)) a c (RangeSoFar layout m offset end (index + 1)
      (bytes ++ slice_range p.page (max offset (4096 * index) - 4096 * index) (min end (4096 * index + 4096) - 4096 * index)))
  range_on a b c index bytes p from to d e =
      let mid = max offset (4096 * index) in
      let here : min end mid ≡ mid = omega arith in
      let there : min end (max offset (4096 * (index + 1))) ≡ min end (4096 * index + 4096) = omega arith in
      let part : (min end (4096 * index + 4096) - 4096 * index) - (mid - 4096 * index) ≡ min end (4096 * index + 4096) - mid = omega arith in
      let next : index + 1 - offset / 4096 ≡ suc (index - offset / 4096) = omega (arith, from) in
      let at : offset / 4096 + (index - offset / 4096) ≡ index = omega (arith, from) in
      rw (← more_answers index from) (did_then _ _ _ a b c _ _ _ d (did_so _ _ _ _ b c _ _ e (λ call. path_for index call from to) (omega arith) (λ t q. q)) (λ t so. so.0) (λ x y failed le so proved. (
        proved.0.failed,
        rw (there, part) (cut_more x y m offset mid (min end (4096 * index + 4096)) index bytes p.page refl (omega arith) (omega arith) proved.0.len
            (rw here at so.1) proved.0.piece proved.0.derived),
        asked-append x y ∙ ap (λ (cs : List Call). cs ++ asked_in y) so.2 ∙ ap (λ (cs : List Call). blocks_calls layout m (offset / 4096) (index - offset / 4096) ++ cs) proved.1
            ∙ ap (λ (b : ℕ). blocks_calls layout m (offset / 4096) (index - offset / 4096) ++ walk_of layout m b) (sym at)
            ∙ sym (blocks-snoc layout m (index - offset / 4096) (offset / 4096)) ∙ ap (blocks_calls layout m (offset / 4096)) (sym next),
        right_both layout m x y so.3 (right_right layout m x y y proved.2),
      )))

  pub range_bad : (a b c : Told) (index : ℕ) (bytes left : List ℕ) (f : WalkFault) → offset / 4096 ≤ index → 4096 * index < end → Did (IsForRead layout m size offset len) (answers_to m offset index) a b (RangeSoFar layout m offset end index bytes)
      → Did (IsOnPath layout m index) (top m.blocks + 1) b c (WalkOutcome layout m index (Err f)) → Did (IsForRead layout m size offset len) (most_answers m size offset len) a c (RangeOutcome layout m size offset len left (Err f))
  range_bad a b c index bytes left f from to d e =
      let last : index + 1 ≤ (end + 4095) / 4096 = omega arith in
      let low = answers_low (index + 1) ((end + 4095) / 4096) last in
      let both : answers_to m offset index + (top m.blocks + 1) ≤ most_answers m size offset len = rw (all_answers, more_answers index from) low in
      let at : offset / 4096 + (index - offset / 4096) ≡ index = omega (arith, from) in
      let count : touched offset (end_of size offset len) ≡ (index - offset / 4096) + suc ((end + 4095) / 4096 - (index + 1)) =
      rw (← end_is) (touched_some offset end some ∙ omega (arith, from, last)) in
      let cut = blocks-cut layout m (index - offset / 4096) ((end + 4095) / 4096 - (index + 1)) (touched offset (end_of size offset len)) (offset / 4096) count in
      let whole : blocks_calls layout m (offset / 4096) (index - offset / 4096) ++ (walk_of layout m index ++ blocks_calls layout m (suc index) ((end + 4095) / 4096 - (index + 1)))
      ≡ read_calls layout m size offset len =
      ap (λ (b : ℕ). blocks_calls layout m (offset / 4096) (index - offset / 4096) ++ (walk_of layout m b ++ blocks_calls layout m (suc b) ((end + 4095) / 4096 - (index + 1)))) (sym at) ∙ cut in
      let all = did_then _ _ _ a b c _ _ (RangeOutcome layout m size offset len left (Err f)) d (did_so _ _ _ _ b c _ _ e (λ call. path_for index call from to) (omega arith) (λ t q. q)) (λ t so. so.0) (λ x y failed le so blame. (
        blame_later layout m (IsForRead layout m size offset len) a b c x y failed f le
            (blame_so layout m (IsOnPath layout m index) (IsForRead layout m size offset len) _ f (λ call. path_for index call from to) blame.0),
        later_order _ (walk_of layout m index) _ (read_calls layout m size offset len) x y failed a b c whole so.2 blame.1,
        right_later layout m x y _ so.3 blame.2,
      )) in
      did_so _ _ _ _ a c _ _ all (λ call q. q) both (λ t q. q)

  pub range_end : (a b : Told) (index : ℕ) (bytes : List ℕ) (u : Unit {0}) → index ≡ (end + 4095) / 4096 → Did (IsForRead layout m size offset len) (answers_to m offset index) a b (RangeSoFar layout m offset end index bytes)
      → Did (IsForRead layout m size offset len) (most_answers m size offset len) a b (RangeOutcome layout m size offset len bytes (Ok u))
  range_end a b index bytes u last d =
      let e : min end (max offset (4096 * index)) ≡ end_of size offset len = omega (arith, last, end_is, some) in
      let count : index - offset / 4096 ≡ touched offset (end_of size offset len) =
      rw (← end_is) (ap (λ (n : ℕ). n - offset / 4096) last ∙ sym (touched_some offset end some)) in
      did_so _ _ _ _ a b _ _ d (λ call q. q) (rw (all_answers, last) (omega arith)) (λ t so. (so.0, rw e at so.1, so.2 ∙ ap (blocks_calls layout m (offset / 4096)) count, so.3))

-- an empty range
pub range_none : (layout : Layout) (m : Measure) (size offset len : ℕ) (a : Told) (bytes : List ℕ) (u : Unit {0}) → end_of size offset len ≤ offset → bytes ≡ [] →
    Did (IsForRead layout m size offset len) (most_answers m size offset len) a a (RangeOutcome layout m size offset len bytes (Ok u))
range_none layout m size offset len a bytes u le none =
    rw none (did_none _ _ a _ (refl, cut_none [] m offset _ le, ap (blocks_calls layout m (offset / 4096)) (sym (touched_none offset (end_of size offset len) le)), λ call said i. absurd i))

-- a byte of a block is a byte of the content
byte_of_block : (content : List ℕ) (i j : ℕ) → j < 4096 → 4096 * i + j < length content → get_or (content_block content i) j 0 ≡ get_or content (4096 * i + j) 0
unfolding content_block
byte_of_block content i j lt inside =
    let len : j < length (take 4096 (drop (4096 * i) content)) = simp (length-take, length-drop) (omega arith) in
    get_or_append_left (take 4096 (drop (4096 * i) content)) _ 0 j len ∙ get_or-take 4096 (drop (4096 * i) content) j 0 lt ∙ get_or-drop (4096 * i) content j 0

-- bytes that are cut from pages tied to the root are the content's
pub cut_content : (m : Measure) (heard : Exchanges) (content : List ℕ) (size offset len : ℕ) (bytes : List ℕ) → HasTree m content → NoClash (IsHashed heard content m.salt) → size ≡ length content
    → IsCut heard m offset (end_of size offset len) bytes → bytes ≡ take len (drop offset content)
cut_content m heard content size offset len bytes tree apart size_is cut =
    let count : length bytes ≡ length (take len (drop offset content)) = simp (length-take, length-drop) (omega (arith, cut.len, size_is)) in
    ext_get_or 0 bytes (take len (drop offset content)) count (λ j lt.
    let i = (offset + j) / 4096 in
    let one = cut.each j lt in
    let inside : offset + j < length content = omega (arith, cut.len, size_is) in
    let within : i < m.blocks = omega (arith, inside, tree.blocks) in
    let place : 4096 * i + (offset + j) % 4096 ≡ offset + j = omega arith in
    let same : one.0 ≡ content_block content i = sound (File 0 0) m i m.blocks refl within heard one.0 content one.1 one.2 tree apart in
    let byte : get_or bytes j 0 ≡ get_or one.0 ((offset + j) % 4096) 0 = one.3 j lt refl in
    let small : j < len = omega (arith, cut.len, size_is) in
    byte ∙ ap (λ p. get_or p ((offset + j) % 4096) 0) same
    ∙ byte_of_block content i ((offset + j) % 4096) (omega arith) (rw place inside) ∙ ap (λ x. get_or content x 0) place
    ∙ sym (get_or-take len (drop offset content) j 0 small ∙ get_or-drop offset content j 0))

-- A read, block by block.
use Rattle.std.proofs.Common.{◌≡◌, ℕ, zero, suc, ◌+◌, ◌-◌, ◌*◌, ◌/◌, ◌<◌, ◌≤◌, ◌∙◌, List, [], ◌∷◌, ◌++◌, map, length, take, drop, get_or, min, max, Option, Ok, Err, refl, ap, sym, subst, inl, inr, arith, ⊎_elim, append-nil}
use Rattle.std.specs.Prelude.{◌≢◌, slice_range}
use Rattle.std.proofs.lemmas.List.{get_or-take, get_or-drop, get_or_append_left, length-take, length-drop, length-append, ext_get_or, take_all, nil_from_length, map-append}
use Rattle.std.specs.List.{range_with_len}
use Rattle.std.proofs.lemmas.List.FromFn.{map-range_with_len_more}
use Rattle.std.proofs.Math.Nat.{suc-mul, mul-le-mul_right}
use Rattle.std.proofs.Math.Seq.{get_or-append_right}
use Rattle.host_traits.specs.declared.calls.Call.{Call}
use Rattle.host_traits.specs.Held.{Held}
use Rattle.host_traits.specs.Told.{Told, Exchanges}
use Rattle.host_traits.specs.Did.{trace_of}
use Rattle.leaf_tree.specs.Outcomes.{Standing}
use Rattle.leaf_tree.specs.Worked.{Worked, HandsPage}
use Rattle.host_traits.proofs.Doing.{failed_later, failed_so}
use Rattle.verity_path.proofs.Order.{last_later, last_short_later}
use Rattle.leaf_tree.proofs.Working.{worked_none, worked_so, worked_then}
use Rattle.sha_tree.specs.Tree.{padded, page_hash, block, block_count, top}
use Rattle.sha_tree.proofs.Pages.{length-padded}
use Rattle.verity_path.specs.Range.{end_of, touched}
use Rattle.verity_path.specs.States.{Place, Met, IsMet}
use Rattle.verity_path.specs.declared.states.Mismatch.{Mismatch}
use Rattle.verity_path.specs.declared.walk.WalkFault.{WalkFault}
use Rattle.verity_path.specs.declared.walk.WalkFault.TheVariants as walk
use Rattle.verity_path.proofs.Pieces.{piece_left, piece_right}
use Rattle.sha_tree.specs.Path.{NoClash}
use Rattle.rw_file.specs.Contents.{Meaning, meaning, IsAtHost, IsFileHashed, Only}
use Rattle.rw_file.specs.Calls.{block_read, read_calls, IsForFileRead, most_read}
use Rattle.rw_file.specs.Asked.{AreAsked}
use Rattle.rw_file.specs.Blame.{Each, IsFileBlame}
use Rattle.rw_file.specs.Rows.{IsNow, IsUnread, ReadOutcome, because, FaultSays}
use Rattle.rw_file.specs.Steps.{IsForBlock, BringOutcome, ServeOutcome, IsServedTo, block_reads}
use Rattle.rw_file.proofs.Bytes.{lt_or_le, get_or-block, length-block}
use Rattle.rw_file.proofs.Hashed.{each_more, apart_fewer, file_hashed}
use Rattle.rw_file.proofs.Known.{is_known, is_other, asked_known, asked_other, all_of}
use Rattle.rw_file.proofs.Ordered.{asked_none, asked_on, begun_on, begun_in, Follows}

module _ (is_local : Type 0) (file size count i : ℕ) (same : count ≡ block_count size) (there : i < count) (stands stands2 : Standing) (x y : Told)
    (anchor : Place) (raw : List ℕ) (n : ℕ) (n_is : n ≡ length raw)
    (d : Worked HandsPage 0 (IsForBlock is_local file size i) (top (block_count size) + 1) x y (BringOutcome is_local file size i (meaning size stands) (meaning size stands2) x.held y.held raw (Ok anchor))) where
  pub serve_ok : (from to : ℕ) (u : Unit {0}) (old new : List ℕ) (p : Met) → p.page ≡ padded (slice_range raw 0 (0 + n)) → p.anchor ≡ anchor →
      IsMet p → new ≡ old ++ slice_range p.page from to → from ≤ to → to ≤ 4096 →
      Worked HandsPage 0 (IsForBlock is_local file size i) (top (block_count size) + 1) x y (ServeOutcome is_local file size i from to (meaning size stands) (meaning size stands2) x.held y.held old new (Ok u))
  serve_ok from to u old new p page_is anchor_is met new_is order within =
      let whole : p.page ≡ padded raw = page_is ∙ all_of raw n n_is in
      let hash : page_hash anchor.salt (padded raw) ≡ anchor.digest = ap (λ (a : Place). page_hash a.salt (padded raw)) (sym anchor_is) ∙ ap (page_hash p.anchor.salt) (sym whole) ∙ met ∙ ap (λ (a : Place). a.digest) anchor_is in
      worked_so _ _ _ _ _ _ x y _ _ d (λ call q. q) (omega arith) (λ t b. let long : length p.page ≡ 4096 = ap (λ (q : List ℕ). length q) whole ∙ length-padded raw (omega (arith, b.count)) in record {
        failed = b.prepared.failed;
        asked = asked_known file size count i same there (meaning size stands) (meaning size stands2) (λ c is. is.size_is) x.held y.held raw anchor t b hash;
        count = omega (arith, ap length new_is, length-append old (slice_range p.page from to), length-take (to - from) (drop from p.page), length-drop from p.page, long, order, within);
        content = λ c is clash. (
          (b.prepared.kept c is clash).0,
          new_is ∙ ap (λ (q : List ℕ). old ++ slice_range q from to) (whole ∙ is_known file size count i same there (meaning size stands) (meaning size stands2) (λ c is. is.size_is) x.held y.held raw anchor t b hash c is clash),
        );
      })

  pub serve_bad : (from to : ℕ) (old new : List ℕ) (m : Mismatch) → m.expected.0 ≢ m.found.0 → m.expected.0 ≡ anchor.digest →
      m.found.0 ≡ page_hash anchor.salt (padded (slice_range raw 0 (0 + n))) → m.level ≡ anchor.level → m.index ≡ anchor.index →
      Worked HandsPage 0 (IsForBlock is_local file size i) (top (block_count size) + 1) x y (ServeOutcome is_local file size i from to (meaning size stands) (meaning size stands2) x.held y.held old new (Err (walk.Mismatch m)))
  serve_bad from to old new m differ expected found level index =
      worked_so _ _ _ _ _ _ x y _ _ d (λ call q. q) (omega arith) (λ t b. record {
        kept = λ c is clash. (b.prepared.kept c is clash).0;
        asked =
            asked_other file size count i same there (meaning size stands) (meaning size stands2) (λ c is. is.size_is) x.held y.held raw anchor t b m;
        blame = is_other file size count i same there (meaning size stands) (meaning size stands2) (λ c is. is.size_is) x.held y.held raw anchor t b m differ expected (found ∙ ap (page_hash anchor.salt) (all_of raw n n_is)) level index;
      })

-- one after another
pub now_on : (before after more : Meaning) (file : ℕ) (x y z : Option Held) (c d e : List ℕ) → IsNow before after file x y c d →
    IsNow after more file y z d e → IsNow before more file x z c e
now_on before after more file x y z c d e a b = record { now = b.now; agree = λ h. b.agree (a.agree h); backed = λ h. b.backed (a.backed h) }

-- the slice of a block after the slice before it
slice_on : (c : List ℕ) (offset mid end i : ℕ) → mid ≡ max offset (4096 * i) → offset ≤ mid → mid ≤ end → end ≤ 4096 * i + 4096 → end ≤ length c →
    take (mid - offset) (drop offset c) ++ slice_range (block c i) (mid - 4096 * i) (end - 4096 * i) ≡ take (end - offset) (drop offset c)
slice_on c offset mid end i is low le_end le_block inside =
    let first : List ℕ = take (mid - offset) (drop offset c) in
    let second : List ℕ = slice_range (block c i) (mid - 4096 * i) (end - 4096 * i) in
    let len1 : length first ≡ mid - offset = omega (arith, length-take (mid - offset) (drop offset c), length-drop offset c, inside, le_end) in
    let len2 : length second ≡ end - mid = omega (arith, length-take (end - 4096 * i - (mid - 4096 * i)) (drop (mid - 4096 * i) (block c i)), length-drop (mid - 4096 * i) (block c i), length-block c i, is, le_end, le_block) in
    ext_get_or 0 (first ++ second) (take (end - offset) (drop offset c))
    (omega (arith, length-append first second, len1, len2, length-take (end - offset) (drop offset c), length-drop offset c, inside, low, le_end))
    (λ j lt. let lt_all : j < end - offset = omega (arith, lt, length-append first second, len1, len2, low, le_end) in
    ⊎_elim
    (λ early. get_or_append_left first second 0 j early ∙ get_or-take (mid - offset) (drop offset c) j 0 (omega (arith, early, len1)) ∙ sym (get_or-take (end - offset) (drop offset c) j 0 lt_all))
    (λ late.
    let small : j - length first < end - 4096 * i - (mid - 4096 * i) = omega (arith, late, lt_all, len1, is, low, le_end) in
    let place : mid - 4096 * i + (j - length first) < 4096 = omega (arith, small, le_block, is) in
    let there : 4096 * i + (mid - 4096 * i + (j - length first)) ≡ offset + j = omega (arith, late, len1, is, low) in
    get_or-append_right first second j 0 late
    ∙ get_or-take (end - 4096 * i - (mid - 4096 * i)) (drop (mid - 4096 * i) (block c i)) (j - length first) 0 small
    ∙ get_or-drop (mid - 4096 * i) (block c i) (j - length first) 0
    ∙ get_or-block c i (mid - 4096 * i + (j - length first)) place
    ∙ ap (λ (k : ℕ). get_or c k 0) there
    ∙ sym (get_or-take (end - offset) (drop offset c) j 0 lt_all ∙ get_or-drop offset c j 0))
    (lt_or_le j (length first)))

-- a range cut at the end
cut_same : (c : List ℕ) (offset len end : ℕ) → end ≡ min (offset + len) (length c) → take (end - offset) (drop offset c) ≡ take len (drop offset c)
cut_same c offset len end is = ⊎_elim
    (λ all. let same : end - offset ≡ len = omega (arith, is, all) in ap (λ (k : ℕ). take k (drop offset c)) same)
    (λ few. take_all (end - offset) (drop offset c) (omega (arith, length-drop offset c, is, few)) ∙ sym (take_all len (drop offset c) (omega (arith, length-drop offset c, few))))
    (lt_or_le (offset + len) (length c))

nothing_left : (c : List ℕ) (offset len : ℕ) → min (offset + len) (length c) ≤ offset → take len (drop offset c) ≡ []
nothing_left c offset len le = nil_from_length (take len (drop offset c)) (omega (arith, length-take len (drop offset c), length-drop offset c, le))

-- the same calls, for the request
read_for : (is_local : Type 0) (file size offset len i : ℕ) → offset < end_of size offset len → offset / 4096 ≤ i →
    4096 * i < end_of size offset len → (call : Call) → IsForBlock is_local file size i call → IsForFileRead is_local file size offset len call
read_for is_local file size offset len i some from to call (inl is) =
    (some, inl (record { block = i; from = from; to = to; there = omega (arith, to); call_is = is }))
read_for is_local file size offset len i some from to call (inr tree) = (some, inr tree)

-- where no content stands between, the cause of a later part is that of the whole
pub blame_on : (is_local : Type 0) (file : ℕ) (F G : Call → Type 0) (before first : Meaning) (V : List ℕ → List ℕ → Type 0) (made : List ℕ → List ℕ) (a b c : Told) (x y : Exchanges) (failed : ℕ) (w : WalkFault) →
    a.faults ≤ b.faults → ((call : Call) → F call → G call) →
    Each first V (x ++ y) (λ content. before.is (made content) × NoClash (IsFileHashed (Only (made content)) y) × (IsAtHost a.held file content → first.backed a.held content → IsAtHost b.held file (made content) × before.backed b.held (made content))) →
    IsFileBlame is_local b.held file F before Only (λ c. c) (trace_of y failed b c) w → IsFileBlame is_local a.held file G first V made (trace_of (x ++ y) failed a c) w
blame_on is_local file F G before first V made a b c x y failed (walk.Mismatch m) le wider mid q = (
  record {
    failed = q.0.failed;
    differ = q.0.differ;
    bytes = q.0.bytes;
    call = q.0.call;
    page = q.0.page;
    own = last_later _ _ x y q.0.own;
    found = q.0.found;
    expected = λ content is n. let there = mid content is n in q.0.expected (made content) there.0 there.1;
  },
  λ content is n h bk. let there = mid content is n in let so = there.2 h bk in q.1 (made content) there.0 there.1 so.0 so.1,
)
blame_on is_local file F G before first V made a b c x y failed (walk.Short asked got) le wider mid q = (last_short_later a b c x y failed asked got q.0, λ content is n h bk. let there = mid content is n in let so = there.2 h bk in q.1 (made content) there.0 there.1 so.0 so.1)
blame_on is_local file F G before first V made a b c x y failed (walk.Failed faults) le wider mid q =
    failed_later G a b c x y failed faults le (failed_so F G _ faults wider q)
blame_on is_local file F G before first V made a b c x y failed walk.Memory le wider mid q = q

pub says_because : (P : WalkFault → Type 0) (Q : ℕ → Type 0) (R : Type 0) (w : WalkFault) → P w → FaultSays P Q R (because w)
says_because P Q R (walk.Mismatch m) p = p
says_because P Q R (walk.Short asked got) p = p
says_because P Q R (walk.Failed faults) p = p
says_because P Q R walk.Memory p = inr p

range_on : (a n k : ℕ) → range_with_len a n ++ range_with_len (a + n) k ≡ range_with_len a (n + k)
range_on a zero k = let none : a + 0 ≡ a = omega arith in let all : 0 + k ≡ k = omega arith in ap (λ (s : ℕ). range_with_len s k) none ∙ ap (range_with_len a) (sym all)
range_on a (suc n) k =
    let on : a + suc n ≡ a + 1 + n = omega arith in
    let more : suc n + k ≡ suc (n + k) = omega arith in
    ap (λ (s : ℕ). a ∷ (range_with_len (a + 1) n ++ range_with_len s k)) on ∙ ap (λ (l : List ℕ). a ∷ l) (range_on (a + 1) n k) ∙ ap (range_with_len a) (sym more)

touched_some : (offset end : ℕ) → offset < end → touched offset end ≡ (end + 4095) / 4096 - offset / 4096
touched_some offset end lt = grind (arith, lt)

module _ (is_local : Type 0) (file size offset len end : ℕ) (end_is : end ≡ end_of size offset len) (some : offset < end) (first : Standing) where
  abbrev answers : ℕ → ℕ
  answers index = (index - offset / 4096) * (top (block_count size) + 1)

  abbrev mid_of : ℕ → ℕ
  mid_of index = min end (max offset (4096 * index))

  some_in : offset < end_of size offset len
  some_in = rw (← end_is) some

  all_answers : most_read size offset len ≡ answers ((end + 4095) / 4096)
  all_answers = ap (λ (n : ℕ). n * (top (block_count size) + 1)) (rw (← end_is) (touched_some offset end some))

  more_answers : (index : ℕ) → offset / 4096 ≤ index → answers index + (top (block_count size) + 1) ≡ answers (index + 1)
  more_answers index from =
      let next : index + 1 - offset / 4096 ≡ suc (index - offset / 4096) = omega arith in
      rw next (sym (suc-mul (index - offset / 4096) (top (block_count size) + 1)))

  pub read_start : (x : Told) (bytes : List ℕ) → bytes ≡ [] →
      Worked HandsPage 0 (IsForFileRead is_local file size offset len) (answers (offset / 4096)) x x
      (IsServedTo file size offset (mid_of (offset / 4096)) (offset / 4096 - offset / 4096) (meaning size first) (meaning size first) x.held x.held bytes)
  read_start x bytes none =
      let here : min end (max offset (4096 * (offset / 4096))) - offset ≡ 0 = omega arith in
      worked_none _ _ _ _ x _ (record {
        failed = refl;
        asked = let none_yet : 0 ≡ offset / 4096 - offset / 4096 = omega arith in
            subst (λ (k : ℕ). AreAsked (meaning size first) Only (block_reads file size offset k) (trace_of [] 0 x x)) none_yet (asked_none (meaning size first) Only (trace_of [] 0 x x) refl);
        count = omega (arith, ap length none, here);
        content = λ c is n. (record { now = is; agree = λ h. h; backed = λ h. h }, none ∙ ap (λ (k : ℕ). take k (drop offset c)) (sym here));
      })

  module _ (stands stands2 : Standing) (x y z : Told) (index : ℕ) (bytes : List ℕ) (from : offset / 4096 ≤ index) (to : 4096 * index < end)
      (d : Worked HandsPage 0 (IsForFileRead is_local file size offset len) (answers index) x y (IsServedTo file size offset (mid_of index) (index - offset / 4096) (meaning size first) (meaning size stands) x.held y.held bytes)) where
    -- the content stays, and so do the answers that are right
    follows : (a b : Exchanges) →
        IsServedTo file size offset (mid_of index) (index - offset / 4096) (meaning size first) (meaning size stands) x.held y.held bytes (trace_of a 0 x y) →
        Follows (meaning size first) (meaning size stands) Only (λ c. c) a b
    follows a b p = λ c is n. (
      (each_more (meaning size first) Only Only a (a ++ b) _ (λ c v e. e) (piece_left a b) p.content c is n).0.now,
      apart_fewer (IsFileHashed (Only c) b) (IsFileHashed (Only c) (a ++ b)) (file_hashed (Only c) (Only c) b (a ++ b) (λ v e. e) (piece_right a b)) n,
      λ file at want said i right. right,
    )

    next_reads : block_reads file size offset (index - offset / 4096) ++ block_read file size index ∷ [] ≡ block_reads file size offset (index + 1 - offset / 4096)
    next_reads =
        let on : index - offset / 4096 + 1 ≡ index + 1 - offset / 4096 = omega (arith, from) in
        let here : offset / 4096 + (index - offset / 4096) ≡ index = omega (arith, from) in
        sym (map-range_with_len_more (block_read file size) (offset / 4096) (index - offset / 4096) index here) ∙ ap (λ (k : ℕ). block_reads file size offset k) on

    wider : (call : Call) → IsForBlock is_local file size index call → IsForFileRead is_local file size offset len call
    wider = read_for is_local file size offset len index some_in from (rw (← end_is) to)

    pub read_on : (new : List ℕ) (u : Unit {0}) → Worked HandsPage 0 (IsForBlock is_local file size index) (top (block_count size) + 1) y z
        (ServeOutcome is_local file size index (max offset (4096 * index) - 4096 * index) (min end (4096 * index + 4096) - 4096 * index) (meaning size stands) (meaning size stands2) y.held z.held bytes new (Ok u)) →
        Worked HandsPage 0 (IsForFileRead is_local file size offset len) (answers (index + 1)) x z (IsServedTo file size offset (mid_of (index + 1)) (index + 1 - offset / 4096) (meaning size first) (meaning size stands2) x.held z.held new)
    read_on new u e =
        let mid : ℕ = max offset (4096 * index) in
        let far : ℕ = min end (4096 * index + 4096) in
        let here : min end mid ≡ mid = omega arith in
        let next : min end (max offset (4096 * (index + 1))) ≡ far = omega arith in
        rw (← more_answers index from) (worked_then _ _ _ _ _ _ x y z _ _ _ d (worked_so _ _ _ _ _ _ y z _ _ e wider (omega arith) (λ t q. q)) (λ t p. p.failed) (λ a b failed le p q. record {
          failed = q.failed;
          asked = subst (λ (l : List Call). AreAsked (meaning size first) Only l (trace_of (a ++ b) failed x z)) next_reads
              (asked_on (meaning size first) Only Only (λ c v e. e) _ x y z a b failed p.asked (meaning size stands) (λ c. c) (block_read file size index ∷ []) (follows a b p) q.asked);
          count = omega (arith, p.count, q.count);
          content = λ c is n.
              let early = each_more (meaning size first) Only Only a (a ++ b) _ (λ c v e. e) (piece_left a b) p.content c is n in
              let late = each_more (meaning size stands) Only Only b (a ++ b) _ (λ c v e. e) (piece_right a b) q.content c early.0.now n in
              let inside : far ≤ length c = omega (arith, is.size_is, end_is) in (
                now_on (meaning size first) (meaning size stands) (meaning size stands2) file x.held y.held z.held c c c early.0 late.0,
                late.1 ∙ ap (λ (s : List ℕ). s ++ slice_range (block c index) (mid - 4096 * index) (far - 4096 * index)) (early.1 ∙ ap (λ (k : ℕ). take (k - offset) (drop offset c)) here)
                    ∙ slice_on c offset mid far index refl (omega arith) (omega arith) (omega arith) inside ∙ ap (λ (k : ℕ). take (k - offset) (drop offset c)) (sym next),
              );
        }))

    abbrev rest_reads : List Call
    rest_reads = map (block_read file size) (range_with_len (index + 1) ((end + 4095) / 4096 - (index + 1)))

    all_reads : ((block_reads file size offset (index - offset / 4096) ++ []) ++ block_read file size index ∷ []) ++ rest_reads ≡ read_calls file size offset (end_of size offset len)
    all_reads =
        let before : index + 1 - offset / 4096 + ((end + 4095) / 4096 - (index + 1)) ≡ (end + 4095) / 4096 - offset / 4096 = omega (arith, from, to) in
        let here : offset / 4096 + (index + 1 - offset / 4096) ≡ index + 1 = omega (arith, from) in
        ap (λ (l : List Call). (l ++ block_read file size index ∷ []) ++ rest_reads) (append-nil (block_reads file size offset (index - offset / 4096)))
        ∙ ap (λ (l : List Call). l ++ rest_reads) next_reads
        ∙ ap (λ (k : ℕ). block_reads file size offset (index + 1 - offset / 4096) ++ map (block_read file size) (range_with_len k ((end + 4095) / 4096 - (index + 1)))) (sym here)
        ∙ sym (map-append (block_read file size) (range_with_len (offset / 4096) (index + 1 - offset / 4096)) (range_with_len (offset / 4096 + (index + 1 - offset / 4096)) ((end + 4095) / 4096 - (index + 1))))
        ∙ ap (map (block_read file size)) (range_on (offset / 4096) (index + 1 - offset / 4096) ((end + 4095) / 4096 - (index + 1)))
        ∙ ap (λ (k : ℕ). block_reads file size offset k) (before ∙ sym (touched_some offset end some))
        ∙ ap (λ (e : ℕ). read_calls file size offset e) end_is

    pub read_bad : (left new : List ℕ) (from_at to_at : ℕ) (w : WalkFault) → left ≡ bytes →
        Worked HandsPage 0 (IsForBlock is_local file size index) (top (block_count size) + 1) y z
        (ServeOutcome is_local file size index from_at to_at (meaning size stands) (meaning size stands2) y.held z.held bytes new (Err w)) →
        Worked HandsPage 0 (IsForFileRead is_local file size offset len) (most_read size offset len) x z (ReadOutcome is_local file size offset len (meaning size first) (meaning size stands2) x.held z.held left (Err (because w)))
    read_bad left new from_at to_at w left_is e =
        let last : index + 1 - offset / 4096 ≤ (end + 4095) / 4096 - offset / 4096 = omega arith in
        let low = mul-le-mul_right (top (block_count size) + 1) last in
        let both : answers index + (top (block_count size) + 1) ≤ most_read size offset len = rw (all_answers, more_answers index from) low in
        worked_so _ _ _ _ _ _ x z _ _ (worked_then _ _ _ _ _ _ x y z _ _ _ d (worked_so _ _ _ _ _ _ y z _ _ e wider (omega arith) (λ t q. q)) (λ t p. p.failed) (λ a b failed le p q.
        says_because (IsUnread is_local file size offset len (meaning size first) (meaning size stands2) x.held z.held left (trace_of (a ++ b) failed x z)) _ _ w (record {
          kept = λ c is n.
              let early = each_more (meaning size first) Only Only a (a ++ b) _ (λ c v e. e) (piece_left a b) p.content c is n in
              let late = each_more (meaning size stands) Only Only b (a ++ b) _ (λ c v e. e) (piece_right a b) q.kept c early.0.now n in
              now_on (meaning size first) (meaning size stands) (meaning size stands2) file x.held y.held z.held c c c early.0 late;
          asked = begun_in (meaning size first) Only _ (block_read file size index ∷ []) rest_reads _ (trace_of (a ++ b) failed x z) w all_reads
              (begun_on (meaning size first) Only Only (λ c v e. e) _ x y z a b failed p.asked (meaning size stands) (λ c. c) [] (block_read file size index ∷ []) w (follows a b p) q.asked);
          blame = blame_on is_local file (IsForBlock is_local file size index) (IsForFileRead is_local file size offset len) (meaning size stands) (meaning size first) Only (λ c. c) x y z a b failed w le wider
              (λ c is n. (
                (each_more (meaning size first) Only Only a (a ++ b) _ (λ c v e. e) (piece_left a b) p.content c is n).0.now,
                apart_fewer (IsFileHashed (Only c) b) (IsFileHashed (Only c) (a ++ b)) (file_hashed (Only c) (Only c) b (a ++ b) (λ v e. e) (piece_right a b)) n,
                (let early = (each_more (meaning size first) Only Only a (a ++ b) _ (λ c v e. e) (piece_left a b) p.content c is n).0 in λ h bk. (early.agree h, early.backed bk)),
              ))
              q.blame;
          few = omega (arith, ap length left_is, p.count, end_is);
          added = λ c is n.
              let early = each_more (meaning size first) Only Only a (a ++ b) _ (λ c v e. e) (piece_left a b) p.content c is n in
              left_is ∙ early.1 ∙ ap (λ (k : ℕ). take k (drop offset c)) (sym p.count ∙ ap length (sym left_is));
        }))) (λ call q. q) both (λ t q. q)

  pub read_end : (stands : Standing) (x y : Told) (index : ℕ) (bytes : List ℕ) (u : Unit {0}) → index ≡ (end + 4095) / 4096 →
      Worked HandsPage 0 (IsForFileRead is_local file size offset len) (answers index) x y (IsServedTo file size offset (mid_of index) (index - offset / 4096) (meaning size first) (meaning size stands) x.held y.held bytes) →
      Worked HandsPage 0 (IsForFileRead is_local file size offset len) (most_read size offset len) x y (ReadOutcome is_local file size offset len (meaning size first) (meaning size stands) x.held y.held bytes (Ok u))
  read_end stands x y index bytes u last d =
      let e : min end (max offset (4096 * index)) ≡ end = omega (arith, last) in
      let bound : answers index ≤ most_read size offset len = rw (all_answers, last) (omega arith) in
      worked_so _ _ _ _ _ _ x y _ _ d (λ call q. q) bound (λ t p. record {
        failed = p.failed;
        asked = subst (λ (l : List Call). AreAsked (meaning size first) Only l t) (ap (λ (k : ℕ). block_reads file size offset k) (ap (λ (k : ℕ). k - offset / 4096) last ∙ sym (touched_some offset end some)) ∙ ap (λ (e : ℕ). read_calls file size offset e) end_is) p.asked;
        count = p.count ∙ ap (λ (k : ℕ). k - offset) (e ∙ end_is);
        content = λ c is n.
            let now = p.content c is n in
            let same : take (end - offset) (drop offset c) ≡ take len (drop offset c) = cut_same c offset len end (end_is ∙ ap (λ (s : ℕ). min (offset + len) s) is.size_is) in
            (now.0, now.1 ∙ ap (λ (k : ℕ). take (k - offset) (drop offset c)) e ∙ same);
      })

-- an empty range
untouched : (offset end : ℕ) → end ≤ offset → touched offset end ≡ 0
untouched offset end le = grind (arith, le)

pub read_none : (is_local : Type 0) (file size offset len : ℕ) (stands : Standing) (x : Told) (bytes : List ℕ) (u : Unit {0}) →
    end_of size offset len ≤ offset → bytes ≡ [] →
    Worked HandsPage 0 (IsForFileRead is_local file size offset len) (most_read size offset len) x x (ReadOutcome is_local file size offset len (meaning size stands) (meaning size stands) x.held x.held bytes (Ok u))
read_none is_local file size offset len stands x bytes u le none =
    worked_none _ _ _ _ x _ (record {
      failed = refl;
      asked = subst (λ (k : ℕ). AreAsked (meaning size stands) Only (block_reads file size offset k) (trace_of [] 0 x x)) (sym (untouched offset (end_of size offset len) le)) (asked_none (meaning size stands) Only (trace_of [] 0 x x) refl);
      count = omega (arith, ap length none, le);
      content =
          λ c is n. (record { now = is; agree = λ h. h; backed = λ h. h }, none ∙ sym (nothing_left c offset len (omega (arith, le, is.size_is))));
    })

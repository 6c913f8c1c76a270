-- New sizes, step by step.
use Rattle.std.proofs.Common.{◌≡◌, ℕ, ◌+◌, ◌-◌, ◌/◌, ◌%◌, ◌^◌, ◌<◌, ◌≤◌, ◌∙◌, ◌⊎◌, List, [], ◌∷◌, ◌++◌, length, take, replicate, min, max, Option, Some, None, Ok, Err, true, false, refl, ap, sym, subst, arith, inl, inr, ⊎_elim, append-nil}
use Rattle.std.specs.Prelude.{◌≢◌, nat_eq, nat_lt}
use Rattle.std.proofs.lemmas.Bool.{eq-eqb, ne_eqb, lt-ltb, le-ltb}
use Rattle.std.proofs.lemmas.List.{take_all}
use Rattle.mg_base.specs.declared.values.Digest.{Digest}
use Rattle.host_traits.specs.declared.calls.Call.{Call}
use Rattle.host_traits.specs.declared.calls.Call.TheVariants.{Resize}
use Rattle.host_traits.specs.declared.calls.Said.{Said}
use Rattle.host_traits.specs.declared.calls.Said.TheVariants.{Done}
use Rattle.host_traits.specs.Held.{Held, resized}
use Rattle.host_traits.specs.Told.{Told, Exchanges, Answered, Refused, Unheard}
use Rattle.host_traits.specs.Did.{Trace, trace_of, IsIn}
use Rattle.leaf_tree.specs.Worked.{Worked, HandsPage}
use Rattle.host_traits.proofs.Doing.{is_failed, failed_so}
use Rattle.leaf_tree.proofs.Working.{worked_more, worked_answered, worked_refused, worked_unheard, worked_calls, worked_as, worked_none, worked_so, worked_then}
use Rattle.sha_tree.specs.Tree.{padded, block_count, page_hash, top}
use Rattle.sha_tree.specs.Path.{NoClash}
use Rattle.verity_path.specs.States.{Place}
use Rattle.verity_path.specs.declared.states.Mismatch.{Mismatch}
use Rattle.verity_path.specs.declared.walk.WalkFault.{WalkFault}
use Rattle.verity_path.specs.declared.walk.WalkFault.TheVariants as walk
use Rattle.verity_path.proofs.Pieces.{piece_left, piece_right}
use Rattle.leaf_tree.specs.Leaves.{resized as leaves_resized, IsTreeHashed}
use Rattle.leaf_tree.specs.Outcomes.{Standing, IsTreeCall, IsTreeBlame, IsBecome, TreeOutcome}
use Rattle.rw_file.specs.declared.faults.RwFault.TheVariants as fault
use Rattle.rw_file.specs.Contents.{Meaning, meaning, IsSame, IsContent, IsFileHashed, Only, digests_of}
use Rattle.rw_file.specs.Asked.{file_made, AreAsked, AreBegun}
use Rattle.rw_file.specs.Calls.{block_read, cut_calls, IsForCut, most_cut, changes_in, CutsNone}
use Rattle.rw_file.specs.Blame.{IsFileBlame}
use Rattle.rw_file.specs.Rows.{because, IsNow, IsUncounted, IsTreeTo, IsUncut, CutOutcome}
use Rattle.rw_file.specs.Steps.{AllStill, IsThis, IsForBlock, BringOutcome, IsTried, IsDigested, ResizeOutcome, DigestOutcome, CutTreeOutcome, ChangeOutcome}
use Rattle.rw_file.proofs.Changing.{none_then, then_none, worked_changes}
use Rattle.rw_file.proofs.Bytes.{lt_or_le, length-resized}
use Rattle.rw_file.proofs.Uncounted.{fault_of, uncounted_on}
use Rattle.rw_file.proofs.Holding.{held_by, held_refused, held_unheard, cut_there, cut_leaves_tree, still_same, still_trees}
use Rattle.rw_file.proofs.Hashed.{apart_fewer, tree_hashed, file_hashed, each_more}
use Rattle.rw_file.proofs.Bringing.{Lasts, tree_blame_on, blame_so}
use Rattle.rw_file.proofs.Known.{is_known, is_other, asked_known, asked_other}
use Rattle.rw_file.proofs.Serving.{blame_on, says_because}
use Rattle.rw_file.proofs.Splicing.{top-mono}
use Rattle.rw_file.proofs.Putting.{tree_wider}
use Rattle.rw_file.proofs.Ordered.{tree_quiet, tried_last, tried_none, asked_none, asked_more, asked_still, asked_on, begun_first, begun_in, begun_end, begun_on, Follows}
use Rattle.rw_file.proofs.Answering.{asked_from, begun_from, blame_from}
use Rattle.rw_file.proofs.Cuts.{cut_block, last_none, last_some}

-- the call that sets the size
module _ (file to : ℕ) (x y : Told) where
  pub sized_ok : (u : Unit {0}) → Answered (Resize file to) [] Done x y →
      Worked HandsPage 1 (IsThis (Resize file to)) 0 x y (ResizeOutcome file to x.held y.held (Ok u))
  sized_ok u a = worked_answered _ _ _ (Resize file to) [] Done 0 x y _ refl refl (omega arith) (omega arith) a (refl, refl, cut_there file to [] Done x.held y.held (held_by _ [] Done x y a), cut_leaves_tree file to [] Done x.held y.held (held_by _ [] Done x y a))

  pub sized_failed : (faults : ℕ) → Refused (Resize file to) [] x y → faults ≡ y.faults →
      Worked HandsPage 1 (IsThis (Resize file to)) 0 x y (ResizeOutcome file to x.held y.held (Err (walk.Failed faults)))
  sized_failed faults r is = worked_refused _ _ _ (Resize file to) [] 0 x y _ refl refl (omega arith) (omega arith) r (still_same file x.held y.held (held_refused _ [] x y r), is_failed _ (Resize file to) [] x y [] faults refl r is, refl)

  pub sized_memory : Unheard x y → Worked HandsPage 1 (IsThis (Resize file to)) 0 x y (ResizeOutcome file to x.held y.held (Err walk.Memory))
  sized_memory u =
      worked_unheard _ _ _ 0 x y _ u (still_same file x.held y.held (held_unheard x y u), record { failed = refl; scarce = u.scarce }, refl)

module _ (is_local : Type 0) (file size count to : ℕ) (last : Option Digest) (same : count ≡ block_count size) (other : to ≢ size) (stands : Standing)
    (x y : Told) (lasts : Lasts file (meaning size stands)) where
  abbrev For : Call → Type 0
  For = IsForCut is_local file size to

  abbrev most : ℕ
  most = top (block_count (max size to))

  size_for : (call : Call) → IsThis (Resize file to) call → For call
  size_for call is = (other, inr (inl is))

  sized_blame : (w : WalkFault) (t : Trace) → ResizeOutcome file to x.held y.held (Err w) t →
      AllStill file x.held y.held × IsFileBlame is_local x.held file For (meaning size stands) Only (λ c. c) t w
  sized_blame (walk.Mismatch m) t q = absurd q
  sized_blame (walk.Short asked got) t q = absurd q
  sized_blame (walk.Failed faults) t q = (q.0, failed_so _ _ t faults size_for q.1)
  sized_blame walk.Memory t q = (q.0, (q.1.failed, λ l. q.1.scarce))

  sized_none : (w : WalkFault) (t : Trace) → ResizeOutcome file to x.held y.held (Err w) t → t.own ≡ []
  sized_none (walk.Mismatch m) t q = absurd q
  sized_none (walk.Short asked got) t q = absurd q
  sized_none (walk.Failed faults) t q = q.2
  sized_none walk.Memory t q = q.2

  -- it was not made, or it failed
  sized_tried : (w : WalkFault) (t : Trace) → ResizeOutcome file to x.held y.held (Err w) t → IsTried (Resize file to) t w
  sized_tried (walk.Mismatch m) t q = absurd q
  sized_tried (walk.Short asked got) t q = absurd q
  sized_tried (walk.Failed faults) t q = tried_last (Resize file to) refl t faults q.1 q.2
  sized_tried walk.Memory t q = tried_none (Resize file to) t walk.Memory q.1.failed q.2

  pub not_sized : (w : WalkFault) → Worked HandsPage 1 (IsThis (Resize file to)) 0 x y (ResizeOutcome file to x.held y.held (Err w)) →
      Worked HandsPage 1 For most x y (CutTreeOutcome is_local file size to last stands stands x.held y.held (Err w))
  not_sized w d = worked_so _ _ _ _ _ _ x y _ _ d size_for (omega arith) (λ t q. let b = sized_blame w t q in record {
    calls = inl (ap (λ (l : Exchanges). changes_in l) (sized_none w t q));
    asked = begun_first (meaning size stands) (Resize file to) t w (sized_tried w t q) (sized_none w t q);
    content = λ c is n. record { now = is; agree = λ h. inl (b.0.bytes c h); backed = λ h. lasts x.held y.held c b.0.tree h };
    blame = b.1;
  })

  module _ (stands2 : Standing) (z : Told) (u : Unit {0})
      (d : Worked HandsPage 1 (IsThis (Resize file to)) 0 x y (ResizeOutcome file to x.held y.held (Ok u))) where
    abbrev Tree : Call → Type 0
    Tree = IsTreeCall is_local file count (block_count to)

    tree_for : (call : Call) → Tree call → For call
    tree_for call t = (other, inr (inr (subst (λ (n : ℕ). IsTreeCall is_local file n (block_count to) call) same t)))

    low : top (max count (block_count to)) ≤ most
    low = top-mono (max count (block_count to)) (block_count (max size to)) (omega (arith, same))

    clear : (a b : Exchanges) (c : List ℕ) → NoClash (IsFileHashed (Only c) (a ++ b)) → NoClash (IsTreeHashed (digests_of c) b)
    clear a b c n =
        apart_fewer (IsTreeHashed (digests_of c) b) (IsFileHashed (Only c) (a ++ b)) (tree_hashed (Only c) c b (a ++ b) refl (piece_right a b)) n

    -- the size was set, and no other call on the file's bytes was made
    sized_then : (a b : Exchanges) (failed : ℕ) → a ≡ (Resize file to, Done) ∷ [] → file_made (trace_of b failed y z) ≡ [] →
        AreAsked (meaning size stands) Only (Resize file to ∷ []) (trace_of (a ++ b) failed x z)
    sized_then a b failed one none = asked_still (meaning size stands) Only Only (λ c v i. i) (Resize file to ∷ []) x y z a b failed
        (subst (λ (l : Exchanges). AreAsked (meaning size stands) Only (Resize file to ∷ []) (trace_of l 0 x y)) (sym one)
        (asked_more (meaning size stands) Only Only (λ c v i. i) [] x x y [] ((Resize file to, Done) ∷ []) 0 (asked_none (meaning size stands) Only (trace_of [] 0 x x) refl) (Resize file to) Done (λ f k n e. (cc)) refl refl refl)) none

    pub not_cut : (w : WalkFault) → (is_local → ⊥) →
        Worked HandsPage 0 Tree (top (max count (block_count to))) y z (TreeOutcome file Tree stands stands2 y.held z.held (leaves_resized (block_count to) last) (Err w)) →
        Worked HandsPage 1 For most x z (CutTreeOutcome is_local file size to last stands stands2 x.held z.held (Err w))
    not_cut w far e =
        let still = still_trees is_local file count (block_count to) (top (max count (block_count to))) y z _ e in
        let wide : (call : Call) → Tree call → IsTreeTo is_local file size to call = λ call c. subst (λ (n : ℕ). IsTreeCall is_local file n (block_count to) call) same c in
        let uncounted : (a b : Exchanges) (failed : ℕ) → x.faults ≤ y.faults → a ≡ (Resize file to, Done) ∷ [] → ((call : Call) (said : Said) → IsIn call said b → Tree call) → IsTreeBlame file Tree stands y.held (trace_of b failed y z) w →
        IsUncounted is_local file (IsTreeTo is_local file size to) (Resize file to) (trace_of (a ++ b) failed x z) w = λ a b failed le cut later blame. record {
          far = far;
          before = [];
          rest = b;
          own_is = ap (λ (l : Exchanges). l ++ b) cut;
          later = λ call said i. wide call (later call said i);
          fault = fault_of file Tree (IsTreeTo is_local file size to) wide x y z le stands y.held a b failed w blame;
        } in
        let known : Worked HandsPage 0 For (top (max count (block_count to))) y z (λ t. ((c : List ℕ) → IsContent size stands.stands c → NoClash (IsTreeHashed (digests_of c) t.own) → IsBecome stands2 y.held z.held (stands.backed y.held (digests_of c)) (digests_of c)) × ((call : Call) (said : Said) → IsIn call said t.own → Tree call) × IsTreeBlame file Tree stands y.held t w × (file_made t ≡ [])) =
        worked_as _ _ Tree For (top (max count (block_count to))) (top (max count (block_count to))) y z _ _ e tree_for (omega arith) (
          λ c is n. e.outcome.0 (digests_of c) is.tree n,
          worked_calls Tree e.own e.calls,
          e.outcome.1,
          tree_quiet is_local file count (block_count to) HandsPage 0 (top (max count (block_count to))) y z _ e,
        ) in
        worked_so _ _ _ _ _ _ x z _ _ (worked_then _ _ _ _ _ _ x y z _ _ _ (worked_so _ _ _ _ 0 0 x y _ _ d size_for (omega arith) (λ t q. q)) (worked_changes _ _ _ y z _ known) (λ t p. p.0) (λ a b failed le p q. record {
          asked = begun_end (meaning size stands) Only (Resize file to ∷ []) (trace_of (a ++ b) failed x z) w (sized_then a b failed p.1 q.0.3);
          calls = inr (far, then_none a b (Resize file to ∷ []) (ap (λ (l : Exchanges). changes_in l) p.1) q.1);
          content = λ c is n.
              let o = q.0.0 c is (clear a b c n) in
              record { now = record { size_is = is.size_is; tree = o.now }; agree = λ h. inr (uncounted a b failed le p.1 q.0.1 q.0.2, still (resized c to) (p.2 c h)); backed = λ h. o.backed (lasts x.held y.held c p.3 h) };
          blame = tree_blame_on is_local file size count (block_count to) For stands stands x y z a b failed w far le tree_for q.0.1 (λ c is n. (is, λ h. lasts x.held y.held c p.3 h)) q.0.2;
        })) (λ call q. q) (omega (arith, low)) (λ t q. q)

    pub was_cut : (v : Unit {0}) →
        Worked HandsPage 0 Tree (top (max count (block_count to))) y z (TreeOutcome file Tree stands stands2 y.held z.held (leaves_resized (block_count to) last) (Ok v)) →
        Worked HandsPage 1 For most x z (CutTreeOutcome is_local file size to last stands stands2 x.held z.held (Ok v))
    was_cut v e =
        let still = still_trees is_local file count (block_count to) (top (max count (block_count to))) y z _ e in
        let known : Worked HandsPage 0 For most y z (λ t. TreeOutcome file Tree stands stands2 y.held z.held (leaves_resized (block_count to) last) (Ok v) t × (file_made t ≡ [])) =
        worked_as _ _ Tree For (top (max count (block_count to))) most y z _ _ e tree_for low (e.outcome, tree_quiet is_local file count (block_count to) HandsPage 0 (top (max count (block_count to))) y z _ e) in
        worked_so _ _ _ _ _ _ x z _ _ (worked_then _ _ _ _ _ _ x y z _ _ _ (worked_so _ _ _ _ 0 0 x y _ _ d size_for (omega arith) (λ t q. q)) (worked_changes _ _ _ y z _ known) (λ t p. p.0) (λ a b failed le p q. record {
          failed = q.0.0.0;
          changes = then_none a b (Resize file to ∷ []) (ap (λ (l : Exchanges). changes_in l) p.1) q.1;
          asked = sized_then a b failed p.1 q.0.1;
          content = λ c is n last_is. let o = q.0.0.1 (digests_of c) is.tree (clear a b c n) in record {
            now = record { size_is = sym (length-resized c to); tree = subst stands2.stands last_is o.now };
            agree = λ h. still (resized c to) (p.2 c h);
            backed = λ h. subst (stands2.backed z.held) last_is (o.backed (lasts x.held y.held c p.3 h));
          };
        })) (λ call q. q) (omega arith) (λ t q. q)

-- the digest of the block in which the file ends
module _ (is_local : Type 0) (file size count to : ℕ) (same : count ≡ block_count size) (shorter : to < size) (stands stands2 : Standing) (x y : Told)
    (anchor : Place) (raw page : List ℕ)
    (d : Worked HandsPage 0 (IsForBlock is_local file size (to / 4096)) (top (block_count size) + 1) x y (BringOutcome is_local file size (to / 4096) (meaning size stands) (meaning size stands2) x.held y.held raw (Ok anchor))) where
  there : to / 4096 < count
  there = omega (arith, same, shorter)

  pub digest_other : (m : Mismatch) → m.expected.0 ≢ m.found.0 → m.expected.0 ≡ anchor.digest → m.found.0 ≡ page_hash anchor.salt (padded raw) →
      m.level ≡ anchor.level → m.index ≡ anchor.index →
      Worked HandsPage 0 (IsForBlock is_local file size (to / 4096)) (top (block_count size) + 1) x y (DigestOutcome is_local file size to (meaning size stands) (meaning size stands2) x.held y.held (Err (walk.Mismatch m)))
  digest_other m differ expected found level index = worked_so _ _ _ _ _ _ x y _ _ d (λ call q. q) (omega arith) (λ t b. record {
    kept = λ c is n. (b.prepared.kept c is n).0;
    asked = asked_other file size count (to / 4096) same there (meaning size stands) (meaning size stands2) (λ c is. is.size_is) x.held y.held raw anchor t b m;
    blame = is_other file size count (to / 4096) same there (meaning size stands) (meaning size stands2) (λ c is. is.size_is) x.held y.held raw anchor t b m differ expected found level index;
  })

  pub digest_known : (new : List ℕ) (digest : Digest) → page ≡ padded raw → page_hash anchor.salt (padded raw) ≡ anchor.digest →
      new ≡ take (to % 4096) page ++ replicate (4096 - to % 4096) 0 → digest.0 ≡ page_hash [] new →
      Worked HandsPage 0 (IsForBlock is_local file size (to / 4096)) (top (block_count size) + 1) x y (DigestOutcome is_local file size to (meaning size stands) (meaning size stands2) x.held y.held (Ok digest))
  digest_known new digest is_page met made hash = worked_so _ _ _ _ _ _ x y _ _ d (λ call q. q) (omega arith) (λ t b. record {
    failed = b.prepared.failed;
    asked = asked_known file size count (to / 4096) same there (meaning size stands) (meaning size stands2) (λ c is. is.size_is) x.held y.held raw anchor t b met;
    content = λ c is n.
        let known = is_page ∙ is_known file size count (to / 4096) same there (meaning size stands) (meaning size stands2) (λ c is. is.size_is) x.held y.held raw anchor t b met c is n in
        ((b.prepared.kept c is n).0, ap (λ (bytes : List ℕ). let e : Digest = record { 0 = bytes } in e) (hash ∙ ap (page_hash []) (cut_block c to page new known made)));
  })

-- which calls a new size makes
cut_plain : (file size to : ℕ) → to ≢ size → (size ≤ to) ⊎ (to % 4096 ≡ 0) → cut_calls file size to ≡ Resize file to ∷ []
cut_plain file size to other so =
    let a : nat_eq to size ≡ false = ne_eqb to size other in
    ⊎_elim
    (λ grows. let b : nat_lt to size ≡ false = le-ltb to size grows in rw (a, b) refl)
    (λ aligned. ⊎_elim
    (λ shorter.
    let b : nat_lt to size ≡ true = lt-ltb to size shorter in
    let c : nat_eq (to % 4096) 0 ≡ true = eq-eqb (to % 4096) 0 aligned in rw (a, b, c) refl)
    (λ grows. let b : nat_lt to size ≡ false = le-ltb to size grows in rw (a, b) refl)
    (lt_or_le to size))
    so

cut_inner : (file size to : ℕ) → to < size → to % 4096 ≢ 0 → cut_calls file size to ≡ block_read file size (to / 4096) ∷ Resize file to ∷ []
cut_inner file size to shorter inner =
    let a : nat_eq to size ≡ false = ne_eqb to size (λ e. omega (arith, e, shorter)) in
    let b : nat_lt to size ≡ true = lt-ltb to size shorter in
    let c : nat_eq (to % 4096) 0 ≡ false = ne_eqb (to % 4096) 0 inner in
    rw (a, b, c) refl

cut_same : (file size to : ℕ) → to ≡ size → cut_calls file size to ≡ []
cut_same file size to same = let a : nat_eq to size ≡ true = eq-eqb to size same in rw a refl

-- the digest and then the size
module _ (is_local : Type 0) (file size to : ℕ) (other : to ≢ size) (stands : Standing) (x : Told) where
  low_cut : top (block_count (max size to)) ≤ most_cut size to
  low_cut = omega arith

  low_digest : top (block_count size) + 1 ≤ top (block_count (max size to)) + 1
  low_digest = let low = top-mono (block_count size) (block_count (max size to)) (omega arith) in omega (arith, low)

  pub plain : (u : Unit {0}) (stands2 : Standing) (y : Told) → (size ≤ to) ⊎ (to % 4096 ≡ 0) →
      Worked HandsPage 1 (IsForCut is_local file size to) (top (block_count (max size to))) x y (CutTreeOutcome is_local file size to None stands stands2 x.held y.held (Ok u)) →
      Worked HandsPage 1 (IsForCut is_local file size to) (most_cut size to) x y (ChangeOutcome is_local file size to stands stands2 x.held y.held (Ok u))
  plain u stands2 y so d = worked_so _ _ _ _ _ _ x y _ _ d (λ call q. q) low_cut (λ t q. record {
    failed = q.failed;
    changes = q.changes;
    asked = subst (λ (l : List Call). AreAsked (meaning size stands) Only l t) (sym (cut_plain file size to other so)) q.asked;
    content = λ c is n one. q.content c is n (last_none c to (⊎_elim (λ grows. inl (omega (arith, grows, is.size_is))) (λ aligned. inr aligned) so));
  })

  pub plain_bad : (w : WalkFault) (last : Option Digest) (stands2 : Standing) (y : Told) → (size ≤ to) ⊎ (to % 4096 ≡ 0) →
      Worked HandsPage 1 (IsForCut is_local file size to) (top (block_count (max size to))) x y (CutTreeOutcome is_local file size to last stands stands2 x.held y.held (Err w)) →
      Worked HandsPage 1 (IsForCut is_local file size to) (most_cut size to) x y (ChangeOutcome is_local file size to stands stands2 x.held y.held (Err w))
  plain_bad w last stands2 y so d = worked_so _ _ _ _ _ _ x y _ _ d (λ call q. q) low_cut (λ t q. record {
    calls = q.calls;
    asked = subst (λ (l : List Call). AreBegun (meaning size stands) Only [] l t w) (sym (cut_plain file size to other so)) q.asked;
    content = q.content;
    blame = q.blame;
  })

  module _ (shorter : to < size) (inner : to % 4096 ≢ 0) where
    block_for : (call : Call) → IsForBlock is_local file size (to / 4096) call → IsForCut is_local file size to call
    block_for call (inl is) = (other, inl (shorter, inner, is))
    block_for call (inr t) = (other, inr (inr (tree_wider is_local file (block_count size) (block_count size) (block_count size) (block_count to) (omega arith) (omega arith) call t)))

    pub no_digest : (w : WalkFault) (stands2 : Standing) (y : Told) →
        Worked HandsPage 0 (IsForBlock is_local file size (to / 4096)) (top (block_count size) + 1) x y (DigestOutcome is_local file size to (meaning size stands) (meaning size stands2) x.held y.held (Err w)) →
        Worked HandsPage 1 (IsForCut is_local file size to) (most_cut size to) x y (ChangeOutcome is_local file size to stands stands2 x.held y.held (Err w))
    no_digest w stands2 y d = worked_more _ 0 1 _ _ x y _ (omega arith) (worked_so _ _ _ _ _ _ x y _ _ (worked_changes _ _ _ x y _ d) block_for (omega (arith, low_digest)) (λ t q. record {
      calls = inl q.1;
      asked = begun_in (meaning size stands) Only [] (block_read file size (to / 4096) ∷ []) (Resize file to ∷ []) _ t w (sym (cut_inner file size to shorter inner)) q.0.asked;
      content = λ c is n. let k = q.0.kept c is n in record { now = k.now; agree = λ h. inl (k.agree h); backed = k.backed };
      blame = blame_so is_local file _ _ (meaning size stands) Only (λ c. c) t w block_for x.held q.0.blame;
    }))

    module _ (digest : Digest) (stands1 : Standing) (y : Told)
        (d : Worked HandsPage 0 (IsForBlock is_local file size (to / 4096)) (top (block_count size) + 1) x y (DigestOutcome is_local file size to (meaning size stands) (meaning size stands1) x.held y.held (Ok digest))) (stands2 : Standing) (z : Told) where
      clear2 : (a b : Exchanges) (c : List ℕ) → NoClash (IsFileHashed (Only c) (a ++ b)) → NoClash (IsFileHashed (Only c) b)
      clear2 a b c n = apart_fewer (IsFileHashed (Only c) b) (IsFileHashed (Only c) (a ++ b)) (file_hashed (Only c) (Only c) b (a ++ b) (λ v e. e) (piece_right a b)) n

      two_calls : ((block_read file size (to / 4096) ∷ []) ++ Resize file to ∷ []) ++ [] ≡ cut_calls file size to
      two_calls = append-nil (block_read file size (to / 4096) ∷ Resize file to ∷ []) ∙ sym (cut_inner file size to shorter inner)

      follows : (a b : Exchanges) → IsDigested file size to (meaning size stands) (meaning size stands1) x.held y.held digest (trace_of a 0 x y) →
          Follows (meaning size stands) (meaning size stands1) Only (λ c. c) a b
      follows a b p = λ c is n. ((each_more (meaning size stands) Only Only a (a ++ b) _ (λ c v e. e) (piece_left a b) p.content c is n).0.now, clear2 a b c n, λ f at want said i right. right)

      calls_on : (a b : Exchanges) → changes_in a ≡ [] → CutsNone is_local file to b → CutsNone is_local file to (a ++ b)
      calls_on a b none (inl is) = inl (none_then a b [] none is)
      calls_on a b none (inr far) = inr (far.0, none_then a b (Resize file to ∷ []) none far.1)

      first : Worked HandsPage 0 (IsForCut is_local file size to) (top (block_count (max size to)) + 1) x y (DigestOutcome is_local file size to (meaning size stands) (meaning size stands1) x.held y.held (Ok digest))
      first = worked_so _ _ _ _ _ _ x y _ _ d block_for low_digest (λ t q. q)

      pub with_bad : (w : WalkFault) (last : Option Digest) →
          Worked HandsPage 1 (IsForCut is_local file size to) (top (block_count (max size to))) y z (CutTreeOutcome is_local file size to last stands1 stands2 y.held z.held (Err w)) →
          Worked HandsPage 1 (IsForCut is_local file size to) (most_cut size to) x z (ChangeOutcome is_local file size to stands stands2 x.held z.held (Err w))
      with_bad w last e = worked_so _ _ _ _ _ _ x z _ _ (worked_then _ _ _ _ _ _ x y z _ _ _ (worked_changes _ _ _ x y _ first) e (λ t p. p.0.failed) (λ a b failed le p q. record {
        calls = calls_on a b p.1 q.calls;
        asked = begun_in (meaning size stands) Only _ (Resize file to ∷ []) [] _ (trace_of (a ++ b) failed x z) w two_calls
            (begun_on (meaning size stands) Only Only (λ c v i. i) (block_read file size (to / 4096) ∷ []) x y z a b failed p.0.asked (meaning size stands1) (λ c. c) [] (Resize file to ∷ []) w (follows a b p.0) q.asked);
        content = λ c is n.
            let k = each_more (meaning size stands) Only Only a (a ++ b) _ (λ c v e. e) (piece_left a b) p.0.content c is n in
            let l = q.content c k.0.now (clear2 a b c n) in
            record { now = l.now; agree = λ h. ⊎_elim (λ same. inl same) (λ u. inr (uncounted_on file (IsTreeTo is_local file size to) (IsTreeTo is_local file size to) (λ call q. q) x y z le is_local (Resize file to) (Resize file to) a b failed w refl u.0, u.1)) (l.agree (k.0.agree h)); backed = λ h. l.backed (k.0.backed h) };
        blame = blame_on is_local file (IsForCut is_local file size to) (IsForCut is_local file size to) (meaning size stands1) (meaning size stands) Only (λ c. c) x y z a b failed w le (λ call q. q)
            (λ c is n. ((each_more (meaning size stands) Only Only a (a ++ b) _ (λ c v e. e) (piece_left a b) p.0.content c is n).0.now, clear2 a b c n, (let k = (each_more (meaning size stands) Only Only a (a ++ b) _ (λ c v e. e) (piece_left a b) p.0.content c is n).0 in λ h bk. (k.agree h, k.backed bk)))) q.blame;
      })) (λ call q. q) (omega arith) (λ t q. q)

      pub with_digest : (u : Unit {0}) →
          Worked HandsPage 1 (IsForCut is_local file size to) (top (block_count (max size to))) y z (CutTreeOutcome is_local file size to (Some digest) stands1 stands2 y.held z.held (Ok u)) →
          Worked HandsPage 1 (IsForCut is_local file size to) (most_cut size to) x z (ChangeOutcome is_local file size to stands stands2 x.held z.held (Ok u))
      with_digest u e = worked_so _ _ _ _ _ _ x z _ _ (worked_then _ _ _ _ _ _ x y z _ _ _ (worked_changes _ _ _ x y _ first) e (λ t p. p.0.failed) (λ a b failed le p q. record {
        failed = q.failed;
        changes = none_then a b (Resize file to ∷ []) p.1 q.changes;
        asked = subst (λ (l : List Call). AreAsked (meaning size stands) Only l (trace_of (a ++ b) failed x z)) (sym (cut_inner file size to shorter inner))
            (asked_on (meaning size stands) Only Only (λ c v i. i) (block_read file size (to / 4096) ∷ []) x y z a b failed p.0.asked (meaning size stands1) (λ c. c) (Resize file to ∷ []) (follows a b p.0) q.asked);
        content = λ c is n one.
            let k = each_more (meaning size stands) Only Only a (a ++ b) _ (λ c v e. e) (piece_left a b) p.0.content c is n in
            let l = q.content c k.0.now (clear2 a b c n) (last_some c to digest inner k.1) in
            record { now = l.now; agree = λ h. l.agree (k.0.agree h); backed = λ h. l.backed (k.0.backed h) };
      })) (λ call q. q) (omega arith) (λ t q. q)

-- the answer
resized_same : (c : List ℕ) (to : ℕ) → to ≡ length c → resized c to ≡ c
resized_same c to is =
    let none : to - length c ≡ 0 = omega (arith, is) in
    ap (λ (n : ℕ). take to c ++ replicate {A = ℕ} n 0) none ∙ append-nil (take to c) ∙ take_all to c (omega (arith, is))

pub same_size : (is_local : Type 0) (file size to : ℕ) (stands : Standing) (x : Told) (u : Unit {0}) → to ≡ size →
    Worked HandsPage 1 (IsForCut is_local file size to) (most_cut size to) x x (CutOutcome is_local file size to (meaning size stands) (meaning size stands) x.held x.held (Ok u))
same_size is_local file size to stands x u same = worked_none _ _ _ _ x _ (record {
  failed = refl;
  calls = inl (same, refl);
  asked = subst (λ (l : List Call). AreAsked (meaning size stands) Only l (trace_of [] 0 x x)) (sym (cut_same file size to same)) (asked_none (meaning size stands) Only (trace_of [] 0 x x) refl);
  content = λ c is n. subst (λ (v : List ℕ). IsNow (meaning size stands) (meaning size stands) file x.held x.held c v) (sym (resized_same c to (same ∙ is.size_is))) (record { now = is; agree = λ h. h; backed = λ h. h });
})

pub cut_past : (is_local : Type 0) (file size to : ℕ) (before : Meaning) (x : Told) → 4294967296 < to → to ≡ min to (2 ^ 64 - 1) →
    Worked HandsPage 1 (IsForCut is_local file size to) (most_cut size to) x x (CutOutcome is_local file size to before before x.held x.held (Err (fault.TooLarge to)))
cut_past is_local file size to before x large is =
    worked_none _ _ _ _ x _ (refl, record { large = large; end_is = is; none = refl; failed = refl; kept = λ c b. (b, λ held bk. bk) })

pub cut_no_room : (is_local : Type 0) (file size to : ℕ) (before after : Meaning) (x : Told) → IsSame before after →
    Worked HandsPage 1 (IsForCut is_local file size to) (most_cut size to) x x (CutOutcome is_local file size to before after x.held x.held (Err fault.Memory))
cut_no_room is_local file size to before after x keeps = worked_none _ _ _ _ x _ (inl (record { none = refl; failed = refl; kept = keeps }))

module _ (is_local : Type 0) (file size to : ℕ) (first stands stands2 : Standing) (x y : Told)
    (keeps : (ds : List Digest) → first.stands ds → stands.stands ds)
    (backs : (ds : List Digest) → first.stands ds → (held : Option Held) → first.backed held ds → stands.backed held ds) where
  from : IsSame (meaning size first) (meaning size stands)
  from c is = (record { size_is = is.size_is; tree = keeps (digests_of c) is.tree }, λ held bk. backs (digests_of c) is.tree held bk)

  pub cut_bad : (w : WalkFault) →
      Worked HandsPage 1 (IsForCut is_local file size to) (most_cut size to) x y (ChangeOutcome is_local file size to stands stands2 x.held y.held (Err w)) →
      Worked HandsPage 1 (IsForCut is_local file size to) (most_cut size to) x y (CutOutcome is_local file size to (meaning size first) (meaning size stands2) x.held y.held (Err (because w)))
  cut_bad w d = worked_so _ _ _ _ _ _ x y _ _ d (λ call q. q) (omega arith) (λ t q.
      says_because (IsUncut is_local file size to (cut_calls file size to) (meaning size first) (meaning size stands2) x.held y.held t) _ _ w (record {
        calls = q.calls;
        asked = begun_from (meaning size stands) (meaning size first) Only [] _ t w (λ c is. (from c is).0) q.asked;
        content = λ c is n. let o = q.content c (from c is).0 n in record { now = o.now; agree = o.agree; backed = λ bk. o.backed ((from c is).1 x.held bk) };
        blame = blame_from is_local file (IsForCut is_local file size to) (meaning size stands) (meaning size first) Only (λ c. c) t w from x.held q.blame;
      }))

  pub cut_good : (u : Unit {0}) →
      Worked HandsPage 1 (IsForCut is_local file size to) (most_cut size to) x y (ChangeOutcome is_local file size to stands stands2 x.held y.held (Ok u)) →
      Worked HandsPage 1 (IsForCut is_local file size to) (most_cut size to) x y (CutOutcome is_local file size to (meaning size first) (meaning to stands2) x.held y.held (Ok u))
  cut_good u d = worked_so _ _ _ _ _ _ x y _ _ d (λ call q. q) (omega arith) (λ t q. record {
    failed = q.failed;
    calls = inr q.changes;
    asked = asked_from (meaning size stands) (meaning size first) Only _ t (λ c is. (from c is).0) q.asked;
    content = λ c is n. let o = q.content c (from c is).0 n tt in record { now = o.now; agree = o.agree; backed = λ bk. o.backed ((from c is).1 x.held bk) };
  })

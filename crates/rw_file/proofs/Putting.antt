-- Bytes of one block, written: the page, the call, and the digest.
use Rattle.std.proofs.Common.{◌≡◌, ℕ, ◌+◌, ◌-◌, ◌*◌, ◌/◌, ◌%◌, ◌<◌, ◌≤◌, ◌∙◌, ◌⊎◌, List, [], ◌∷◌, ◌++◌, length, set, replicate, min, max, Some, Result, Ok, Err, true, false, refl, ap, sym, subst, arith, inl, inr, ⊎_elim, append_assoc}
use Rattle.std.specs.Prelude.{◌≢◌, nat_lt}
use Rattle.std.proofs.lemmas.Bool.{lt-ltb, le-ltb}
use Rattle.mg_base.specs.declared.values.Digest.{Digest}
use Rattle.host_traits.specs.declared.calls.Call.{Call}
use Rattle.host_traits.specs.declared.calls.Call.TheVariants.{FileWrite}
use Rattle.host_traits.specs.declared.calls.Said.{Said}
use Rattle.host_traits.specs.declared.calls.Said.TheVariants.{Done}
use Rattle.host_traits.specs.Held.{over}
use Rattle.host_traits.specs.Told.{Told, Exchanges, Answered, Refused, Unheard}
use Rattle.host_traits.specs.Did.{Trace, trace_of, IsIn}
use Rattle.leaf_tree.specs.Worked.{Worked, HandsPage}
use Rattle.host_traits.proofs.Doing.{is_failed, failed_later, failed_so}
use Rattle.leaf_tree.proofs.Working.{worked_more, worked_hands, worked_answered, worked_refused, worked_unheard, worked_calls, worked_as, worked_none, worked_so, worked_then}
use Rattle.sha_tree.specs.Tree.{padded, block_count, page_hash, top}
use Rattle.sha_tree.specs.Path.{NoClash}
use Rattle.verity_path.specs.States.{Place}
use Rattle.verity_path.specs.declared.states.Mismatch.{Mismatch}
use Rattle.verity_path.specs.declared.walk.WalkFault.{WalkFault}
use Rattle.verity_path.specs.declared.walk.WalkFault.TheVariants as walk
use Rattle.verity_path.proofs.Pieces.{piece_left, piece_right}
use Rattle.leaf_tree.specs.Leaves.{resized as leaves_resized, IsTreeHashed}
use Rattle.leaf_tree.specs.Outcomes.{Standing, IsTreeCall, IsTreeBlame, IsBecome, TreeOutcome, Keeps}
use Rattle.rw_file.specs.Contents.{Meaning, IsContent, meaning, IsAtHost, IsFileHashed, Only, digests_of, leaf_of}
use Rattle.rw_file.specs.Calls.{block_read, block_write, bare_read, block_calls, IsForFileWrite, Hands, changes_in}
use Rattle.rw_file.specs.Asked.{file_made, AreAsked, AreBegun}
use Rattle.rw_file.specs.Blame.{Each, IsFileBlame}
use Rattle.rw_file.specs.Rows.{IsUncounted, IsTreeTo}
use Rattle.rw_file.specs.Steps.{AllStill, IsThis, IsTried, IsForBlock, PrepareOutcome, BringOutcome, BaseOutcome, Fits, spliced, with_leaf, WriteOutOutcome, BlockOutcome, base_most, settle_most}
use Rattle.rw_file.proofs.Bytes.{lt_or_le, length-over}
use Rattle.rw_file.proofs.Changing.{none_then, then_none, worked_changes}
use Rattle.rw_file.proofs.Handing.{whole_hands, page_hands}
use Rattle.rw_file.proofs.Uncounted.{fault_of}
use Rattle.rw_file.proofs.Holding.{held_by, held_refused, held_unheard, written, written_tree, still_same, still_trees}
use Rattle.rw_file.proofs.Hashed.{apart_fewer, tree_hashed, each_more}
use Rattle.rw_file.proofs.Bringing.{Lasts, tree_blame_on, kept_so}
use Rattle.rw_file.proofs.Ordered.{tree_quiet, tried_last, tried_none, asked_none, asked_more, asked_still, begun_in, begun_end, begun_tried, bare_yes, bare_no}
use Rattle.rw_file.proofs.Known.{is_known, is_other, asked_known, asked_other}
use Rattle.rw_file.proofs.Splicing.{fits_known, fits_fresh, fits_covered, with_leaf_digests, top-mono}

-- calls for trees of sizes between these are calls for trees of sizes between wider ones
pub tree_wider : (is_local : Type 0) (file a b c d : ℕ) → min c d ≤ min a b → max a b ≤ max c d → (call : Call) → IsTreeCall is_local file a b call →
    IsTreeCall is_local file c d call
tree_wider is_local file a b c d low high call t = record {
  far = t.far;
  blocks = t.blocks;
  least = omega (arith, t.least, low);
  most = omega (arith, t.most, high);
  level = t.level;
  index = t.index;
  place = t.place;
  call_is = t.call_is;
}

-- the digest was put into the list
module _ (is_local : Type 0) (file count index : ℕ) (digest : Digest) (stands stands2 : Standing)
    (counted : (ds : List Digest) → stands.stands ds → length ds ≡ count) where
  abbrev more : ℕ
  more = max count (index + 1)

  pub noted : (x : Told) (u : Unit {0}) → index < count → Keeps stands.stands stands2.stands (λ ds. set ds index digest) →
      ((ds : List Digest) → stands.stands ds → stands.backed x.held ds → stands2.backed x.held (set ds index digest)) →
      Worked HandsPage 0 (IsTreeCall is_local file count more) (settle_most count index) x x (TreeOutcome file (IsTreeCall is_local file count more) stands stands2 x.held x.held (with_leaf index digest) (Ok u))
  noted x u there k kb = worked_none _ _ _ _ x _ (refl, λ ds is n. let test : nat_lt index (length ds) ≡ true = lt-ltb index (length ds) (omega (arith, counted ds is, there)) in rw test (record { now = k ds is; backed = kb ds is }))

  grown : (r : Result (Unit {0}) WalkFault) (made : List Digest → List Digest) (x y : Told) → count ≤ index →
      Worked HandsPage 0 (IsTreeCall is_local file count (index + 1)) (top (max count (index + 1))) x y (TreeOutcome file (IsTreeCall is_local file count (index + 1)) stands stands2 x.held y.held made r) →
      Worked HandsPage 0 (IsTreeCall is_local file count more) (settle_most count index) x y (TreeOutcome file (IsTreeCall is_local file count more) stands stands2 x.held y.held made r)
  grown r made x y fresh d =
      let same : index + 1 ≡ max count (index + 1) = omega (arith, fresh) in
      let test : nat_lt index count ≡ false = le-ltb index count fresh in
      rw test (subst (λ (n : ℕ). Worked HandsPage 0 (IsTreeCall is_local file count n) (top (max count (index + 1))) x y (TreeOutcome file (IsTreeCall is_local file count n) stands stands2 x.held y.held made r)) same d)

  pub not_grown : (w : WalkFault) (x y : Told) → count ≤ index →
      Worked HandsPage 0 (IsTreeCall is_local file count (index + 1)) (top (max count (index + 1))) x y (TreeOutcome file (IsTreeCall is_local file count (index + 1)) stands stands2 x.held y.held (leaves_resized (index + 1) (Some digest)) (Err w)) →
      Worked HandsPage 0 (IsTreeCall is_local file count more) (settle_most count index) x y (TreeOutcome file (IsTreeCall is_local file count more) stands stands2 x.held y.held (with_leaf index digest) (Err w))
  not_grown w x y fresh d = grown (Err w) (leaves_resized (index + 1) (Some digest)) x y fresh d

  pub was_grown : (u : Unit {0}) (x y : Told) → count ≤ index →
      Worked HandsPage 0 (IsTreeCall is_local file count (index + 1)) (top (max count (index + 1))) x y (TreeOutcome file (IsTreeCall is_local file count (index + 1)) stands stands2 x.held y.held (leaves_resized (index + 1) (Some digest)) (Ok u)) →
      Worked HandsPage 0 (IsTreeCall is_local file count more) (settle_most count index) x y (TreeOutcome file (IsTreeCall is_local file count more) stands stands2 x.held y.held (with_leaf index digest) (Ok u))
  was_grown u x y fresh d =
      worked_so _ _ _ _ _ _ x y _ _ (grown (Ok u) (leaves_resized (index + 1) (Some digest)) x y fresh d) (λ call c. c) (omega arith)
      (λ t b. (b.0, λ ds is n. let test : nat_lt index (length ds) ≡ false = le-ltb index (length ds) (omega (arith, counted ds is, fresh)) in rw test (b.1 ds is n)))

-- the call that writes
module _ (file at : ℕ) (part : List ℕ) (x y : Told) where
  pub out_ok : (u : Unit {0}) → Answered (FileWrite file at (length part)) part Done x y →
      Worked (Hands at part) 1 (IsThis (FileWrite file at (length part))) 0 x y (WriteOutOutcome file at part x.held y.held (Ok u))
  out_ok u a = worked_answered _ _ _ (FileWrite file at (length part)) part Done 0 x y _ refl (whole_hands file at part) (omega arith) (omega arith) a (refl, refl, written file at (length part) part Done x.held y.held (held_by _ part Done x y a), written_tree file at (length part) part Done x.held y.held (held_by _ part Done x y a))

  pub out_failed : (faults : ℕ) → Refused (FileWrite file at (length part)) part x y → faults ≡ y.faults →
      Worked (Hands at part) 1 (IsThis (FileWrite file at (length part))) 0 x y (WriteOutOutcome file at part x.held y.held (Err (walk.Failed faults)))
  out_failed faults r is = worked_refused _ _ _ (FileWrite file at (length part)) part 0 x y _ refl (whole_hands file at part) (omega arith) (omega arith) r (still_same file x.held y.held (held_refused _ part x y r), is_failed _ (FileWrite file at (length part)) part x y [] faults refl r is, refl)

  pub out_memory : Unheard x y →
      Worked (Hands at part) 1 (IsThis (FileWrite file at (length part))) 0 x y (WriteOutOutcome file at part x.held y.held (Err walk.Memory))
  out_memory u =
      worked_unheard _ _ _ 0 x y _ u (still_same file x.held y.held (held_unheard x y u), record { failed = refl; scarce = u.scarce }, refl)

-- the page over which the bytes are put
module _ (is_local : Type 0) (file size count at len : ℕ) (same : count ≡ block_count size) (some : 0 < len) (one : at % 4096 + len ≤ 4096)
    (stands stands2 : Standing) (x y : Told) where
  abbrev index : ℕ
  index = at / 4096

  tree_for : (call : Call) → IsTreeCall is_local file (block_count size) (block_count size) call → IsForFileWrite is_local file size at len call
  tree_for call c = (some, inr (inr (tree_wider is_local file (block_count size) (block_count size) (block_count size) (block_count (max size (at + len))) (omega arith) (omega arith) call c)))

  -- the bound, where the block is there
  pub there_most : (R : Trace → Type 0) → index < count →
      Worked HandsPage 0 (IsForFileWrite is_local file size at len) (top (block_count size) + 1) x y R →
      Worked HandsPage 0 (IsForFileWrite is_local file size at len) (base_most (block_count size) (at / 4096)) x y R
  there_most R there d =
      let test : nat_lt (at / 4096) (block_count size) ≡ true = lt-ltb (at / 4096) (block_count size) (omega (arith, there, same)) in rw test d

  -- no read
  unread : (before : Meaning) (t : Trace) → bare_read file size at (at + len) index ≡ [] → file_made t ≡ [] →
      AreAsked before Only (bare_read file size at (at + len) index) t
  unread before t none made = subst (λ (l : List Call). AreAsked before Only l t) (sym none) (asked_none before Only t made)

  pub base_fresh : (u : Unit {0}) (page : List ℕ) → count ≤ index → page ≡ replicate 4096 0 →
      Worked HandsPage 0 (IsForFileWrite is_local file size at len) (base_most (block_count size) (at / 4096)) x x
      (BaseOutcome is_local file size at len (meaning size stands) (meaning size stands) x.held x.held page (Ok u))
  base_fresh u page fresh zeros = worked_none _ _ _ _ x _ (record {
    failed = refl;
    asked = unread (meaning size stands) (trace_of [] 0 x x) (bare_no file size at (at + len) index (inl (omega (arith, fresh, same)))) refl;
    content =
        λ c is n. (record { now = is; agree = λ h. h; backed = λ h. h }, fits_fresh page c at len one zeros (omega (arith, fresh, same, is.size_is)));
  })

  pub base_unprepared : (w : WalkFault) (page : List ℕ) →
      Worked HandsPage 0 (IsTreeCall is_local file (block_count size) (block_count size)) (top (block_count size)) x y (PrepareOutcome is_local file size index (meaning size stands) (meaning size stands2) x.held y.held (Err w)) →
      Worked HandsPage 0 (IsForFileWrite is_local file size at len) (top (block_count size) + 1) x y (BaseOutcome is_local file size at len (meaning size stands) (meaning size stands2) x.held y.held page (Err w))
  base_unprepared w page d = worked_so _ _ _ _ _ _ x y _ _ d tree_for (omega arith) (λ t q. kept_so is_local file _ _ [] (bare_read file size at (at + len) index) _ (meaning size stands) (meaning size stands2) x.held y.held t w tree_for refl q)

  pub base_covered : (u : Unit {0}) (anchor : Place) (page : List ℕ) → page ≡ replicate 4096 0 → at % 4096 ≡ 0 → min size (at + 4096) ≤ at + len →
      Worked HandsPage 0 (IsTreeCall is_local file (block_count size) (block_count size)) (top (block_count size)) x y (PrepareOutcome is_local file size index (meaning size stands) (meaning size stands2) x.held y.held (Ok anchor)) →
      Worked HandsPage 0 (IsForFileWrite is_local file size at len) (top (block_count size) + 1) x y (BaseOutcome is_local file size at len (meaning size stands) (meaning size stands2) x.held y.held page (Ok u))
  base_covered u anchor page zeros begins covered d = worked_so _ _ _ _ _ _ x y _ _ d tree_for (omega arith) (λ t q. record {
    failed = q.failed;
    asked =
        unread (meaning size stands) t (bare_no file size at (at + len) index (inr (omega (arith, begins), omega (arith, begins, covered)))) q.made;
    content = λ c is n. (
      (q.kept c is n).0,
      fits_covered page c at len one zeros begins (subst (λ (s : ℕ). min s (at + 4096) ≤ at + len) is.size_is covered),
    );
  })

  module _ (there : index < count) (bare : (at % 4096 ≢ 0) ⊎ (at + len < min size (at + 4096))) where
    bare_is : (4096 * index < at) ⊎ (at + len < min size (4096 * (index + 1)))
    bare_is = ⊎_elim (λ inner. inl (omega (arith, inner))) (λ few. ⊎_elim (λ low. inl low) (λ high. inr (omega (arith, few, high))) (lt_or_le (4096 * index) at)) bare

    bare_one : bare_read file size at (at + len) index ≡ block_read file size index ∷ []
    bare_one = bare_yes file size at (at + len) index (omega (arith, there, same)) bare_is

    block_for : (call : Call) → IsForBlock is_local file size index call → IsForFileWrite is_local file size at len call
    block_for call (inl is) = (
      some,
      inl (record {
        block = index;
        from = omega arith;
        to = omega (arith, some);
        there = omega (arith, there, same);
        bare = bare_is;
        call_is = is;
      }),
    )
    block_for call (inr c) = tree_for call c

    pub base_unbrought : (w : WalkFault) (page raw : List ℕ) →
        Worked HandsPage 0 (IsForBlock is_local file size index) (top (block_count size) + 1) x y (BringOutcome is_local file size index (meaning size stands) (meaning size stands2) x.held y.held raw (Err w)) →
        Worked HandsPage 0 (IsForFileWrite is_local file size at len) (top (block_count size) + 1) x y (BaseOutcome is_local file size at len (meaning size stands) (meaning size stands2) x.held y.held page (Err w))
    base_unbrought w page raw d = worked_so _ _ _ _ _ _ x y _ _ d block_for (omega arith) (λ t q.
        kept_so is_local file _ _ (block_read file size index ∷ []) [] _ (meaning size stands) (meaning size stands2) x.held y.held t w block_for (sym bare_one) q)

    module _ (anchor : Place) (page raw : List ℕ)
        (d : Worked HandsPage 0 (IsForBlock is_local file size index) (top (block_count size) + 1) x y (BringOutcome is_local file size index (meaning size stands) (meaning size stands2) x.held y.held raw (Ok anchor))) where
      pub base_other : (m : Mismatch) → m.expected.0 ≢ m.found.0 → m.expected.0 ≡ anchor.digest → m.found.0 ≡ page_hash anchor.salt (padded raw) →
          m.level ≡ anchor.level → m.index ≡ anchor.index →
          Worked HandsPage 0 (IsForFileWrite is_local file size at len) (top (block_count size) + 1) x y (BaseOutcome is_local file size at len (meaning size stands) (meaning size stands2) x.held y.held page (Err (walk.Mismatch m)))
      base_other m differ expected found level at_index = worked_so _ _ _ _ _ _ x y _ _ d block_for (omega arith) (λ t b. record {
        kept = λ c is n. (b.prepared.kept c is n).0;
        asked = subst (λ (l : List Call). AreBegun (meaning size stands) Only [] l t (walk.Mismatch m)) (sym bare_one) (asked_other file size count index same there (meaning size stands) (meaning size stands2) (λ c is. is.size_is) x.held y.held raw anchor t b m);
        blame = is_other file size count index same there (meaning size stands) (meaning size stands2) (λ c is. is.size_is) x.held y.held raw anchor t b m differ expected found level at_index;
      })

      pub base_known : (u : Unit {0}) → page ≡ padded raw → page_hash anchor.salt (padded raw) ≡ anchor.digest →
          Worked HandsPage 0 (IsForFileWrite is_local file size at len) (top (block_count size) + 1) x y (BaseOutcome is_local file size at len (meaning size stands) (meaning size stands2) x.held y.held page (Ok u))
      base_known u is_page met = worked_so _ _ _ _ _ _ x y _ _ d block_for (omega arith) (λ t b. record {
        failed = b.prepared.failed;
        asked = subst (λ (l : List Call). AreAsked (meaning size stands) Only l t) (sym bare_one) (asked_known file size count index same there (meaning size stands) (meaning size stands2) (λ c is. is.size_is) x.held y.held raw anchor t b met);
        content = λ c is n. (
          (b.prepared.kept c is n).0,
          fits_known page c at len one (is_page ∙ is_known file size count index same there (meaning size stands) (meaning size stands2) (λ c is. is.size_is) x.held y.held raw anchor t b met c is n),
        );
      })

-- the three together
module _ (is_local : Type 0) (file size count at : ℕ) (part : List ℕ) (same : count ≡ block_count size) (some : 0 < length part)
    (one : at % 4096 + length part ≤ 4096) (stands stands1 : Standing) (x y : Told) where
  abbrev i : ℕ
  i = at / 4096

  abbrev end : ℕ
  end = at + length part

  abbrev For : Call → Type 0
  For = IsForFileWrite is_local file size at (length part)

  abbrev most : ℕ
  most = top (block_count (max size end)) + 1

  base_low : base_most (block_count size) i ≤ most
  base_low = ⊎_elim
      (λ there. let test : nat_lt i (block_count size) ≡ true = lt-ltb i (block_count size) there in
      let low = top-mono (block_count size) (block_count (max size end)) (omega arith) in rw test (omega (arith, low)))
      (λ fresh. let test : nat_lt i (block_count size) ≡ false = le-ltb i (block_count size) fresh in rw test (omega arith))
      (lt_or_le i (block_count size))

  all_low : base_most (block_count size) i + 0 + settle_most count i ≤ most
  all_low = ⊎_elim
      (λ there. let test : nat_lt i (block_count size) ≡ true = lt-ltb i (block_count size) there in
      let low = top-mono (block_count size) (block_count (max size end)) (omega arith) in
      let test2 : nat_lt i count ≡ true = lt-ltb i count (omega (arith, there, same)) in rw (test, test2) (omega (arith, low)))
      (λ fresh. let test : nat_lt i (block_count size) ≡ false = le-ltb i (block_count size) fresh in
      let test2 : nat_lt i count ≡ false = le-ltb i count (omega (arith, fresh, same)) in
      let low = top-mono (max count (i + 1)) (block_count (max size end)) (omega (arith, same, some)) in rw (test, test2) (omega (arith, low)))
      (lt_or_le i (block_count size))

  begins : max at (4096 * i) ≡ at
  begins = omega arith

  ends : min end (4096 * (i + 1)) - at ≡ length part
  ends = omega (arith, one)

  write_is : FileWrite file at (length part) ≡ block_write file at end i
  write_is = ap (λ (n : ℕ). FileWrite file at n) (sym ends) ∙ ap (λ (n : ℕ). FileWrite file n (min end (4096 * (i + 1)) - n)) (sym begins)

  all_calls : bare_read file size at end i ++ FileWrite file at (length part) ∷ [] ≡ block_calls file size at end i
  all_calls = ap (λ (c : Call). bare_read file size at end i ++ c ∷ []) write_is

  out_for : (call : Call) → IsThis (FileWrite file at (length part)) call → For call
  out_for call is = (some, inr (inl (record { block = i; from = omega arith; to = omega (arith, some); call_is = is ∙ write_is })))

  settle_for : (call : Call) → IsTreeCall is_local file count (max count (i + 1)) call → For call
  settle_for call c = (some, inr (inr (tree_wider is_local file count (max count (i + 1)) (block_count size) (block_count (max size end)) (omega (arith, same)) (omega (arith, same, some)) call c)))

  lift : (m : ℕ) (a b : Told) (P : Trace → Type 0) → Worked HandsPage 0 For m a b P → Worked (Hands at part) 0 For m a b P
  lift m a b P d = worked_hands HandsPage (Hands at part) 0 For m a b P (λ call given c p. page_hands at part call given p) d

  pub put_no_base : (w : WalkFault) (page : List ℕ) →
      Worked HandsPage 0 For (base_most (block_count size) i) x y (BaseOutcome is_local file size at (length part) (meaning size stands) (meaning size stands1) x.held y.held page (Err w)) →
      Worked (Hands at part) 1 For most x y (BlockOutcome is_local file size at part stands stands1 x.held y.held (Err w))
  put_no_base w page d = worked_more _ 0 1 _ _ x y _ (omega arith) (worked_so _ _ _ _ _ _ x y _ _ (lift _ x y _ (worked_changes _ _ _ x y _ d)) (λ call q. q) base_low (λ t q. record {
    asked = begun_in (meaning size stands) Only [] (bare_read file size at end i) (block_write file at end i ∷ []) _ t w refl q.0.asked;
    writes = inl q.1;
    content = λ c is n. let k = q.0.kept c is n in record { now = k.now; agree = λ h. inl (k.agree h); backed = k.backed };
    blame = q.0.blame;
  }))

  module _ (u : Unit {0}) (page : List ℕ)
      (d : Worked HandsPage 0 For (base_most (block_count size) i) x y (BaseOutcome is_local file size at (length part) (meaning size stands) (meaning size stands1) x.held y.held page (Ok u)))
      (z : Told) (lasts : Lasts file (meaning size stands1)) where
    out_blame : (w : WalkFault) (a b : Exchanges) (failed : ℕ) → x.faults ≤ y.faults →
        WriteOutOutcome file at part y.held z.held (Err w) (trace_of b failed y z) →
        AllStill file y.held z.held × IsFileBlame is_local x.held file For (meaning size stands) Only (λ c. c) (trace_of (a ++ b) failed x z) w
    out_blame (walk.Mismatch m) a b failed le q = absurd q
    out_blame (walk.Short asked got) a b failed le q = absurd q
    out_blame (walk.Failed faults) a b failed le q = (q.0, failed_later For x y z a b failed faults le (failed_so _ _ _ faults out_for q.1))
    out_blame walk.Memory a b failed le q = (q.0, (q.1.failed, λ l. q.1.scarce))

    out_none : (w : WalkFault) (b : Exchanges) (failed : ℕ) → WriteOutOutcome file at part y.held z.held (Err w) (trace_of b failed y z) → b ≡ []
    out_none (walk.Mismatch m) b failed q = absurd q
    out_none (walk.Short asked got) b failed q = absurd q
    out_none (walk.Failed faults) b failed q = q.2
    out_none walk.Memory b failed q = q.2

    -- it was not made, or it failed
    out_tried : (w : WalkFault) (b : Exchanges) (failed : ℕ) → WriteOutOutcome file at part y.held z.held (Err w) (trace_of b failed y z) →
        IsTried (FileWrite file at (length part)) (trace_of b failed y z) w
    out_tried (walk.Mismatch m) b failed q = absurd q
    out_tried (walk.Short asked got) b failed q = absurd q
    out_tried (walk.Failed faults) b failed q = tried_last (FileWrite file at (length part)) refl (trace_of b failed y z) faults q.1 q.2
    out_tried walk.Memory b failed q = tried_none (FileWrite file at (length part)) (trace_of b failed y z) walk.Memory q.1.failed q.2

    pub put_not_out : (w : WalkFault) →
        Worked (Hands at part) 1 (IsThis (FileWrite file at (length part))) 0 y z (WriteOutOutcome file at part y.held z.held (Err w)) →
        Worked (Hands at part) 1 For most x z (BlockOutcome is_local file size at part stands stands1 x.held z.held (Err w))
    put_not_out w e = worked_so _ _ _ _ _ _ x z _ _ (worked_then _ _ _ _ _ _ x y z _ _ _ (lift _ x y _ (worked_changes _ _ _ x y _ d)) (worked_so _ _ _ _ 0 0 y z _ _ e out_for (omega arith) (λ t q. q)) (λ t p. p.0.failed) (λ a b failed le p q.
        let blame = out_blame w a b failed le q in record {
          asked = subst (λ (l : List Call). AreBegun (meaning size stands) Only [] l (trace_of (a ++ b) failed x z) w) all_calls
              (begun_tried (meaning size stands) Only Only (λ c v e. e) (bare_read file size at end i) x y z a b failed p.0.asked (FileWrite file at (length part)) w (out_tried w b failed q));
          writes = inl (none_then a b [] p.1 (ap (λ (l : Exchanges). changes_in l) (out_none w b failed q)));
          content = λ c is n.
              let k = each_more (meaning size stands) Only Only a (a ++ b) _ (λ c v e. e) (piece_left a b) p.0.content c is n in
              record { now = k.0.now; agree = λ h. inl (blame.0.bytes c (k.0.agree h)); backed = λ h. lasts y.held z.held c blame.0.tree (k.0.backed h) };
          blame = blame.1;
        })) (λ call q. q) (omega (arith, base_low)) (λ t q. q)

    -- the bytes are at the host
    abbrev Ready : Trace → Type 0
    Ready t = (t.failed ≡ 0) × Each (meaning size stands) Only t.own (λ c. IsContent size stands1.stands c × Fits at (length part) c page × (IsAtHost x.held file c → IsAtHost z.held file (over c at part)) × (stands.backed x.held (digests_of c) → stands1.backed z.held (digests_of c)))
        × ((before : Exchanges) × (t.own ≡ before ++ (FileWrite file at (length part), Done) ∷ [])) × (changes_in t.own ≡ FileWrite file at (length part) ∷ []) × AreAsked (meaning size stands) Only (block_calls file size at end i) t

    ready : (v : Unit {0}) →
        Worked (Hands at part) 1 (IsThis (FileWrite file at (length part))) 0 y z (WriteOutOutcome file at part y.held z.held (Ok v)) →
        Worked (Hands at part) 1 For (base_most (block_count size) i + 0) x z Ready
    ready v e = worked_then _ _ _ _ _ _ x y z _ _ _ (lift _ x y _ (worked_changes _ _ _ x y _ d)) (worked_so _ _ _ _ 0 0 y z _ _ e out_for (omega arith) (λ t q. q)) (λ t p. p.0.failed) (λ a b failed le p q. (
      q.0,
      λ c is n. (let k = each_more (meaning size stands) Only Only a (a ++ b) _ (λ c v e. e) (piece_left a b) p.0.content c is n in
          (k.0.now, k.1, λ h. q.2 c (k.0.agree h), λ h. lasts y.held z.held c q.3 (k.0.backed h))),
      (a, ap (λ (l : Exchanges). a ++ l) q.1),
      none_then a b (FileWrite file at (length part) ∷ []) p.1 (ap (λ (l : Exchanges). changes_in l) q.1),
      subst (λ (l : List Call). AreAsked (meaning size stands) Only l (trace_of (a ++ b) failed x z)) all_calls
          (asked_more (meaning size stands) Only Only (λ c v e. e) (bare_read file size at end i) x y z a b failed p.0.asked (FileWrite file at (length part)) Done (λ f k n e. (cc)) refl q.0 q.1),
    ))

    module _ (v : Unit {0})
        (e : Worked (Hands at part) 1 (IsThis (FileWrite file at (length part))) 0 y z (WriteOutOutcome file at part y.held z.held (Ok v)))
        (digest : Digest) (stands2 : Standing) (w : Told) where
      abbrev Tree : Call → Type 0
      Tree = IsTreeCall is_local file count (max count (i + 1))

      clear : (a b : Exchanges) (c : List ℕ) → NoClash (IsFileHashed (Only c) (a ++ b)) → NoClash (IsTreeHashed (digests_of c) b)
      clear a b c n =
          apart_fewer (IsTreeHashed (digests_of c) b) (IsFileHashed (Only c) (a ++ b)) (tree_hashed (Only c) c b (a ++ b) refl (piece_right a b)) n

      pub put_unsettled : (why : WalkFault) → (is_local → ⊥) →
          Worked HandsPage 0 Tree (settle_most count i) z w (TreeOutcome file Tree stands1 stands2 z.held w.held (with_leaf i digest) (Err why)) →
          Worked (Hands at part) 1 For most x w (BlockOutcome is_local file size at part stands stands2 x.held w.held (Err why))
      put_unsettled why far f =
          let still = still_trees is_local file count (max count (i + 1)) (settle_most count i) z w _ f in
          let wide : (call : Call) → Tree call → IsTreeTo is_local file size (max size end) call =
          λ call c. tree_wider is_local file count (max count (i + 1)) (block_count size) (block_count (max size end)) (omega (arith, same)) (omega (arith, same, some)) call c in
          let uncounted : (a b : Exchanges) (failed : ℕ) (why : WalkFault) → x.faults ≤ z.faults → (before : Exchanges) × (a ≡ before ++ (FileWrite file at (length part), Done) ∷ []) → ((call : Call) (said : Said) → IsIn call said b → Tree call) →
          IsTreeBlame file Tree stands1 z.held (trace_of b failed z w) why → IsUncounted is_local file (IsTreeTo is_local file size (max size end)) (FileWrite file at (length part)) (trace_of (a ++ b) failed x w) why = λ a b failed why le cut later blame. record {
            far = far;
            before = cut.0;
            rest = b;
            own_is = ap (λ (l : Exchanges). l ++ b) cut.1 ∙ append_assoc cut.0 ((FileWrite file at (length part), Done) ∷ []) b;
            later = λ call said i. wide call (later call said i);
            fault = fault_of file Tree (IsTreeTo is_local file size (max size end)) wide x z w le stands1 z.held a b failed why blame;
          } in
          let known : Worked HandsPage 0 For (settle_most count i) z w (λ t. ((c : List ℕ) → IsContent size stands1.stands c → NoClash (IsTreeHashed (digests_of c) t.own) → IsBecome stands2 z.held w.held (stands1.backed z.held (digests_of c)) (digests_of c)) × ((call : Call) (said : Said) → IsIn call said t.own → Tree call) × IsTreeBlame file Tree stands1 z.held t why × (file_made t ≡ [])) =
          worked_as _ _ Tree For (settle_most count i) (settle_most count i) z w _ _ f settle_for (omega arith) (
            λ c is n. f.outcome.0 (digests_of c) is.tree n,
            worked_calls Tree f.own f.calls,
            f.outcome.1,
            tree_quiet is_local file count (max count (i + 1)) HandsPage 0 (settle_most count i) z w _ f,
          ) in
          worked_so _ _ _ _ _ _ x w _ _ (worked_then _ _ _ _ _ _ x z w _ _ _ (ready v e) (lift _ z w _ (worked_changes _ _ _ z w _ known)) (λ t p. p.0) (λ a b failed le p q. record {
            asked = begun_end (meaning size stands) Only (block_calls file size at end i) (trace_of (a ++ b) failed x w) why
                (asked_still (meaning size stands) Only Only (λ c v e. e) (block_calls file size at end i) x z w a b failed p.4 q.0.3);
            writes = inr (far, then_none a b (FileWrite file at (length part) ∷ []) p.3 q.1);
            content = λ c is n.
                let k = each_more (meaning size stands) Only Only a (a ++ b) _ (λ c v e. e) (piece_left a b) p.1 c is n in
                let o = q.0.0 c k.0 (clear a b c n) in
                record { now = record { size_is = is.size_is; tree = o.now }; agree = λ h. inr (uncounted a b failed why le p.2 q.0.1 q.0.2, still (over c at part) (k.2 h)); backed = λ h. o.backed (k.3 h) };
            blame = tree_blame_on is_local file size count (max count (i + 1)) For stands1 stands x z w a b failed why far le settle_for q.0.1
                (λ c is n. let k = each_more (meaning size stands) Only Only a (a ++ b) _ (λ c v e. e) (piece_left a b) p.1 c is n in (k.0, k.3)) q.0.2;
          })) (λ call q. q) all_low (λ t q. q)

      pub put_all : (k : Unit {0}) (new : List ℕ) → new ≡ spliced page (at % 4096) part → digest.0 ≡ page_hash [] new →
          Worked HandsPage 0 Tree (settle_most count i) z w (TreeOutcome file Tree stands1 stands2 z.held w.held (with_leaf i digest) (Ok k)) →
          Worked (Hands at part) 1 For most x w (BlockOutcome is_local file size at part stands stands2 x.held w.held (Ok k))
      put_all k new new_is hash f =
          let still = still_trees is_local file count (max count (i + 1)) (settle_most count i) z w _ f in
          let known : Worked HandsPage 0 For (settle_most count i) z w (λ t. TreeOutcome file Tree stands1 stands2 z.held w.held (with_leaf i digest) (Ok k) t × (file_made t ≡ [])) =
          worked_as _ _ Tree For (settle_most count i) (settle_most count i) z w _ _ f settle_for (omega arith) (f.outcome, tree_quiet is_local file count (max count (i + 1)) HandsPage 0 (settle_most count i) z w _ f) in
          worked_so _ _ _ _ _ _ x w _ _ (worked_then _ _ _ _ _ _ x z w _ _ _ (ready v e) (lift _ z w _ (worked_changes _ _ _ z w _ known)) (λ t p. p.0) (λ a b failed le p q. record {
            failed = q.0.0.0;
            writes = then_none a b (FileWrite file at (length part) ∷ []) p.3 q.1;
            asked = asked_still (meaning size stands) Only Only (λ c v e. e) (block_calls file size at end i) x z w a b failed p.4 q.0.1;
            content = λ c is n.
                let g = each_more (meaning size stands) Only Only a (a ++ b) _ (λ c v e. e) (piece_left a b) p.1 c is n in
                let leaf : digest ≡ leaf_of (over c at part) i = ap (λ (bytes : List ℕ). let d : Digest = record { 0 = bytes } in d) (hash ∙ ap (page_hash []) (new_is ∙ g.1 part refl)) in
                let o = q.0.0.1 (digests_of c) g.0.tree (clear a b c n) in
                record {
                  now = record {
                    size_is = ap (λ (s : ℕ). max s end) is.size_is ∙ sym (length-over c at part);
                    tree = subst stands2.stands (with_leaf_digests c at part digest some one leaf) o.now;
                  };
                  agree = λ h. still (over c at part) (g.2 h);
                  backed = λ h. subst (stands2.backed w.held) (with_leaf_digests c at part digest some one leaf) (o.backed (g.3 h));
                };
          })) (λ call q. q) all_low (λ t q. q)

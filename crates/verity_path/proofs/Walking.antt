-- A walk, page by page.
use Rattle.std.proofs.Common.{◌≡◌, ℕ, ◌+◌, ◌-◌, ◌/◌, ◌%◌, ◌<◌, ◌≤◌, ◌∙◌, List, [], ◌∷◌, ◌++◌, zero, suc, append_assoc, append-nil, Result, Ok, Err, refl, ap, sym, subst, arith, inl, inr, ⊎_elim}
use Rattle.host_traits.specs.declared.calls.Call.{Call}
use Rattle.host_traits.specs.Told.{Told, Exchanges}
use Rattle.host_traits.specs.declared.calls.Said.{Said}
use Rattle.host_traits.specs.declared.calls.Said.TheVariants.{Bytes}
use Rattle.host_traits.specs.Did.{Trace, trace_of, Did, IsIn}
use Rattle.host_traits.proofs.Doing.{did_none, did_so, did_then, failed_later, scarce_later, failed_so}
use Rattle.sha_tree.specs.declared.measure.Measure.{Measure}
use Rattle.sha_tree.specs.Tree.{block as content_block, ancestor, page_hash, slot, top}
use Rattle.sha_tree.specs.Measured.{HasTree}
use Rattle.sha_tree.specs.Path.{IsDerived, NoClash}
use Rattle.sha_tree.proofs.Levels.{ancestor-top, ancestor-page, ancestor-above, ancestor-zero}
use Rattle.sha_tree.proofs.Sound.{derived_more, derived_top, derived_below, all_sound}
use Rattle.verity_path.specs.States.{Place, Met}
use Rattle.verity_path.specs.Calls.{IsOnPath, asked_for, call_for, piece_for}
use Rattle.verity_path.specs.Order.{IsInOrder, asked_in, walk_calls}
use Rattle.verity_path.specs.Judged.{AreRight}
use Rattle.verity_path.specs.Pieces.{IsPiece, IsHashed}
use Rattle.verity_path.specs.Steps.{IsCallFor, IsFetched, IsFetchBlame, ProvedOutcome, IsBelow}
use Rattle.verity_path.specs.Walk.{IsWalkBlame, IsProved, WalkOutcome}
use Rattle.verity_path.specs.declared.walk.Layout.{Layout}
use Rattle.verity_path.specs.declared.walk.WalkFault.{WalkFault}
use Rattle.verity_path.specs.declared.walk.WalkFault.TheVariants as fault
use Rattle.verity_path.proofs.Pieces.{piece_left, piece_right}
use Rattle.verity_path.proofs.Judged.{right_left, right_both, judged_one}
use Rattle.verity_path.proofs.Order.{asked-append, did_in_order, later_order, last_later, last_short_later}

-- a call for the page over a block is on its path
pub on_path : (layout : Layout) (m : Measure) (block count level index : ℕ) → count ≡ m.blocks → level ≤ top m.blocks → index ≡ ancestor block level →
    (call : Call) → IsCallFor layout count level index call → IsOnPath layout m block call
on_path layout m block count level index same low is call c = record {
  level = level;
  level_in = low;
  call_is = c.call_is ∙ ap (λ (n : ℕ). call_for layout n level index) same ∙ ap (λ (i : ℕ). call_for layout m.blocks level i) is;
}

-- the hash of a page that meets an anchor
hash_met : (m : Measure) (a : Place) (p : List ℕ) → a.salt ≡ m.salt → page_hash a.salt p ≡ a.digest → a.digest ≡ page_hash m.salt p
hash_met m a p salt met = sym met ∙ ap (λ (s : List ℕ). page_hash s p) salt

-- where a walk stands: no call failed, the anchor is that of the page over the block, its digest is tied to that place, the
-- calls so far are those above the level, and each answer is right
abbrev pub Stands : Layout → Measure → ℕ → ℕ → Place → Trace → Type 0
Stands layout m block level a t =
    (t.failed ≡ 0) × IsDerived (IsPiece t.own) m level (ancestor block level) a.digest
    × (asked_in t.own ++ walk_calls layout m.blocks block level ≡ walk_calls layout m.blocks block (top m.blocks))
    × AreRight layout m t.own t.own

-- the anchor of a level on the way to a block
pub record IsAt (m : Measure) (block level : ℕ) (a : Place) : Type 0 where
  pub low : level ≤ top m.blocks
  pub level_is : a.level ≡ level
  pub index_is : a.index ≡ ancestor block level
  pub salt_is : a.salt ≡ m.salt

pub next_at : (m : Measure) (block : ℕ) (layout : Layout) (count : ℕ) (a b : Place) (level : ℕ) (t : Trace) → 0 < level → IsAt m block level a
    → IsBelow layout count block a t b → IsAt m block (level - 1) b
next_at m block layout count a b level t some at q =
    let slot_is : ancestor block (a.level - 1) ≡ ancestor block (level - 1) = ap (λ (l : ℕ). ancestor block (l - 1)) at.level_is in
    record {
      low = omega (arith, at.low);
      level_is = omega (arith, q.level_is, at.level_is);
      index_is = omega (arith, q.index_is, at.index_is, slot_is, ancestor-above block level some);
      salt_is = q.salt_is ∙ at.salt_is;
    }

module _ (layout : Layout) (m : Measure) (block count : ℕ) (same : count ≡ m.blocks) (within : block < m.blocks) where
  pub begins : (a : Place) (level : ℕ) (told : Told) → m.blocks ≤ 1048576 → level ≡ top m.blocks → a.digest ≡ m.root.0 →
      Did (IsOnPath layout m block) (top m.blocks - level) told told (Stands layout m block level a)
  begins a level told limit is root =
      let zero_is : ancestor block level ≡ 0 = ap (ancestor block) is ∙ ancestor-top m.blocks block within limit in
      did_none (IsOnPath layout m block) (top m.blocks - level) told (Stands layout m block level a)
      (refl, rw (zero_is, is, root) (derived_top (IsPiece []) m (omega arith) limit), ap (walk_calls layout m.blocks block) is, λ call said i. absurd i)

  -- ---- the order of the calls

  abbrev all_calls : List Call
  all_calls = walk_calls layout m.blocks block (top m.blocks)

  abbrev below_calls : ℕ → List Call
  below_calls zero = []
  below_calls (suc level) = walk_calls layout m.blocks block level

  first_call : (level : ℕ) → walk_calls layout m.blocks block level ≡ call_for layout m.blocks level (ancestor block level) ∷ below_calls level
  first_call zero = refl
  first_call (suc level) = refl

  -- the call for an anchor's page is the one of its level
  here_call : (a : Place) (level : ℕ) → IsAt m block level a → call_for layout count a.level a.index ≡ call_for layout m.blocks level (ancestor block level)
  here_call a level at =
      ap (λ (n : ℕ). call_for layout n a.level a.index) same ∙ ap (λ (l : ℕ). call_for layout m.blocks l a.index) at.level_is
      ∙ ap (call_for layout m.blocks level) at.index_is

  -- what is left begins with it
  cut_calls : (u : Exchanges) (a : Place) (level : ℕ) → IsAt m block level a → asked_in u ++ walk_calls layout m.blocks block level ≡ all_calls
      → asked_in u ++ (call_for layout count a.level a.index ∷ below_calls level) ≡ all_calls
  cut_calls u a level at so =
      ap (λ (c : Call). asked_in u ++ (c ∷ below_calls level)) (here_call a level at) ∙ ap (λ (cs : List Call). asked_in u ++ cs) (sym (first_call level)) ∙ so

  called : (u v : Exchanges) (a : Place) (level : ℕ) → IsAt m block level a → asked_in u ++ walk_calls layout m.blocks block level ≡ all_calls
      → asked_in v ≡ call_for layout count a.level a.index ∷ [] → asked_in (u ++ v) ++ below_calls level ≡ all_calls
  called u v a level at so one =
      ap (λ (cs : List Call). cs ++ below_calls level) (asked-append u v) ∙ append_assoc (asked_in u) (asked_in v) (below_calls level)
      ∙ ap (λ (cs : List Call). asked_in u ++ (cs ++ below_calls level)) one ∙ cut_calls u a level at so

  below_is : (level : ℕ) → 0 < level → below_calls level ≡ walk_calls layout m.blocks block (level - 1)
  below_is zero some = absurd (omega (arith, some))
  below_is (suc level) some = let less : suc level - 1 ≡ level = omega arith in ap (walk_calls layout m.blocks block) (sym less)

  -- the call for an anchor's page is on the path
  path : (a : Place) (level : ℕ) → IsAt m block level a → (call : Call) → IsCallFor layout count a.level a.index call → IsOnPath layout m block call
  path a level at = on_path layout m block count a.level a.index same (omega (arith, at.low, at.level_is)) (at.index_is ∙ ap (ancestor block) (sym at.level_is))

  -- what is tied stays so, where the page that meets the anchor was heard
  tied_hash : (u v : Exchanges) (a : Place) (level : ℕ) (p : List ℕ) → IsAt m block level a
      → IsDerived (IsPiece u) m level (ancestor block level) a.digest → page_hash a.salt p ≡ a.digest
      → IsDerived (IsPiece (u ++ v)) m level (ancestor block level) (page_hash m.salt p)
  tied_hash u v a level p at d met =
      subst (λ (x : List ℕ). IsDerived (IsPiece (u ++ v)) m level (ancestor block level) x) (hash_met m a p at.salt_is met)
      (derived_more (IsPiece u) (IsPiece (u ++ v)) m (piece_left u v) level (ancestor block level) a.digest d)

  -- the answer in which a page was fetched is right
  fetched_right : (u v : Exchanges) (t : Trace) (a : Place) (level : ℕ) (p : List ℕ) → IsAt m block level a
      → IsDerived (IsPiece u) m level (ancestor block level) a.digest → t.own ≡ v → IsFetched layout count a t p → AreRight layout m (u ++ v) v
  fetched_right u v t a level p at d own q call said i =
      let alone : IsIn call said ((call_for layout count a.level a.index, Bytes q.bytes) ∷ []) = subst (IsIn call said) (sym own ∙ q.own) i in
      let e : (call, said) ≡ (call_for layout count a.level a.index, Bytes q.bytes) = ⊎_elim (λ is. is) (λ none. absurd none) alone in
      let page_is : p ≡ piece_for layout m.blocks a.level a.index q.bytes = q.is ∙ ap (λ (n : ℕ). piece_for layout n a.level a.index q.bytes) same in
      record {
        level = a.level;
        index = a.index;
        bytes = q.bytes;
        call_is = ap (λ (x : Call × Said). x.0) e ∙ ap (λ (n : ℕ). call_for layout n a.level a.index) same;
        said_is = ap (λ (x : Call × Said). x.1) e;
        whole = q.whole ∙ ap (λ (n : ℕ). asked_for layout n a.level a.index) same;
        tied =
            subst (λ (x : List ℕ). IsDerived (IsPiece (u ++ v)) m a.level a.index (page_hash m.salt x)) page_is
            (subst (λ (k : ℕ). IsDerived (IsPiece (u ++ v)) m a.level k (page_hash m.salt p)) (sym at.index_is)
            (subst (λ (l : ℕ). IsDerived (IsPiece (u ++ v)) m l (ancestor block level) (page_hash m.salt p)) (sym at.level_is) (tied_hash u v a level p at d q.met)));
      }

  below : (u v : Exchanges) (t : Trace) (a b : Place) (level : ℕ) → 0 < level → IsAt m block level a
      → IsDerived (IsPiece u) m level (ancestor block level) a.digest → t.own ≡ v → IsBelow layout count block a t b
      → IsDerived (IsPiece (u ++ v)) m (level - 1) (ancestor block (level - 1)) b.digest
  below u v t a b level some at d own q =
      let up : level ≡ level - 1 + 1 = omega arith in
      let hash = tied_hash u v a level q.page at d q.fetched.met in
      let above : IsDerived (IsPiece (u ++ v)) m (level - 1 + 1) (ancestor block (level - 1) / 128) (page_hash m.salt q.page) =
      subst (λ (l : ℕ). IsDerived (IsPiece (u ++ v)) m l (ancestor block (level - 1) / 128) (page_hash m.salt q.page)) up
      (subst (λ (i : ℕ). IsDerived (IsPiece (u ++ v)) m level i (page_hash m.salt q.page)) (ancestor-above block level some) hash) in
      derived_below (IsPiece (u ++ v)) m (level - 1) (ancestor block (level - 1)) q.page b.digest
      (piece_right u v q.page (subst (λ (e : Exchanges). IsPiece e q.page) own q.fetched.piece)) above
      (ancestor-page m.blocks block (level - 1) within)
      (q.digest_is ∙ ap (λ (l : ℕ). slot q.page (ancestor block (l - 1) % 128)) at.level_is)

  pub goes_on : (a b : Place) (level : ℕ) (x y z : Told) → 0 < level → IsAt m block level a →
      Did (IsOnPath layout m block) (top m.blocks - level) x y (Stands layout m block level a) →
      Did (IsCallFor layout count a.level a.index) 1 y z (λ t. IsBelow layout count block a t b) →
      Did (IsOnPath layout m block) (top m.blocks - (level - 1)) x z (Stands layout m block (level - 1) b)
  goes_on a b level x y z some at d e =
      let low = at.low in
      let one = did_so (IsCallFor layout count a.level a.index) (IsOnPath layout m block) 1 1 y z _ _ e (path a level at) (omega arith) (λ t q. q) in
      let all : Did (IsOnPath layout m block) (top m.blocks - level + 1) x z (Stands layout m block (level - 1) b) =
      did_then (IsOnPath layout m block) (top m.blocks - level) 1 x y z (Stands layout m block level a) (λ t. IsBelow layout count block a t b)
      (Stands layout m block (level - 1) b) d one (λ t p. p.0)
      (λ u v failed le p q. (
        q.fetched.failed,
        below u v _ a b level some at p.1 refl q,
        ap (λ (cs : List Call). asked_in (u ++ v) ++ cs) (sym (below_is level some)) ∙ called u v a level at p.2 (ap asked_in q.fetched.own),
        right_both layout m u v p.3 (fetched_right u v _ a level q.page at p.1 refl q.fetched),
      )) in
      did_so (IsOnPath layout m block) (IsOnPath layout m block) (top m.blocks - level + 1) (top m.blocks - (level - 1)) x z _ _ all
      (λ call f. f) (omega arith) (λ t q. q)

  blamed : (u v : Exchanges) (failed : ℕ) (x y z : Told) (a : Place) (level : ℕ) (fault : WalkFault) → x.faults ≤ y.faults → IsAt m block level a →
      IsDerived (IsPiece u) m level (ancestor block level) a.digest → IsFetchBlame layout count a (trace_of v failed y z) fault →
      IsWalkBlame layout m (IsOnPath layout m block) (trace_of (u ++ v) failed x z) fault
  blamed u v failed x y z a level (fault.Mismatch w) le at d q =
      let level_is = q.level_is ∙ at.level_is in
      let index_is = q.index_is ∙ at.index_is in
      record {
        failed = q.failed;
        differ = q.differ;
        bytes = q.bytes;
        own = rw (q.level_is, q.index_is, ← same) (last_later _ _ u v (record { before = []; is = q.own }));
        whole = rw (q.level_is, q.index_is, ← same) q.whole;
        piece = rw (q.level_is, q.index_is, ← same) q.piece;
        found = rw (q.level_is, q.index_is, ← same, ← at.salt_is) q.found;
        expected = rw (level_is, index_is, q.expected) (derived_more (IsPiece u) (IsPiece (u ++ v)) m (piece_left u v) level (ancestor block level) a.digest d);
      }
  blamed u v failed x y z a level (fault.Short asked got) le at d q = last_short_later x y z u v failed asked got (record { short = q.short; last = record { before = []; is = q.own } })
  blamed u v failed x y z a level (fault.Failed faults) le at d q =
      failed_later (IsOnPath layout m block) x y z u v failed faults le
      (failed_so (IsCallFor layout count a.level a.index) (IsOnPath layout m block) _ faults (path a level at) q.0)
  blamed u v failed x y z a level fault.Memory le at d q = scarce_later x y z u v failed q.0

  pub fails : (a : Place) (level : ℕ) (x y z : Told) (fault : WalkFault) → IsAt m block level a →
      Did (IsOnPath layout m block) (top m.blocks - level) x y (Stands layout m block level a) →
      Did (IsCallFor layout count a.level a.index) 1 y z (λ t. IsFetchBlame layout count a t fault) →
      Did (IsOnPath layout m block) (top m.blocks + 1) x z (WalkOutcome layout m block (Err fault))
  fails a level x y z fault at d e =
      let call : Call = call_for layout count a.level a.index in
      let ordered = did_in_order (IsCallFor layout count a.level a.index) call y z (λ t. IsFetchBlame layout count a t fault) (λ c f. f.call_is) e in
      let one = did_so (IsCallFor layout count a.level a.index) (IsOnPath layout m block) 1 1 y z _ _ ordered (path a level at) (omega arith) (λ t q. q) in
      let all : Did (IsOnPath layout m block) (top m.blocks - level + 1) x z (WalkOutcome layout m block (Err fault)) =
      did_then (IsOnPath layout m block) (top m.blocks - level) 1 x y z (Stands layout m block level a)
      (λ t. IsInOrder (call ∷ []) t × IsFetchBlame layout count a t fault)
      (WalkOutcome layout m block (Err fault)) d one (λ t p. p.0)
      (λ u v failed le p q. (
        blamed u v failed x y z a level fault le at p.1 q.1,
        later_order (asked_in u) (call ∷ []) (below_calls level) all_calls u v failed x y z (cut_calls u a level at p.2) refl q.0,
        record {
          before = u;
          last = v;
          is = refl;
          count = judged_one layout count a (trace_of v failed y z) fault q.1;
          right = right_left layout m u v u p.3;
        },
      )) in
      did_so (IsOnPath layout m block) (IsOnPath layout m block) (top m.blocks - level + 1) (top m.blocks + 1) x z _ _ all
      (λ call f. f) (omega arith) (λ t q. q)

  -- a piece that is tied to a block's place is the content's
  pub sound : (own : Exchanges) (p content : List ℕ) → IsPiece own p → IsDerived (IsPiece own) m 0 block (page_hash m.salt p) → HasTree m content → NoClash (IsHashed own content m.salt) →
      p ≡ content_block content block
  sound own p content piece d tree apart =
      (all_sound (IsPiece own) (IsHashed own content m.salt) m content tree (omega arith) apart
      (λ q i. inl (record { p = q; piece = i; is = refl })) (λ x i. inr i)).blocks block p piece d

  proved : (u v : Exchanges) (failed : ℕ) (x y z : Told) (a : Place) (p : Met) → IsAt m block 0 a
      → IsDerived (IsPiece u) m 0 (ancestor block 0) a.digest → p.anchor ≡ a → IsFetched layout count a (trace_of v failed y z) p.page
      → IsProved m block (trace_of (u ++ v) failed x z) p
  proved u v failed x y z a p at d anchor q =
      let piece = piece_right u v p.page q.piece in
      let derived : IsDerived (IsPiece (u ++ v)) m 0 block (page_hash m.salt p.page) =
      subst (λ (i : ℕ). IsDerived (IsPiece (u ++ v)) m 0 i (page_hash m.salt p.page)) (ancestor-zero block) (tied_hash u v a 0 p.page at d q.met) in
      record {
        failed = q.failed;
        piece = piece;
        len = q.len;
        derived = derived;
        sound = λ content tree apart. sound (u ++ v) p.page content piece derived tree apart;
        level_is = ap (λ (w : Place). w.level) anchor ∙ at.level_is;
        index_is = ap (λ (w : Place). w.index) anchor ∙ at.index_is ∙ ancestor-zero block;
        salt_is = ap (λ (w : Place). w.salt) anchor ∙ at.salt_is;
        met = rw anchor q.met;
      }

  pub ends : (a : Place) (level : ℕ) (x y z : Told) (r : Result Met WalkFault) → level ≡ 0 → IsAt m block level a →
      Did (IsOnPath layout m block) (top m.blocks - level) x y (Stands layout m block level a) →
      Did (IsCallFor layout count a.level a.index) 1 y z (ProvedOutcome layout count a r) →
      Did (IsOnPath layout m block) (top m.blocks + 1) x z (WalkOutcome layout m block r)
  ends a level x y z (Ok p) none at d e =
      let at_zero : IsAt m block 0 a = subst (λ (l : ℕ). IsAt m block l a) none at in
      let one = did_so (IsCallFor layout count a.level a.index) (IsOnPath layout m block) 1 1 y z _ _ e (path a level at) (omega arith) (λ t q. q) in
      let all : Did (IsOnPath layout m block) (top m.blocks - level + 1) x z (WalkOutcome layout m block (Ok p)) =
      did_then (IsOnPath layout m block) (top m.blocks - level) 1 x y z (Stands layout m block level a) (λ t. IsFetched layout count a t p.page × (p.anchor ≡ a))
      (WalkOutcome layout m block (Ok p)) d one (λ t s. s.0)
      (λ u v failed le s q. (
        proved u v failed x y z a p at_zero (subst (λ (l : ℕ). IsDerived (IsPiece u) m l (ancestor block l) a.digest) none s.1) q.1 q.0,
        sym (append-nil (asked_in (u ++ v))) ∙ called u v a 0 at_zero
            (subst (λ (l : ℕ). asked_in u ++ walk_calls layout m.blocks block l ≡ all_calls) none s.2) (ap asked_in q.0.own),
        right_both layout m u v s.3 (fetched_right u v _ a 0 p.page at_zero
            (subst (λ (l : ℕ). IsDerived (IsPiece u) m l (ancestor block l) a.digest) none s.1) refl q.0),
      )) in
      did_so (IsOnPath layout m block) (IsOnPath layout m block) (top m.blocks - level + 1) (top m.blocks + 1) x z _ _ all
      (λ call f. f) (omega arith) (λ t q. q)
  ends a level x y z (Err fault) none at d e = fails a level x y z fault at d e

-- The digest of a block, and its bytes at the host.
use Rattle.std.proofs.Common.{◌≡◌, ℕ, ◌+◌, ◌<◌, ◌≤◌, ◌∙◌, List, [], ◌∷◌, ◌++◌, length, Option, true, false, Result, Ok, Err, refl, ap, sym, subst, inl, inr, arith, append-nil}
use Rattle.mg_base.specs.declared.values.Digest.{Digest}
use Rattle.host_traits.specs.declared.calls.Call.{Call}
use Rattle.host_traits.specs.declared.calls.Said.{Said}
use Rattle.host_traits.specs.Held.{Held}
use Rattle.host_traits.specs.Told.{Told, Exchanges, heard_of, failures_of}
use Rattle.host_traits.specs.Did.{Trace, trace_of, IsIn}
use Rattle.leaf_tree.specs.Worked.{Worked, HandsPage}
use Rattle.host_traits.proofs.Doing.{failed_later, failed_so}
use Rattle.verity_path.proofs.Order.{last_later, last_short_later}
use Rattle.leaf_tree.proofs.Working.{worked_calls, worked_as, worked_so, worked_then}
use Rattle.sha_tree.specs.Tree.{block, block_count, page_hash, top}
use Rattle.verity_path.specs.States.{Place}
use Rattle.verity_path.specs.declared.walk.WalkFault.{WalkFault}
use Rattle.verity_path.specs.declared.walk.WalkFault.TheVariants as walk
use Rattle.verity_path.proofs.Pieces.{piece_left, piece_right}
use Rattle.sha_tree.specs.Path.{NoClash}
use Rattle.leaf_tree.specs.Leaves.{leaf, IsTreeHashed}
use Rattle.leaf_tree.specs.Outcomes.{Standing, SameTree, IsTreeCall, IsTreeBlame, TreeOutcome}
use Rattle.rw_file.specs.Contents.{Meaning, meaning, IsAtHost, IsContent, IsFileHashed, Only, digests_of}
use Rattle.rw_file.specs.Calls.{block_read}
use Rattle.rw_file.specs.Blame.{Each, IsFileBlame}
use Rattle.rw_file.specs.Rows.{IsNow, IsKept}
use Rattle.rw_file.specs.Asked.{file_calls, failed_call, file_made}
use Rattle.rw_file.specs.Steps.{AllStill, IsThis, IsForBlock, IsAsked, AskBlame, AskOutcome, IsPrepared, PrepareOutcome, BringOutcome}
use Rattle.rw_file.proofs.Ordered.{tree_quiet, made_on, asked_none, begun_none, begun_in, begun_tried}
use Rattle.rw_file.proofs.Holding.{still_trees}
use Rattle.rw_file.proofs.Hashed.{apart_fewer, tree_hashed, file_hashed, kept_by, leaves_of, tree_mismatch, each_more}

pub never : false ≡ true → ⊥
never e = cc

tree_apart : (c : List ℕ) (own : Exchanges) → NoClash (IsFileHashed (Only c) own) → NoClash (IsTreeHashed (digests_of c) own)
tree_apart c own n = apart_fewer (IsTreeHashed (digests_of c) own) (IsFileHashed (Only c) own) (tree_hashed (Only c) c own own refl (λ p q. q)) n

only_right : (c : List ℕ) (p q : Exchanges) → NoClash (IsFileHashed (Only c) (p ++ q)) → NoClash (IsFileHashed (Only c) q)
only_right c p q n =
    apart_fewer (IsFileHashed (Only c) q) (IsFileHashed (Only c) (p ++ q)) (file_hashed (Only c) (Only c) q (p ++ q) (λ v e. e) (piece_right p q)) n

-- the cause of a call on the tree is that of the request
pub tree_blame : (is_local : Type 0) (file size a b : ℕ) (IsFor : Call → Type 0) (stands : Standing) (t : Trace) (w : WalkFault) → (is_local → ⊥) →
    ((call : Call) → IsTreeCall is_local file a b call → IsFor call) → ((call : Call) (said : Said) → IsIn call said t.own → IsTreeCall is_local file a b call) →
    (held : Option Held) → IsTreeBlame file (IsTreeCall is_local file a b) stands held t w → IsFileBlame is_local held file IsFor (meaning size stands) Only (λ c. c) t w
tree_blame is_local file size a b IsFor stands t (walk.Mismatch x) far wider calls held m =
    (tree_mismatch is_local file size a b stands t x calls m.0, λ c is n h. m.1 (digests_of c) is.tree (tree_apart c t.own n))
tree_blame is_local file size a b IsFor stands t (walk.Short asked got) far wider calls held s =
    (s.0, λ c is n h. s.1 (digests_of c) is.tree (tree_apart c t.own n))
tree_blame is_local file size a b IsFor stands t (walk.Failed faults) far wider calls held f = failed_so _ _ t faults wider f
tree_blame is_local file size a b IsFor stands t walk.Memory far wider calls held m = (m, λ l. absurd (far l))

-- the same, where the tree's part comes after others that left the content
pub tree_blame_on : (is_local : Type 0) (file size a b : ℕ) (IsFor : Call → Type 0) (stands first : Standing) (x y z : Told) (p q : Exchanges) (failed : ℕ) (w : WalkFault) →
    (is_local → ⊥) → x.faults ≤ y.faults →
    ((call : Call) → IsTreeCall is_local file a b call → IsFor call) → ((call : Call) (said : Said) → IsIn call said q → IsTreeCall is_local file a b call) →
    Each (meaning size first) Only (p ++ q) (λ c. IsContent size stands.stands c × (first.backed x.held (digests_of c) → stands.backed y.held (digests_of c))) →
    IsTreeBlame file (IsTreeCall is_local file a b) stands y.held (trace_of q failed y z) w → IsFileBlame is_local x.held file IsFor (meaning size first) Only (λ c. c) (trace_of (p ++ q) failed x z) w
tree_blame_on is_local file size a b IsFor stands first x y z p q failed (walk.Mismatch m) far le wider calls mid r =
    let k = tree_mismatch is_local file size a b stands (trace_of q failed y z) m calls r.0 in (
      record { failed = k.failed; differ = k.differ; bytes = k.bytes; call = k.call; page = k.page; own = last_later _ _ p q k.own; found = k.found; expected = λ c is n. k.expected c (mid c is n).0 (only_right c p q n) },
      λ c is n h bk. let there = mid c is n in r.1 (digests_of c) there.0.tree (tree_apart c q (only_right c p q n)) (there.1 bk),
    )
tree_blame_on is_local file size a b IsFor stands first x y z p q failed (walk.Short asked got) far le wider calls mid r =
    (last_short_later x y z p q failed asked got r.0, λ c is n h bk. let there = mid c is n in r.1 (digests_of c) there.0.tree (tree_apart c q (only_right c p q n)) (there.1 bk))
tree_blame_on is_local file size a b IsFor stands first x y z p q failed (walk.Failed faults) far le wider calls mid r =
    failed_later IsFor x y z p q failed faults le (failed_so _ _ _ faults wider r)
tree_blame_on is_local file size a b IsFor stands first x y z p q failed walk.Memory far le wider calls mid r = (r, λ l. absurd (far l))

-- a call on the tree that left its lists and met a fault changed nothing
pub tree_kept : (is_local : Type 0) (file size a b most more : ℕ) (IsFor : Call → Type 0) (stands stands2 : Standing) (made : List Digest → List Digest) (x y : Told) (w : WalkFault) →
    (is_local → ⊥) → most ≤ more →
    ((call : Call) → IsTreeCall is_local file a b call → IsFor call) → Worked HandsPage 0 (IsTreeCall is_local file a b) most x y (TreeOutcome file (IsTreeCall is_local file a b) stands stands2 x.held y.held made (Err w)) →
    Worked HandsPage 0 IsFor more x y (λ t. IsKept is_local file IsFor [] (meaning size stands) (meaning size stands2) x.held y.held t w)
tree_kept is_local file size a b most more IsFor stands stands2 made x y w far le wider d = worked_as _ _ (IsTreeCall is_local file a b) IsFor most more x y _ _ d wider le (record {
  kept = kept_by size stands stands2 file x.held y.held (heard_of d.own) d.outcome.0 (still_trees is_local file a b most x y _ d);
  asked = begun_none (meaning size stands) Only [] (trace_of (heard_of d.own) (failures_of d.own) x y) w (tree_quiet is_local file a b HandsPage 0 most x y _ d);
  blame = tree_blame is_local file size a b IsFor stands (trace_of (heard_of d.own) (failures_of d.own) x y) w far wider (worked_calls (IsTreeCall is_local file a b) d.own d.calls) x.held d.outcome.1;
})

module _ (is_local : Type 0) (file size count i : ℕ) (same : count ≡ block_count size) (stands stands2 : Standing) (x y : Told) where
  at_count : (r : Result (Unit {0}) WalkFault) →
      Worked HandsPage 0 (IsTreeCall is_local file count count) (top count) x y (TreeOutcome file (IsTreeCall is_local file count count) stands stands2 x.held y.held (λ ds. ds) r) →
      Worked HandsPage 0 (IsTreeCall is_local file (block_count size) (block_count size)) (top (block_count size)) x y (TreeOutcome file (IsTreeCall is_local file (block_count size) (block_count size)) stands stands2 x.held y.held (λ ds. ds) r)
  at_count r d = subst (λ (n : ℕ). Worked HandsPage 0 (IsTreeCall is_local file n n) (top n) x y (TreeOutcome file (IsTreeCall is_local file n n) stands stands2 x.held y.held (λ ds. ds) r)) same d

  pub prepare_err : (w : WalkFault) → (is_local → ⊥) →
      Worked HandsPage 0 (IsTreeCall is_local file count count) (top count) x y (TreeOutcome file (IsTreeCall is_local file count count) stands stands2 x.held y.held (λ ds. ds) (Err w)) →
      Worked HandsPage 0 (IsTreeCall is_local file (block_count size) (block_count size)) (top (block_count size)) x y (PrepareOutcome is_local file size i (meaning size stands) (meaning size stands2) x.held y.held (Err w))
  prepare_err w far d = tree_kept is_local file size (block_count size) (block_count size) (top (block_count size)) (top (block_count size)) (IsTreeCall is_local file (block_count size) (block_count size)) stands stands2 (λ ds. ds) x y w far (omega arith)
      (λ call c. c) (at_count (Err w) d)

  pub prepare_ok : (u : Unit {0}) (anchor : Place) → i < count → (anchor.salt ≡ []) × (anchor.level ≡ 0) × (anchor.index ≡ i) →
      ((ds : List Digest) → stands2.stands ds → anchor.digest ≡ leaf ds i) →
      Worked HandsPage 0 (IsTreeCall is_local file count count) (top count) x y (TreeOutcome file (IsTreeCall is_local file count count) stands stands2 x.held y.held (λ ds. ds) (Ok u)) →
      Worked HandsPage 0 (IsTreeCall is_local file (block_count size) (block_count size)) (top (block_count size)) x y (PrepareOutcome is_local file size i (meaning size stands) (meaning size stands2) x.held y.held (Ok anchor))
  prepare_ok u anchor within place digest d =
      let e = at_count (Ok u) d in
      worked_as _ _ _ _ (top (block_count size)) (top (block_count size)) x y _ _ e (λ call c. c) (omega arith) (record {
        failed = e.outcome.0;
        made = tree_quiet is_local file (block_count size) (block_count size) HandsPage 0 (top (block_count size)) x y _ e;
        place = place;
        kept = λ c is n.
            let now = kept_by size stands stands2 file x.held y.held (heard_of e.own) e.outcome.1 (still_trees is_local file (block_count size) (block_count size) (top (block_count size)) x y _ e) c is n in
            let there : i < block_count (length c) = subst (λ (k : ℕ). i < block_count k) is.size_is (omega (arith, same, within)) in
            (now, digest (digests_of c) now.now.tree ∙ leaves_of c i there);
      })

-- a host that keeps its tree backs what it backed
abbrev pub Lasts : ℕ → Meaning → Type 0
Lasts file m = (x y : Option Held) (c : List ℕ) → SameTree file x y → m.backed x c → m.backed y c

-- what is now, after more that left the host's bytes and tree
pub now_still : (before after : Meaning) (file : ℕ) (x y z : Option Held) (c new : List ℕ) → Lasts file after → IsNow before after file x y c new →
    AllStill file y z → IsNow before after file x z c new
now_still before after file x y z c new lasts now still = record { now = now.now; agree = λ h. still.bytes new (now.agree h); backed = λ b. lasts y z new still.tree (now.backed b) }

module _ (is_local : Type 0) (file size i : ℕ) (before after : Meaning) (x y z : Told) (anchor : Place) (raw : List ℕ)
    (d : Worked HandsPage 0 (IsTreeCall is_local file (block_count size) (block_count size)) (top (block_count size)) x y (PrepareOutcome is_local file size i before after x.held y.held (Ok anchor))) (sized : (c : List ℕ) → before.is c → size ≡ length c) (lasts : Lasts file after) where
  agrees : (a b : Exchanges) → IsPrepared file i [] before after x.held y.held anchor (trace_of a 0 x y) →
      Each before Only (a ++ b) (λ c. IsAtHost x.held file c → IsAtHost y.held file c)
  agrees a b p = each_more before Only Only a (a ++ b) _ (λ c v e. e) (piece_left a b) (λ c is n h. (p.kept c is n).0.agree h)

  left : (a b : Exchanges) → IsPrepared file i [] before after x.held y.held anchor (trace_of a 0 x y) → AllStill file y.held z.held →
      Each before Only (a ++ b) (λ c. IsNow before after file x.held z.held c c × (anchor.digest ≡ page_hash [] (block c i)))
  left a b p still = each_more before Only Only a (a ++ b) _ (λ c v e. e) (piece_left a b) (λ c is n. let k = p.kept c is n in (now_still before after file x.held y.held z.held c c lasts k.0 still, k.1))

  all : (f : Result (Unit {0}) WalkFault) → Worked HandsPage 0 (IsThis (block_read file size i)) 1 y z (AskOutcome file size i y.held z.held raw f) →
      (r : Result Place WalkFault) →
      ((a b : Exchanges) (failed : ℕ) → x.faults ≤ y.faults → IsPrepared file i [] before after x.held y.held anchor (trace_of a 0 x y) → AskOutcome file size i y.held z.held raw f (trace_of b failed y z) → BringOutcome is_local file size i before after x.held z.held raw r (trace_of (a ++ b) failed x z)) →
      Worked HandsPage 0 (IsForBlock is_local file size i) (top (block_count size) + 1) x z (BringOutcome is_local file size i before after x.held z.held raw r)
  all f e r so = worked_then _ _ _ _ _ _ x y z _ _ _ (worked_so _ _ _ _ _ _ x y _ _ d (λ call c. inr c) (omega arith) (λ t q. q)) (worked_so _ _ _ _ 1 1 y z _ _ e (λ call is. inl is) (omega arith) (λ t q. q)) (λ t p. p.failed) so

  pub bring_ok : (u : Unit {0}) → Worked HandsPage 0 (IsThis (block_read file size i)) 1 y z (AskOutcome file size i y.held z.held raw (Ok u)) →
      Worked HandsPage 0 (IsForBlock is_local file size i) (top (block_count size) + 1) x z (BringOutcome is_local file size i before after x.held z.held raw (Ok anchor))
  bring_ok u e = all (Ok u) e (Ok anchor) (λ a b failed le p q. record {
    prepared = record {
      failed = q.failed;
      made = made_on x y z a b failed [] (block_read file size i ∷ []) p.made (only_one b failed q);
      place = p.place;
      kept = left a b p q.still;
    };
    heard = record { before = a; is = ap (λ (l : Exchanges). a ++ l) q.own_is };
    first = sym (append-nil (file_calls a)) ∙ p.made;
    count = q.count;
    at_host = λ c is n h. q.bytes c (agrees a b p c is n h);
  }) where
    only_one : (b : Exchanges) (failed : ℕ) → IsAsked file size i y.held z.held raw (trace_of b failed y z) →
        file_made (trace_of b failed y z) ≡ block_read file size i ∷ []
    only_one b failed q =
        ap (λ (l : Exchanges). file_calls l ++ failed_call failed z.last_failed) q.own_is
        ∙ ap (λ (k : ℕ). block_read file size i ∷ failed_call k z.last_failed) q.failed

  ask_blame : (w : WalkFault) (a b : Exchanges) (failed : ℕ) → x.faults ≤ y.faults →
      IsPrepared file i [] before after x.held y.held anchor (trace_of a 0 x y) → AskBlame file size i y.held (trace_of b failed y z) w →
      IsFileBlame is_local x.held file (IsForBlock is_local file size i) before Only (λ c. c) (trace_of (a ++ b) failed x z) w
  ask_blame (walk.Mismatch m) a b failed le p q = absurd q
  ask_blame (walk.Short asked got) a b failed le p q =
      (last_short_later x y z a b failed asked got q.0, λ c is n h bk. q.1 c (sized c is) (agrees a b p c is n h))
  ask_blame (walk.Failed faults) a b failed le p q = failed_later _ x y z a b failed faults le (failed_so _ _ _ faults (λ call is. inl is) q)
  ask_blame walk.Memory a b failed le p q = (q.failed, λ l. q.scarce)

  pub bring_err : (w : WalkFault) → Worked HandsPage 0 (IsThis (block_read file size i)) 1 y z (AskOutcome file size i y.held z.held raw (Err w)) →
      Worked HandsPage 0 (IsForBlock is_local file size i) (top (block_count size) + 1) x z (BringOutcome is_local file size i before after x.held z.held raw (Err w))
  bring_err w e = all (Err w) e (Err w) (λ a b failed le p q. record {
    kept = λ c is n. (left a b p q.0 c is n).0;
    asked = begun_tried before Only Only (λ c v e. e) [] x y z a b failed (asked_none before Only (trace_of a 0 x y) p.made) (block_read file size i) w q.2;
    blame = ask_blame w a b failed le p q.1;
  })

-- the same calls are calls of a longer work
pub blame_so : (is_local : Type 0) (file : ℕ) (F G : Call → Type 0) (before : Meaning) (V : List ℕ → List ℕ → Type 0) (made : List ℕ → List ℕ) (t : Trace) (w : WalkFault) →
    ((call : Call) → F call → G call) →
    (held : Option Held) → IsFileBlame is_local held file F before V made t w → IsFileBlame is_local held file G before V made t w
blame_so is_local file F G before V made t (walk.Mismatch m) f held q = q
blame_so is_local file F G before V made t (walk.Short asked got) f held q = q
blame_so is_local file F G before V made t (walk.Failed faults) f held q = failed_so F G t faults f q
blame_so is_local file F G before V made t walk.Memory f held q = q

-- the calls on the file's bytes are the first of more
pub kept_so : (is_local : Type 0) (file : ℕ) (F G : Call → Type 0) (calls more all : List Call) (before after : Meaning) (x y : Option Held) (t : Trace) (w : WalkFault) →
    ((call : Call) → F call → G call) → calls ++ more ≡ all →
    IsKept is_local file F calls before after x y t w → IsKept is_local file G all before after x y t w
kept_so is_local file F G calls more all before after x y t w f is q = record { kept = q.kept; asked = begun_in before Only [] calls more all t w is q.asked; blame = blame_so is_local file F G before Only (λ c. c) t w f x q.blame }

-- a block that was not prepared was not brought
pub not_prepared : (is_local : Type 0) (file size i : ℕ) (before after : Meaning) (x y : Told) (raw : List ℕ) (w : WalkFault) →
    Worked HandsPage 0 (IsTreeCall is_local file (block_count size) (block_count size)) (top (block_count size)) x y (PrepareOutcome is_local file size i before after x.held y.held (Err w)) →
    Worked HandsPage 0 (IsForBlock is_local file size i) (top (block_count size) + 1) x y (BringOutcome is_local file size i before after x.held y.held raw (Err w))
not_prepared is_local file size i before after x y raw w d = worked_so _ _ _ _ _ _ x y _ _ d (λ call c. inr c) (omega arith) (λ t q. kept_so is_local file _ _ [] (block_read file size i ∷ []) (block_read file size i ∷ []) before after x.held y.held t w (λ call c. inr c) refl q)

-- The calls on a file's bytes, and the answers to them, of one piece of work after another.
use Rattle.std.proofs.Common.{◌≡◌, ℕ, zero, suc, ◌+◌, ◌*◌, ◌<◌, ◌≤◌, ◌∙◌, ◌⊎◌, List, [], ◌∷◌, ◌++◌, length, min, Option, Some, None, true, false, refl, ap, sym, subst, inl, inr, arith, ⊎_elim, append_assoc, append-nil}
use Rattle.std.specs.Prelude.{nat_lt}
use Rattle.std.proofs.lemmas.Bool.{lt-ltb, le-ltb}
use Rattle.host_traits.specs.declared.calls.Call.{Call}
use Rattle.host_traits.specs.declared.calls.Call.TheVariants.{FileRead}
use Rattle.host_traits.specs.declared.calls.Said.{Said}
use Rattle.host_traits.specs.Told.{Told, Made, Exchanges, heard_of, failures_of, exchange_of, one_failure, failed_by, last_after}
use Rattle.host_traits.specs.Did.{Trace, trace_of, IsIn, Each, IsFailed}
use Rattle.sha_tree.specs.Path.{NoClash}
use Rattle.verity_path.specs.Judged.{judged}
use Rattle.verity_path.specs.declared.walk.WalkFault.{WalkFault}
use Rattle.verity_path.specs.declared.walk.WalkFault.TheVariants as walk
use Rattle.verity_path.proofs.Pieces.{piece_left}
use Rattle.leaf_tree.specs.Outcomes.{IsTreeCall}
use Rattle.leaf_tree.specs.Worked.{Worked}
use Rattle.rw_file.specs.Contents.{Meaning, IsFileHashed, Only}
use Rattle.rw_file.specs.Calls.{block_read, bare_read}
use Rattle.rw_file.specs.Blame.{Each as EachContent}
use Rattle.rw_file.specs.Asked.{file_call, file_calls, failed_call, file_made, AllReads, ButLast, IsFull, IsPartOf, shorts, AreAsked, AreBegun}
use Rattle.rw_file.specs.Steps.{IsThis, IsTried}
use Rattle.rw_file.proofs.Hashed.{each_more}
use Rattle.rw_file.proofs.Bytes.{lt_or_le}

-- ---- the calls

pub file_calls-append : (x y : Exchanges) → file_calls (x ++ y) ≡ file_calls x ++ file_calls y
file_calls-append [] y = refl
file_calls-append (e ∷ x) y =
    ap (λ (l : List Call). file_call e.0 ++ l) (file_calls-append x y) ∙ sym (append_assoc (file_call e.0) (file_calls x) (file_calls y))

-- those of a first part, of which no call failed, and those of a later one
pub made_on : (x y z : Told) (a b : Exchanges) (failed : ℕ) (p q : List Call) → file_made (trace_of a 0 x y) ≡ p →
    file_made (trace_of b failed y z) ≡ q → file_made (trace_of (a ++ b) failed x z) ≡ p ++ q
made_on x y z a b failed p q first later =
    ap (λ (l : List Call). l ++ failed_call failed z.last_failed) (file_calls-append a b)
    ∙ append_assoc (file_calls a) (file_calls b) (failed_call failed z.last_failed)
    ∙ ap (λ (l : List Call). l ++ file_made (trace_of b failed y z)) (sym (append-nil (file_calls a)) ∙ first)
    ∙ ap (λ (l : List Call). p ++ l) later

nil_left : (x y : List Call) → x ++ y ≡ [] → x ≡ []
nil_left [] y e = refl
nil_left (c ∷ x) y e = absurd cc

not_in : (file at want : ℕ) (said : Said) (own : Exchanges) → file_calls own ≡ [] → IsIn (FileRead file at want) said own → ⊥
not_in file at want said [] e i = i
not_in file at want said (x ∷ own) e (inl p) =
    let same : file_call x.0 ≡ FileRead file at want ∷ [] = ap (λ (z : Call × Said). file_call z.0) (sym p) in
    let none : FileRead file at want ∷ file_calls own ≡ [] = sym (ap (λ (l : List Call). l ++ file_calls own) same) ∙ e in
    cc
not_in file at want said (x ∷ own) e (inr i) = not_in file at want said own (none (file_call x.0) (file_calls own) e) i where
  none : (x y : List Call) → x ++ y ≡ [] → y ≡ []
  none [] y e = e
  none (c ∷ x) y e = absurd cc

-- work without a call on the file's bytes reads none of them
pub no_reads : (P : ℕ → ℕ → Said → Type 0) (own : Exchanges) → file_calls own ≡ [] → AllReads P own
no_reads P own e = λ file at want said i. absurd (not_in file at want said own e i)

abbrev pub place_in : Call → ℕ
place_in (FileRead file at want) = at
place_in call = 0

abbrev pub want_in : Call → ℕ
want_in (FileRead file at want) = want
want_in call = 0

pub same_read : (P : ℕ → ℕ → Said → Type 0) (f g at at2 want want2 : ℕ) (said said2 : Said) →
    ◌≡◌ {A = Call × Said} (FileRead f at want, said) (FileRead g at2 want2, said2) → P at2 want2 said2 → P at want said
same_read P f g at at2 want want2 said said2 e here =
    let a : at ≡ at2 = ap (λ (z : Call × Said). place_in z.0) e in
    let w : want ≡ want2 = ap (λ (z : Call × Said). want_in z.0) e in
    let s : said ≡ said2 = ap (λ (z : Call × Said). z.1) e in
    rw (a, w, s) here

pub reads_both : (P : ℕ → ℕ → Said → Type 0) (x y : Exchanges) → AllReads P x → AllReads P y → AllReads P (x ++ y)
reads_both P [] y f g file at want said i = g file at want said i
reads_both P (e ∷ x) y f g file at want said (inl p) = f file at want said (inl p)
reads_both P (e ∷ x) y f g file at want said (inr i) = reads_both P x y (λ file at want said j. f file at want said (inr j)) g file at want said i

-- all of them, so all but the last
pub but_none : (few : ℕ) (P : ℕ → ℕ → Said → Type 0) (own : Exchanges) → AllReads P own → ButLast few P own
but_none few P own all = record { before = own; last = []; is = sym (append-nil own); count = omega arith; reads = all }

-- none of them
pub but_all : (few : ℕ) (P : ℕ → ℕ → Said → Type 0) (own : Exchanges) → length own ≤ few → ButLast few P own
but_all few P own le = record { before = []; last = own; is = refl; count = le; reads = λ file at want said i. absurd i }

pub but_later : (few : ℕ) (P : ℕ → ℕ → Said → Type 0) (a b : Exchanges) → AllReads P a → ButLast few P b → ButLast few P (a ++ b)
but_later few P a b all l = record {
  before = a ++ l.before;
  last = l.last;
  is = ap (λ (x : Exchanges). a ++ x) l.is ∙ sym (append_assoc a l.before l.last);
  count = l.count;
  reads = reads_both P a l.before all l.reads;
}

in_left : (call : Call) (said : Said) (x y : Exchanges) → IsIn call said x → IsIn call said (x ++ y)
in_left call said [] y i = absurd i
in_left call said (e ∷ x) y (inl p) = inl p
in_left call said (e ∷ x) y (inr i) = inr (in_left call said x y i)

-- what is so of the answers by one content is so by another
pub but_so : (few : ℕ) (P Q : ℕ → ℕ → Said → Type 0) (own : Exchanges) →
    ((file at want : ℕ) (said : Said) → IsIn (FileRead file at want) said own → P at want said → Q at want said) → ButLast few P own →
    ButLast few Q own
but_so few P Q own so l = record {
  before = l.before;
  last = l.last;
  is = l.is;
  count = l.count;
  reads = λ file at want said i. so file at want said (subst (IsIn (FileRead file at want) said) (sym l.is) (in_left (FileRead file at want) said l.before l.last i)) (l.reads file at want said i);
}

-- ---- work on the tree alone

tree_none : (is_local : Type 0) (file a b : ℕ) (call : Call) → IsTreeCall is_local file a b call → file_call call ≡ []
tree_none is_local file a b call t = elim t.call_is [
  | inl e ↦ ap file_call e
  | inr e ↦ ap file_call e
]

module _ (F : Call → Type 0) (none : (call : Call) → F call → file_call call ≡ []) where
  heard_one : (call : Call) (came : Option Said) → F call → file_calls (exchange_of call came) ≡ []
  heard_one call None f = refl
  heard_one call (Some said) f = ap (λ (l : List Call). l ++ []) (none call f)

  heard_none : (own : List Made) → Each (λ call given. F call) own → file_calls (heard_of own) ≡ []
  heard_none [] each = refl
  heard_none (m ∷ own) each =
      file_calls-append (exchange_of m.call m.came) (heard_of own)
      ∙ ap (λ (l : List Call). l ++ file_calls (heard_of own)) (heard_one m.call m.came each.0) ∙ heard_none own each.1

  some_none : (call : Call) → F call → (k : ℕ) → failed_call k (Some call) ≡ []
  some_none call f zero = refl
  some_none call f (suc k) = none call f

  by_came : (before : Option Call) (call : Call) (came : Option Said) → F call → ((k : ℕ) → failed_call k before ≡ []) → (k : ℕ) →
      failed_call k (failed_by before call came) ≡ []
  by_came before call None f was k = some_none call f k
  by_came before call (Some said) f was k = was k

  last_none : (before : Option Call) (own : List Made) → Each (λ call given. F call) own → ((k : ℕ) → failed_call k before ≡ []) → (k : ℕ) →
      failed_call k (last_after before own) ≡ []
  last_none before [] each was = was
  last_none before (m ∷ own) each was = last_none (failed_by before m.call m.came) own each.1 (by_came before m.call m.came each.0 was)

  failed_none : (before : Option Call) (own : List Made) → Each (λ call given. F call) own →
      failed_call (failures_of own) (last_after before own) ≡ []
  failed_none before [] each = refl
  failed_none before (m ∷ own) each = one m.came (failed_none before own each.1) where
    one : (came : Option Said) → failed_call (failures_of own) (last_after before own) ≡ [] →
        failed_call (one_failure came + failures_of own) (last_after (failed_by before m.call came) own) ≡ []
    one None later = last_none (Some m.call) own each.1 (some_none m.call each.0) (one_failure None + failures_of own)
    one (Some said) later =
        let e : 0 + failures_of own ≡ failures_of own = omega arith in ap (λ (k : ℕ). failed_call k (last_after before own)) e ∙ later

  -- work of such calls alone makes none on the file's bytes
  quiet : (H : Call → List ℕ → Type 0) (p m : ℕ) (x y : Told) (P : Trace → Type 0) (d : Worked H p F m x y P) →
      file_made (trace_of (heard_of d.own) (failures_of d.own) x y) ≡ []
  quiet H p m x y P d =
      ap (λ (l : List Call). l ++ failed_call (failures_of d.own) y.last_failed) (heard_none d.own d.calls)
      ∙ ap (failed_call (failures_of d.own)) d.talked.last_failed ∙ failed_none x.last_failed d.own d.calls

pub tree_quiet : (is_local : Type 0) (file a b : ℕ) (H : Call → List ℕ → Type 0) (p m : ℕ) (x y : Told) (P : Trace → Type 0) (d : Worked H p (IsTreeCall is_local file a b) m x y P) →
    file_made (trace_of (heard_of d.own) (failures_of d.own) x y) ≡ []
tree_quiet is_local file a b = quiet (IsTreeCall is_local file a b) (tree_none is_local file a b)

-- ---- one piece of work after another

pub asked_none : (before : Meaning) (V : List ℕ → List ℕ → Type 0) (t : Trace) → file_made t ≡ [] → AreAsked before V [] t
asked_none before V t e =
    let none : file_calls t.own ≡ [] = nil_left (file_calls t.own) (failed_call t.failed t.last_failed) e in
    record { made = e; full = no_reads IsFull t.own none; right = λ c is n. no_reads (IsPartOf c) t.own none }

-- all was asked, so the first was
pub begun_all : (before : Meaning) (V : List ℕ → List ℕ → Type 0) (calls more : List Call) (t : Trace) (w : WalkFault) → AreAsked before V calls t →
    AreBegun before V [] (calls ++ more) t w
begun_all before V calls more t w a = record {
  begun = calls;
  rest = more;
  made = a.made;
  next_is = refl;
  full = but_none (shorts w) IsFull t.own a.full;
  right = λ c is n. but_none (judged w) (IsPartOf c) t.own (a.right c is n);
}

pub begun_end : (before : Meaning) (V : List ℕ → List ℕ → Type 0) (calls : List Call) (t : Trace) (w : WalkFault) → AreAsked before V calls t →
    AreBegun before V [] calls t w
begun_end before V calls t w a = subst (λ (l : List Call). AreBegun before V [] l t w) (append-nil calls) (begun_all before V calls [] t w a)

pub begun_none : (before : Meaning) (V : List ℕ → List ℕ → Type 0) (next : List Call) (t : Trace) (w : WalkFault) → file_made t ≡ [] →
    AreBegun before V [] next t w
begun_none before V next t w e = begun_all before V [] next t w (asked_none before V t e)

-- of more calls the first
pub begun_in : (before : Meaning) (V : List ℕ → List ℕ → Type 0) (done next more all : List Call) (t : Trace) (w : WalkFault) →
    (done ++ next) ++ more ≡ all → AreBegun before V done next t w → AreBegun before V [] all t w
begun_in before V done next more all t w is b = record {
  begun = done ++ b.begun;
  rest = b.rest ++ more;
  made = b.made;
  next_is =
      sym is ∙ ap (λ (l : List Call). (done ++ l) ++ more) b.next_is ∙ ap (λ (l : List Call). l ++ more) (sym (append_assoc done b.begun b.rest))
      ∙ append_assoc (done ++ b.begun) b.rest more;
  full = b.full;
  right = b.right;
}

-- the contents of a first part and those of a later one, to which the same reads are right
abbrev pub Follows : Meaning → Meaning → (List ℕ → List ℕ → Type 0) → (List ℕ → List ℕ) → Exchanges → Exchanges → Type 0
Follows first before V made a b = EachContent first V (a ++ b) (λ c. before.is (made c) × NoClash (IsFileHashed (Only (made c)) b)
    × ((file at want : ℕ) (said : Said) → IsIn (FileRead file at want) said b → IsPartOf (made c) at want said → IsPartOf c at want said))

-- the call that failed was the one that was made
pub tried_last : (this : Call) → file_call this ≡ this ∷ [] → (t : Trace) (faults : ℕ) → IsFailed (IsThis this) t faults → t.own ≡ [] →
    IsTried this t (walk.Failed faults)
tried_last this is t faults f none = record {
  rest = [];
  order = sym (
      append-nil (file_made t)
      ∙ ap (λ (l : Exchanges). file_calls l ++ failed_call t.failed t.last_failed) none ∙ ap (λ (k : ℕ). failed_call k t.last_failed) f.failed
      ∙ ap (failed_call 1) f.last ∙ ap file_call f.for ∙ is);
  few = rw none (omega arith);
}

-- none was made
pub tried_none : (this : Call) (t : Trace) (w : WalkFault) → t.failed ≡ 0 → t.own ≡ [] → IsTried this t w
tried_none this t w unfailed none = record {
  rest = this ∷ [];
  order = ap (λ (l : List Call). l ++ this ∷ []) (sym (ap (λ (l : Exchanges). file_calls l ++ failed_call t.failed t.last_failed) none ∙ ap (λ (k : ℕ). failed_call k t.last_failed) unfailed));
  few = rw none (omega arith);
}

-- of one call, which was not answered, the first was made
pub begun_first : (before : Meaning) (this : Call) (t : Trace) (w : WalkFault) → IsTried this t w → t.own ≡ [] →
    AreBegun before Only [] (this ∷ []) t w
begun_first before this t w one none = record {
  begun = file_made t;
  rest = one.rest;
  made = refl;
  next_is = one.order;
  full = but_all (shorts w) IsFull t.own one.few;
  right = λ c is n. but_all (judged w) (IsPartOf c) t.own (rw none (omega arith));
}

-- one call was made and answered
pub made_one : (call : Call) (said : Said) (t : Trace) → file_call call ≡ call ∷ [] → t.failed ≡ 0 → t.own ≡ (call, said) ∷ [] →
    file_made t ≡ call ∷ []
made_one call said t is unfailed one =
    ap (λ (l : Exchanges). file_calls l ++ failed_call t.failed t.last_failed) one ∙ ap (λ (k : ℕ). (file_call call ++ []) ++ failed_call k t.last_failed) unfailed
    ∙ ap (λ (l : List Call). (l ++ []) ++ []) is

shorts_low : (w : WalkFault) → shorts w ≤ judged w
shorts_low (walk.Mismatch m) = omega arith
shorts_low (walk.Short asked got) = omega arith
shorts_low (walk.Failed faults) = omega arith
shorts_low walk.Memory = omega arith

module _ (first : Meaning) (V W : List ℕ → List ℕ → Type 0) (wide : (c v : List ℕ) → W c v → V c v) (p : List Call) (x y z : Told) (a b : Exchanges)
    (failed : ℕ) (early : AreAsked first W p (trace_of a 0 x y)) where
  right_early : EachContent first V (a ++ b) (λ c. AllReads (IsPartOf c) a)
  right_early = each_more first W V a (a ++ b) (λ c. AllReads (IsPartOf c) a) wide (piece_left a b) early.right

  pub asked_on : (before : Meaning) (made : List ℕ → List ℕ) (q : List Call) → Follows first before V made a b →
      AreAsked before Only q (trace_of b failed y z) → AreAsked first V (p ++ q) (trace_of (a ++ b) failed x z)
  asked_on before made q link late = record {
    made = made_on x y z a b failed p q early.made late.made;
    full = reads_both IsFull a b early.full late.full;
    right = λ c is n. let k = link c is n in
        reads_both (IsPartOf c) a b (right_early c is n) (λ file at want said i. k.2 file at want said i (late.right (made c) k.0 k.1 file at want said i));
  }

  pub begun_on : (before : Meaning) (made : List ℕ → List ℕ) (done next : List Call) (w : WalkFault) → Follows first before V made a b →
      AreBegun before Only done next (trace_of b failed y z) w
      → AreBegun first V (p ++ done) next (trace_of (a ++ b) failed x z) w
  begun_on before made done next w link late = record {
    begun = late.begun;
    rest = late.rest;
    made = made_on x y z a b failed p (done ++ late.begun) early.made late.made ∙ sym (append_assoc p done late.begun);
    next_is = late.next_is;
    full = but_later (shorts w) IsFull a b early.full late.full;
    right = λ c is n. let k = link c is n in
        but_later (judged w) (IsPartOf c) a b (right_early c is n) (but_so (judged w) (IsPartOf (made c)) (IsPartOf c) b k.2 (late.right (made c) k.0 k.1));
  }

  -- and then some that read nothing
  asked_quiet : (q : List Call) → file_made (trace_of b failed y z) ≡ q → AllReads (λ at want said. ⊥) b →
      AreAsked first V (p ++ q) (trace_of (a ++ b) failed x z)
  asked_quiet q later none = record {
    made = made_on x y z a b failed p q early.made later;
    full = reads_both IsFull a b early.full (λ file at want said i. absurd (none file at want said i));
    right = λ c is n. reads_both (IsPartOf c) a b (right_early c is n) (λ file at want said i. absurd (none file at want said i));
  }

  pub asked_still : file_made (trace_of b failed y z) ≡ [] → AreAsked first V p (trace_of (a ++ b) failed x z)
  asked_still none = subst (λ (l : List Call). AreAsked first V l (trace_of (a ++ b) failed x z)) (append-nil p)
      (asked_quiet [] none (no_reads (λ at want said. ⊥) b (nil_left (file_calls b) (failed_call failed z.last_failed) none)))

  pub asked_more : (call : Call) (said : Said) → ((file at want : ℕ) → call ≡ FileRead file at want → ⊥) → file_call call ≡ call ∷ [] → failed ≡ 0 →
      b ≡ (call, said) ∷ [] → AreAsked first V (p ++ call ∷ []) (trace_of (a ++ b) failed x z)
  asked_more call said other own unfailed one = asked_quiet (call ∷ []) (made_one call said (trace_of b failed y z) own unfailed one)
      (subst (AllReads (λ at want said. ⊥)) (sym one) (λ f at want s i. ⊎_elim (λ e. other f at want (sym (ap (λ (z : Call × Said). z.0) e))) (λ none. none) i))

  -- and then one that was not answered, or short
  pub begun_tried : (this : Call) (w : WalkFault) → IsTried this (trace_of b failed y z) w →
      AreBegun first V [] (p ++ this ∷ []) (trace_of (a ++ b) failed x z) w
  begun_tried this w t = record {
    begun = p ++ file_made (trace_of b failed y z);
    rest = t.rest;
    made = made_on x y z a b failed p (file_made (trace_of b failed y z)) early.made refl;
    next_is = ap (λ (l : List Call). p ++ l) t.order ∙ sym (append_assoc p (file_made (trace_of b failed y z)) t.rest);
    full = but_later (shorts w) IsFull a b early.full (but_all (shorts w) IsFull b t.few);
    right = λ c is n. but_later (judged w) (IsPartOf c) a b (right_early c is n) (but_all (judged w) (IsPartOf c) b (let low = shorts_low w in omega (arith, low, t.few)));
  }

-- ---- reads of blocks that the bytes don't cover

bare_low : (file size at end i : ℕ) → 4096 * i < size → 4096 * i < at → bare_read file size at end i ≡ block_read file size i ∷ []
bare_low file size at end i there low =
    let a : nat_lt (4096 * i) size ≡ true = lt-ltb (4096 * i) size there in
    let b : nat_lt (4096 * i) at ≡ true = lt-ltb (4096 * i) at low in
    rw (a, b) refl

pub bare_yes : (file size at end i : ℕ) → 4096 * i < size → (4096 * i < at) ⊎ (end < min size (4096 * (i + 1))) →
    bare_read file size at end i ≡ block_read file size i ∷ []
bare_yes file size at end i there (inl low) = bare_low file size at end i there low
bare_yes file size at end i there (inr few) = ⊎_elim (bare_low file size at end i there)
    (λ high.
    let a : nat_lt (4096 * i) size ≡ true = lt-ltb (4096 * i) size there in
    let b : nat_lt (4096 * i) at ≡ false = le-ltb (4096 * i) at high in
    let c : nat_lt end (min size (4096 * (i + 1))) ≡ true = lt-ltb end (min size (4096 * (i + 1))) few in
    rw (a, b, c) refl)
    (lt_or_le (4096 * i) at)

bare_past : (file size at end i : ℕ) → size ≤ 4096 * i → bare_read file size at end i ≡ []
bare_past file size at end i past = let a : nat_lt (4096 * i) size ≡ false = le-ltb (4096 * i) size past in rw a refl

pub bare_no : (file size at end i : ℕ) → (size ≤ 4096 * i) ⊎ ((at ≤ 4096 * i) × (min size (4096 * (i + 1)) ≤ end)) → bare_read file size at end i ≡ []
bare_no file size at end i (inl past) = bare_past file size at end i past
bare_no file size at end i (inr whole) = ⊎_elim
    (λ there.
    let a : nat_lt (4096 * i) size ≡ true = lt-ltb (4096 * i) size there in
    let b : nat_lt (4096 * i) at ≡ false = le-ltb (4096 * i) at whole.0 in
    let c : nat_lt end (min size (4096 * (i + 1))) ≡ false = le-ltb end (min size (4096 * (i + 1))) whole.1 in
    rw (a, b, c) refl)
    (bare_past file size at end i)
    (lt_or_le (4096 * i) size)

-- The answer to a write.
use Rattle.std.proofs.Common.{◌≡◌, ℕ, zero, suc, ◌+◌, ◌-◌, ◌^◌, min, ◌<◌, ◌∙◌, List, [], length, Option, Some, None, Result, Ok, Err, false, refl, ap, sym, subst, arith, inl, ⊎_elim}
use Rattle.std.specs.Prelude.{nat_eq}
use Rattle.std.proofs.lemmas.Bool.{ne_eqb}
use Rattle.host_traits.specs.declared.calls.Call.{Call}
use Rattle.host_traits.specs.Held.{Held}
use Rattle.host_traits.specs.Told.{Told, Exchanges}
use Rattle.host_traits.specs.Did.{Trace}
use Rattle.leaf_tree.specs.Worked.{Worked}
use Rattle.leaf_tree.proofs.Working.{worked_none, worked_so}
use Rattle.verity_path.specs.declared.walk.WalkFault.{WalkFault}
use Rattle.verity_path.specs.declared.walk.WalkFault.TheVariants as walk
use Rattle.rw_file.specs.declared.faults.RwFault.{RwFault}
use Rattle.rw_file.specs.declared.faults.RwFault.TheVariants as fault
use Rattle.rw_file.specs.declared.faults.Written.{Written}
use Rattle.rw_file.specs.Contents.{Meaning, IsSame, IsVersion, version}
use Rattle.rw_file.specs.Asked.{AreAsked, AreBegun}
use Rattle.rw_file.specs.Calls.{IsForFileWrite, most_write, Hands, changes_in, block_writes, write_calls}
use Rattle.rw_file.specs.Blame.{Each, IsFileBlame}
use Rattle.verity_path.specs.Range.{touched}
use Rattle.rw_file.specs.Rows.{because, IsNow, IsStopped, WriteOutcome, size_with, size_after}
use Rattle.rw_file.specs.Steps.{ProgressOutcome, answer_of}
use Rattle.rw_file.proofs.Changing.{writes_none}
use Rattle.rw_file.proofs.Serving.{says_because}
use Rattle.rw_file.proofs.Advancing.{none_asked}

-- what was so of the contents after room was taken is so of those before
each_from : (before first : Meaning) (V : List ℕ → List ℕ → Type 0) (own : Exchanges) (P : List ℕ → Type 0) →
    ((c : List ℕ) → first.is c → before.is c) → Each before V own P → Each first V own P
each_from before first V own P keeps e = λ c is n. e c (keeps c is) n

pub asked_from : (before first : Meaning) (V : List ℕ → List ℕ → Type 0) (calls : List Call) (t : Trace) →
    ((c : List ℕ) → first.is c → before.is c) → AreAsked before V calls t → AreAsked first V calls t
asked_from before first V calls t keeps a = record { made = a.made; full = a.full; right = λ c is. a.right c (keeps c is) }

pub begun_from : (before first : Meaning) (V : List ℕ → List ℕ → Type 0) (done next : List Call) (t : Trace) (w : WalkFault) →
    ((c : List ℕ) → first.is c → before.is c) → AreBegun before V done next t w → AreBegun first V done next t w
begun_from before first V done next t w keeps b = record { begun = b.begun; rest = b.rest; made = b.made; next_is = b.next_is; full = b.full; right = λ c is. b.right c (keeps c is) }

pub blame_from : (is_local : Type 0) (file : ℕ) (F : Call → Type 0) (before first : Meaning) (V : List ℕ → List ℕ → Type 0) (made : List ℕ → List ℕ) (t : Trace) (w : WalkFault) →
    IsSame first before →
    (held : Option Held) → IsFileBlame is_local held file F before V made t w → IsFileBlame is_local held file F first V made t w
blame_from is_local file F before first V made t (walk.Mismatch m) keeps held q = (
  record { failed = q.0.failed; differ = q.0.differ; bytes = q.0.bytes; call = q.0.call; page = q.0.page; own = q.0.own; found = q.0.found; expected = λ c is n. q.0.expected c (keeps c is).0 n },
  λ c is n h bk. q.1 c (keeps c is).0 n h ((keeps c is).1 held bk),
)
blame_from is_local file F before first V made t (walk.Short asked got) keeps held q =
    (q.0, λ c is n h bk. q.1 c (keeps c is).0 n h ((keeps c is).1 held bk))
blame_from is_local file F before first V made t (walk.Failed faults) keeps held q = q
blame_from is_local file F before first V made t walk.Memory keeps held q = q

module _ (is_local : Type 0) (file size at : ℕ) (bytes : List ℕ) (before first after : Meaning) (x y : Told) (keeps : IsSame first before) where
  abbrev For : Call → Type 0
  For = IsForFileWrite is_local file size at (length bytes)

  abbrev most : ℕ
  most = most_write size at (length bytes)

  stopped_from : (n : ℕ) (w : WalkFault) (t : Trace) → IsStopped is_local file size at bytes n before after x.held y.held t w →
      IsStopped is_local file size at bytes n first after x.held y.held t w
  stopped_from n w t s = record {
    writes = s.writes;
    asked = begun_from before first (λ c. IsVersion c at bytes n) _ _ t w (λ c is. (keeps c is).0) s.asked;
    content =
        λ c is k. let o = s.content c (keeps c is).0 k in record { now = o.now; agree = o.agree; backed = λ bk. o.backed ((keeps c is).1 x.held bk) };
    blame = blame_from is_local file For before first (λ c. IsVersion c at bytes n) (λ c. version c at bytes n) t w keeps x.held s.blame;
  }

  answered_none : (n : ℕ) →
      Worked (Hands at bytes) (touched at (at + length bytes)) For most x y (ProgressOutcome is_local file size at bytes before after x.held y.held n None) →
      Worked (Hands at bytes) (touched at (at + length bytes)) For most x y (WriteOutcome is_local file size at bytes first after x.held y.held (answer_of n None))
  answered_none n d = worked_so _ _ _ _ _ _ x y _ _ d (λ call q. q) (omega arith) (λ t p. (
    p.0,
    record {
      failed = p.1.failed;
      writes = subst (λ (m : ℕ). changes_in t.own ≡ block_writes file at (length bytes) m) p.0 p.1.writes;
      asked = subst (λ (m : ℕ). AreAsked first (λ c. IsVersion c at bytes m) (write_calls file size at (length bytes) m) t) p.0
          (asked_from before first (λ c. IsVersion c at bytes n) _ t (λ c is. (keeps c is).0) p.1.asked);
      content = λ c is k. subst (λ (m : ℕ). Each first (λ c. IsVersion c at bytes m) t.own (λ c. IsNow first after file x.held y.held c (version c at bytes m))) p.0 (λ c is k. let o = p.1.content c (keeps c is).0 k in record { now = o.now; agree = o.agree; backed = λ bk. o.backed ((keeps c is).1 x.held bk) }) c is k;
    },
  ))

  answered_zero : (w : WalkFault) (n : ℕ) → n ≡ 0 →
      Worked (Hands at bytes) (touched at (at + length bytes)) For most x y (ProgressOutcome is_local file size at bytes before after x.held y.held n (Some w)) →
      Worked (Hands at bytes) (touched at (at + length bytes)) For most x y (WriteOutcome is_local file size at bytes first after x.held y.held (Err (because w)))
  answered_zero w n z d = worked_so _ _ _ _ _ _ x y _ _ d (λ call q. q) (omega arith) (λ t p.
      says_because (IsStopped is_local file size at bytes 0 first after x.held y.held t) _ _ w
      (subst (λ (m : ℕ). IsStopped is_local file size at bytes m first after x.held y.held t w) z (stopped_from n w t p.2)))

  answered_some : (w : WalkFault) (n : ℕ) → 0 < n →
      Worked (Hands at bytes) (touched at (at + length bytes)) For most x y (ProgressOutcome is_local file size at bytes before after x.held y.held n (Some w)) →
      Worked (Hands at bytes) (touched at (at + length bytes)) For most x y (WriteOutcome is_local file size at bytes first after x.held y.held (Ok (record { count = n; why = Some (because w) })))
  answered_some w n some d = worked_so _ _ _ _ _ _ x y _ _ d (λ call q. q) (omega arith) (λ t p. record {
    some = some;
    few = p.0;
    border = ⊎_elim (λ z. absurd (omega (arith, z, some))) (λ h. h) p.1;
    stopped = says_because (IsStopped is_local file size at bytes n first after x.held y.held t) _ _ w (stopped_from n w t p.2);
  })

  pub answered : (n : ℕ) (why : Option WalkFault) (r : Result Written RwFault) → r ≡ answer_of n why →
      Worked (Hands at bytes) (touched at (at + length bytes)) For most x y (ProgressOutcome is_local file size at bytes before after x.held y.held n why) →
      Worked (Hands at bytes) (touched at (at + length bytes)) For most x y (WriteOutcome is_local file size at bytes first after x.held y.held r)
  answered n None r is d = subst (λ r. Worked (Hands at bytes) (touched at (at + length bytes)) For most x y (WriteOutcome is_local file size at bytes first after x.held y.held r)) (sym is) (answered_none n d)
  answered zero (Some w) r is d = subst (λ r. Worked (Hands at bytes) (touched at (at + length bytes)) For most x y (WriteOutcome is_local file size at bytes first after x.held y.held r)) (sym is) (answered_zero w 0 refl d)
  answered (suc n) (Some w) r is d =
      let some : 0 < suc n = omega arith in
      let test : nat_eq (suc n) 0 ≡ false = ne_eqb (suc n) 0 (λ z. omega (arith, z)) in
      let same : answer_of (suc n) (Some w) ≡ Ok (record { count = suc n; why = Some (because w) }) = rw test refl in
      subst (λ r. Worked (Hands at bytes) (touched at (at + length bytes)) For most x y (WriteOutcome is_local file size at bytes first after x.held y.held r)) (sym (is ∙ same)) (answered_some w (suc n) some d)

-- the size that the answer tells
pub size_told : (size at n : ℕ) (why : Option WalkFault) → size_with size at n ≡ size_after size at (answer_of n why)
size_told size at n None = refl
size_told size at zero (Some w) = refl
size_told size at (suc n) (Some w) =
    let test : nat_eq (suc n) 0 ≡ false = ne_eqb (suc n) 0 (λ z. omega (arith, z)) in
    let same : answer_of (suc n) (Some w) ≡ Ok (record { count = suc n; why = Some (because w) }) = rw test refl in
    sym (ap (size_after size at) same)

-- no bytes
pub no_bytes : (is_local : Type 0) (file size at : ℕ) (bytes : List ℕ) (before : Meaning) (x : Told) → bytes ≡ [] →
    Worked (Hands at bytes) (touched at (at + length bytes)) (IsForFileWrite is_local file size at (length bytes)) (most_write size at (length bytes)) x x (WriteOutcome is_local file size at bytes before before x.held x.held (Ok (record { count = 0; why = None })))
no_bytes is_local file size at bytes before x none = subst (λ (bs : List ℕ). Worked (Hands at bs) (touched at (at + length bs)) (IsForFileWrite is_local file size at (length bs)) (most_write size at (length bs)) x x (WriteOutcome is_local file size at bs before before x.held x.held (Ok (record { count = 0; why = None }))))
    (sym none) (worked_none _ _ _ _ x _ (
      refl,
      record {
        failed = refl;
        writes = writes_none file at 0;
        asked = none_asked file size at [] before x;
        content = λ c is n. record { now = is; agree = λ h. h; backed = λ h. h };
      },
    ))

-- they end past the limit
pub ends_past : (is_local : Type 0) (file size at : ℕ) (bytes : List ℕ) (before : Meaning) (x : Told) (end : ℕ) → 0 < length bytes →
    4294967296 < at + length bytes → end ≡ min (at + length bytes) (2 ^ 64 - 1) →
    Worked (Hands at bytes) (touched at (at + length bytes)) (IsForFileWrite is_local file size at (length bytes)) (most_write size at (length bytes)) x x (WriteOutcome is_local file size at bytes before before x.held x.held (Err (fault.TooLarge end)))
ends_past is_local file size at bytes before x end some large is =
    worked_none _ _ _ _ x _ (some, record { large = large; end_is = is; none = refl; failed = refl; kept = λ c b. (b, λ held bk. bk) })

-- there was no room
pub no_room : (is_local : Type 0) (file size at : ℕ) (bytes : List ℕ) (before after : Meaning) (x : Told) → IsSame before after →
    Worked (Hands at bytes) (touched at (at + length bytes)) (IsForFileWrite is_local file size at (length bytes)) (most_write size at (length bytes)) x x (WriteOutcome is_local file size at bytes before after x.held x.held (Err fault.Memory))
no_room is_local file size at bytes before after x keeps = worked_none _ _ _ _ x _ (inl (record { none = refl; failed = refl; kept = keeps }))

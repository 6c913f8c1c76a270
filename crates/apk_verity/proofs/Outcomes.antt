-- What came of the one call, from its answer.
use Rattle.std.proofs.Common.{◌≡◌, ℕ, ◌*◌, ◌/◌, ◌<◌, ◌≤◌, ◌∙◌, Bool, true, false, cond, min, List, [], ◌∷◌, length, take, Option, Some, None, Result, Ok, Err, refl, ap, subst, sym, arith, inl, inr}
use Rattle.std.specs.Prelude.{nat_lt, not}
use Rattle.std.specs.Str.{bytes_eq}
use Rattle.std.proofs.lemmas.Bool.{le-ltb, ltb-true, eq-eqb, cases_lt}
use Rattle.std.proofs.lemmas.List.{length-take, take_all}
use Rattle.mg_base.specs.declared.values.Digest.{Digest}
use Rattle.mg_base.specs.declared.values.Span.{Span}
use Rattle.host_traits.specs.declared.calls.Call.TheVariants.{BlockRead}
use Rattle.host_traits.specs.declared.calls.Said.TheVariants.{Bytes}
use Rattle.host_traits.specs.Told.{Told, Answered, Exchanges, kind_bytes}
use Rattle.host_traits.specs.Did.{Trace, Did, IsIn, IsShort}
use Rattle.host_traits.proofs.Doing.{did_answered}
use Rattle.sha_tree.specs.declared.measure.Measure.{Measure}
use Rattle.verity_path.specs.declared.device.Device.{Device}
use Rattle.idsig_v4.specs.declared.head.Head.{Head}
use Rattle.idsig_v4.specs.declared.head.IdsigFault.{IdsigFault}
use Rattle.sha_tree.specs.Tree.{tree_pages}
use Rattle.idsig_v4.specs.Reading.{head_of, tree_fits, IdsigsAreRead}
use Rattle.apk_verity.specs.declared.ApkFault.{ApkFault}
use Rattle.apk_verity.specs.declared.ApkFault.TheVariants.{Failed, Short, Idsig, SaltMismatch, RootMismatch, TooFewBlocks, TooManyBlocks, SpanShort, Memory}
use Rattle.apk_verity.specs.Opening.{Opening, count_of, idsig_call, IsIdsigCall, ◌>>=◌, of_idsig, enough, measure_of, opened, DevicesOpen, IsOpened, OpenOutcome}

-- an answer never makes a failure of the call or want of memory, and is short only where it is
abbrev IsHeardFault : Opening → List ℕ → ApkFault → Type 0
IsHeardFault o bytes (Failed faults) = ⊥
IsHeardFault o bytes Memory = ⊥
IsHeardFault o bytes (Short asked got) = (asked ≡ 512 * count_of o) × (got ≡ length bytes) × (got < asked)
IsHeardFault o bytes fault = Unit {0}

abbrev IsHeard : {A : Type 0} → Opening → List ℕ → Result A ApkFault → Type 0
IsHeard o bytes (Ok x) = Unit {0}
IsHeard o bytes (Err fault) = IsHeardFault o bytes fault

module _ (o : Opening) (bytes : List ℕ) where
  heard_then : {A B : Type 0} (r : Result A ApkFault) (f : A → Result B ApkFault) → IsHeard o bytes r → ((x : A) → IsHeard o bytes (f x)) → IsHeard o bytes (r >>= f)
  heard_then (Ok x) f h k = k x
  heard_then (Err fault) f h k = h

  heard_enough : (t : Bool) → (t ≡ true → length bytes < 512 * count_of o) → IsHeard o bytes (cond {A = Result (Unit {0}) ApkFault} t (Err (Short (512 * count_of o) (length bytes))) (Ok tt))
  heard_enough true short = (refl, refl, short refl)
  heard_enough false short = tt

  heard_first : (few many : Bool) (a b : ℕ) (m : Measure) → IsHeard o bytes (cond {A = Result Measure ApkFault} few (Err (TooFewBlocks a)) (cond many (Err (TooManyBlocks b)) (Ok m)))
  heard_first true many a b m = tt
  heard_first false true a b m = tt
  heard_first false false a b m = tt

  heard_kept : (salt root short : Bool) (x y : Digest) (a b : ℕ) (m : Measure) →
      IsHeard o bytes (cond {A = Result Measure ApkFault} salt (Err SaltMismatch) (cond root (Err (RootMismatch x y)) (cond short (Err (SpanShort a b)) (Ok m))))
  heard_kept true root short x y a b m = tt
  heard_kept false true short x y a b m = tt
  heard_kept false false true x y a b m = tt
  heard_kept false false false x y a b m = tt

  heard_idsig : {A : Type 0} (r : Result A IdsigFault) → IsHeard o bytes (of_idsig r)
  heard_idsig (Ok x) = tt
  heard_idsig (Err fault) = tt

  heard_measure : (apk : Span) (measure : Option Measure) (h : Head) → IsHeard o bytes (measure_of apk measure h)
  heard_measure apk None h = heard_first (nat_lt (apk.sectors / 8) 2) (nat_lt 1048576 (apk.sectors / 8)) (apk.sectors / 8) (apk.sectors / 8) (record { blocks = apk.sectors / 8; salt = h.salt; root = h.root })
  heard_measure apk (Some m) h = heard_kept (not (bytes_eq m.salt h.salt)) (not (bytes_eq m.root.0 h.root.0)) (nat_lt apk.sectors (8 * m.blocks)) m.root h.root m.blocks apk.sectors m

  heard_opened : IsHeard o bytes (opened o bytes)
  unfolding opened
  heard_opened =
      heard_then (enough (512 * count_of o) (length bytes)) _ (heard_enough (nat_lt (length bytes) (512 * count_of o)) (ltb-true (length bytes) (512 * count_of o))) (λ u.
      heard_then (of_idsig (head_of bytes (512 * o.idsig.sectors))) _ (heard_idsig (head_of bytes (512 * o.idsig.sectors))) (λ h.
      heard_then (measure_of o.apk o.measure h) _ (heard_measure o.apk o.measure h) (λ m.
      heard_then (of_idsig (tree_fits h m.blocks)) _ (heard_idsig (tree_fits h m.blocks)) (λ v. tt))))

short_is : (o : Opening) (bytes : List ℕ) (t : Trace) (asked got : ℕ) → t.failed ≡ 0 → t.own ≡ (idsig_call o, Bytes bytes) ∷ [] → (asked ≡ 512 * count_of o) × (got ≡ length bytes) × (got < asked) → IsShort t asked got
short_is o bytes t asked got failed own h = record {
  failed = failed;
  call = idsig_call o;
  bytes = bytes;
  own = subst (λ (x : Exchanges). IsIn (idsig_call o) (Bytes bytes) x) (sym own) (inl refl);
  asks = ap kind_bytes (sym h.0);
  got_is = h.1;
  short = h.2;
}

outcome_of : (o : Opening) (r : Result Device ApkFault) (t : Trace) (i : IsOpened o r t) → IsHeard o i.bytes r → OpenOutcome o r t
outcome_of o (Ok d) t i h = i
outcome_of o (Err (Failed faults)) t i h = absurd h
outcome_of o (Err (Short asked got)) t i h = (i, short_is o i.bytes t asked got i.failed i.own h)
outcome_of o (Err (Idsig fault)) t i h = i
outcome_of o (Err SaltMismatch) t i h = i
outcome_of o (Err (RootMismatch expected found)) t i h = i
outcome_of o (Err (TooFewBlocks blocks)) t i h = i
outcome_of o (Err (TooManyBlocks blocks)) t i h = i
outcome_of o (Err (SpanShort blocks sectors)) t i h = i
outcome_of o (Err Memory) t i h = absurd h

made : (o : Opening) (r : Result Device ApkFault) (raw : List ℕ) (old new : Told) → Answered (idsig_call o) [] (Bytes raw) old new
    → length raw ≤ 512 * count_of o → r ≡ opened o raw → Did (IsIdsigCall o) 1 old new (OpenOutcome o r)
made o r raw old new a few is =
    did_answered (IsIdsigCall o) (idsig_call o) (Bytes raw) old new (OpenOutcome o r) (record { call_is = refl }) a
    (outcome_of o r _ (record { failed = refl; bytes = raw; own = refl; few = few; is = is }) (subst (λ (x : Result Device ApkFault). IsHeard o raw x) (sym is) (heard_opened o raw)))

-- the call was answered by these bytes
pub answered : (o : Opening) (count : ℕ) → count ≡ count_of o → (r : Result Device ApkFault) (raw : List ℕ) (old new : Told)
    → Answered (BlockRead o.disk o.idsig.first count) [] (Bytes raw) old new → length raw ≤ 512 * count → r ≡ opened o raw
    → Did (IsIdsigCall o) 1 old new (OpenOutcome o r)
answered o count e r raw old new a few is =
    made o r raw old new (subst (λ (n : ℕ). Answered (BlockRead o.disk o.idsig.first n) [] (Bytes raw) old new) e a) (omega arith) is

-- ---- a part that begins with an idsig

bytes_read : (sectors : ℕ) (part : List ℕ) → length part ≡ 512 * sectors → take (512 * min sectors 136) part ≡ take 69632 part
bytes_read sectors part len =
    elim (cases_lt sectors 136) [
      | inl lt ↦ take_all (512 * min sectors 136) part (omega arith) ∙ sym (take_all 69632 part (omega arith))
      | inr le ↦ (let same : 512 * min sectors 136 ≡ 69632 = omega arith in ap (λ (n : ℕ). take n part) same)
    ]

pub part_opens : IdsigsAreRead → DevicesOpen
unfolding opened
part_opens read o part h m len is measure tree =
    let seen : take (512 * count_of o) part ≡ take 69632 part = bytes_read o.idsig.sectors part len in
    let head : head_of (take (512 * count_of o) part) (512 * o.idsig.sectors) ≡ Ok h = ap (λ (x : List ℕ). head_of x (512 * o.idsig.sectors)) seen ∙ ap (head_of (take 69632 part)) (sym len) ∙ read part h is in
    let whole : nat_lt (length (take (512 * count_of o) part)) (512 * count_of o) ≡ false = le-ltb _ _ (omega (arith, length-take (512 * count_of o) part)) in
    let fits = eq-eqb h.tree_len (4096 * tree_pages m.blocks) tree in
    rw (whole, head, measure, fits) refl

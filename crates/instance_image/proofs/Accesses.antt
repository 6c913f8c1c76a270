-- What comes of one read and of one write.
use Rattle.std.proofs.Common.{◌≡◌, ℕ, ◌+◌, ◌≤◌, List, [], length, Option, Some, None, Result, Ok, Err, refl, ap, sym, ◌∙◌, subst, arith, inl, inr}
use Rattle.std.specs.Prelude.{Bool, true, false, if◌then◌else◌}
use Rattle.std.proofs.lemmas.Bool.Decides.{nat_tests}
use Rattle.host_traits.specs.declared.calls.Call.TheVariants.{BlockRead}
use Rattle.host_traits.specs.declared.calls.Said.TheVariants.{Bytes}
use Rattle.host_traits.specs.Told.{Told, Answered, Refused, Unheard, Exchanges, kind_bytes}
use Rattle.host_traits.specs.Did.{Trace, Did, DidBy, IsIn, IsShort}
use Rattle.host_traits.proofs.Doing.{did_answered, did_refused, did_unheard, did_none, is_failed}
use Rattle.host_traits.proofs.Talking.{talked_not}
use Rattle.instance_image.specs.declared.faults.GetFault.{GetFault}
use Rattle.instance_image.specs.declared.faults.GetFault.TheVariants as gets
use Rattle.instance_image.specs.declared.faults.PutFault.{PutFault}
use Rattle.instance_image.specs.declared.faults.PutFault.TheVariants as puts
use Rattle.instance_image.specs.declared.values.Part.{Part}
use Rattle.instance_image.specs.Records.{Kept, header_in, sectors_of, find_part, fits_in, fitting, is_large, room_of, IsPartAt, IsPayloadSize}
use Rattle.instance_image.specs.Sealings.{record_key}
use Rattle.instance_image.specs.Access.{get_call, HasRecord, IsGetCall, payload_in, IsRecord, AnswerOutcome, IsAnswered, HasNone, GetOutcome, IsPutting, PutOutcome}
use Rattle.instance_image.specs.Fitting.{Unsealed}

-- a payload was opened, or not
pub answer_of : (salt secret uuid : List ℕ) (p : Part) (bytes : List ℕ) (r : Result (List ℕ) GetFault) → IsRecord uuid p bytes
    → Unsealed (record_key salt secret uuid) (header_in bytes) salt (payload_in p bytes) r → AnswerOutcome salt secret uuid p bytes r
answer_of salt secret uuid p bytes (Ok text) is u = record { is_record = is; sealed = u }
answer_of salt secret uuid p bytes (Err (gets.Tag tag)) is u = record { is_record = is; computed = u.computed; found = u.found; differ = u.differ; nothing = u.nothing }
answer_of salt secret uuid p bytes (Err gets.Memory) is u = absurd u
answer_of salt secret uuid p bytes (Err gets.NoRecord) is u = absurd u
answer_of salt secret uuid p bytes (Err (gets.Failed faults)) is u = absurd u
answer_of salt secret uuid p bytes (Err (gets.Short asked got)) is u = absurd u
answer_of salt secret uuid p bytes (Err (gets.Changed sector)) is u = absurd u

short_get : (k : Kept) (secret uuid : List ℕ) (t : Trace) (asked got : ℕ) → IsAnswered k secret uuid t (Err (gets.Short asked got)) → IsShort t asked got
short_get k secret uuid t asked got a = record {
  failed = a.failed;
  call = get_call k a.part;
  bytes = a.bytes;
  own = subst (λ (x : Exchanges). IsIn (get_call k a.part) (Bytes a.bytes) x) (sym a.own) (inl refl);
  asks = ap kind_bytes (sym a.makes.asked_is);
  got_is = a.makes.got_is;
  short = a.makes.short;
}

get_outcome : (k : Kept) (secret uuid : List ℕ) (t : Trace) (r : Result (List ℕ) GetFault) → IsAnswered k secret uuid t r → GetOutcome k secret uuid r t
get_outcome k secret uuid t (Ok text) a = a
get_outcome k secret uuid t (Err gets.NoRecord) a = absurd a.makes
get_outcome k secret uuid t (Err (gets.Failed faults)) a = absurd a.makes
get_outcome k secret uuid t (Err (gets.Short asked got)) a = (a, short_get k secret uuid t asked got a)
get_outcome k secret uuid t (Err (gets.Changed sector)) a = a
get_outcome k secret uuid t (Err (gets.Tag tag)) a = a
get_outcome k secret uuid t (Err gets.Memory) a = absurd a.makes

-- the one read was answered
pub get_heard : (k : Kept) (secret uuid : List ℕ) (p : Part) (count : ℕ) (raw : List ℕ) (r : Result (List ℕ) GetFault) (old new : Told)
    → find_part k.parts uuid ≡ Some p → 28 ≤ p.size → p.size ≤ 65564 → count ≡ 1 + sectors_of p.size → Answered (BlockRead k.disk (k.first + p.sector) count) [] (Bytes raw) old new
    → AnswerOutcome k.salt secret uuid p raw r → Did (IsGetCall k uuid) 1 old new (GetOutcome k secret uuid r)
get_heard k secret uuid p count raw r old new found least most is a makes =
    let b : Answered (get_call k p) [] (Bytes raw) old new = subst (λ (n : ℕ). Answered (BlockRead k.disk (k.first + p.sector) n) [] (Bytes raw) old new) is a in
    let has : HasRecord k uuid p = record { found = found; least = least; most = most } in
    did_answered (IsGetCall k uuid) (get_call k p) (Bytes raw) old new (GetOutcome k secret uuid r) (record { part = p; has = has; call_is = refl }) b
    (get_outcome k secret uuid _ r (record { failed = refl; part = p; has = has; bytes = raw; own = refl; makes = makes }))

-- the one read failed
pub get_failed : (k : Kept) (secret uuid : List ℕ) (p : Part) (count faults : ℕ) (old new : Told)
    → find_part k.parts uuid ≡ Some p → 28 ≤ p.size → p.size ≤ 65564 → count ≡ 1 + sectors_of p.size → Refused (BlockRead k.disk (k.first + p.sector) count) [] old new
    → faults ≡ new.faults → Did (IsGetCall k uuid) 1 old new (GetOutcome k secret uuid (Err (gets.Failed faults)))
get_failed k secret uuid p count faults old new found least most is a same =
    let b : Refused (get_call k p) [] old new = subst (λ (n : ℕ). Refused (BlockRead k.disk (k.first + p.sector) n) [] old new) is a in
    let for : IsGetCall k uuid (get_call k p) = record { part = p; has = record { found = found; least = least; most = most }; call_is = refl } in
    did_refused (IsGetCall k uuid) (get_call k p) old new (GetOutcome k secret uuid (Err (gets.Failed faults))) for b (refl, is_failed (IsGetCall k uuid) (get_call k p) [] old new [] faults for b same)

-- the host had no memory for it
pub get_unheard : (k : Kept) (secret uuid : List ℕ) (p : Part) (old new : Told) → find_part k.parts uuid ≡ Some p → 28 ≤ p.size → p.size ≤ 65564
    → Unheard old new → Did (IsGetCall k uuid) 1 old new (GetOutcome k secret uuid (Err gets.Memory))
get_unheard k secret uuid p old new found least most u =
    did_unheard (IsGetCall k uuid) 1 old new (GetOutcome k secret uuid (Err gets.Memory)) u
    (record { part = p; has = record { found = found; least = least; most = most }; own = refl; failed = refl })

-- there was no memory for its text
pub get_roomless : (k : Kept) (secret uuid : List ℕ) (p : Part) (a : Told) → find_part k.parts uuid ≡ Some p → 28 ≤ p.size → p.size ≤ 65564
    → Did (IsGetCall k uuid) 1 a a (GetOutcome k secret uuid (Err gets.Memory))
get_roomless k secret uuid p a found least most =
    did_none (IsGetCall k uuid) 1 a (GetOutcome k secret uuid (Err gets.Memory)) (record { part = p; has = record { found = found; least = least; most = most }; own = refl; failed = refl })

-- no partition has this UUID, or it is empty
pub get_none : (k : Kept) (secret uuid : List ℕ) (a : Told) → HasNone k uuid → Did (IsGetCall k uuid) 1 a a (GetOutcome k secret uuid (Err gets.NoRecord))
get_none k secret uuid a none = did_none (IsGetCall k uuid) 1 a (GetOutcome k secret uuid (Err gets.NoRecord)) (refl, refl, none)

-- nothing fits
refused_put : (k : Kept) (uuid text : List ℕ) (why : PutFault) (t : Trace) → t.own ≡ [] → t.failed ≡ 0 → fits_in k.parts uuid (length text) ≡ Err why → PutOutcome k uuid text k (Err why) t
refused_put k uuid text puts.NoRecord t own none is = (refl, own, none, is)
refused_put k uuid text (puts.TooLarge n room) t own none is = (refl, own, none, is)
refused_put k uuid text puts.Memory t own none is = absurd (fits_no (find_part k.parts uuid) is) where
  fits_no : (o : Option Part) → fitting (length text) o ≡ Err puts.Memory → ⊥
  fits_no None e = cc
  fits_no (Some p) e = large_no (is_large (length text) p) p e where
    large_no : (b : Bool) (p : Part) → (if b then Err (puts.TooLarge (length text) (room_of p)) else Ok p) ≡ Err puts.Memory → ⊥
    large_no true p e = cc
    large_no false p e = cc
refused_put k uuid text (puts.Failed faults) t own none is = absurd (fits_no (find_part k.parts uuid) is) where
  fits_no : (o : Option Part) → fitting (length text) o ≡ Err (puts.Failed faults) → ⊥
  fits_no None e = cc
  fits_no (Some p) e = large_no (is_large (length text) p) p e where
    large_no : (b : Bool) (p : Part) → (if b then Err (puts.TooLarge (length text) (room_of p)) else Ok p) ≡ Err (puts.Failed faults) → ⊥
    large_no true p e = cc
    large_no false p e = cc

pub put_refused : (k : Kept) (secret uuid nonce text : List ℕ) (why : PutFault) (a : Told) → Err why ≡ fits_in k.parts uuid (length text)
    → DidBy (IsPutting k secret uuid nonce text) 1 a a (PutOutcome k uuid text k (Err why))
put_refused k secret uuid nonce text why a is = record { own = []; talked = talked_not a; calls = tt; few = omega arith; stops = tt; outcome = refused_put k uuid text why _ refl refl (sym is) }

-- it fits, and there was no memory for what is written
pub put_roomless : (k : Kept) (secret uuid nonce text : List ℕ) (p : Part) (a : Told) → Ok p ≡ fits_in k.parts uuid (length text)
    → DidBy (IsPutting k secret uuid nonce text) 1 a a (PutOutcome k uuid text k (Err puts.Memory))
put_roomless k secret uuid nonce text p a is = record { own = []; talked = talked_not a; calls = tt; few = omega arith; stops = tt; outcome = (refl, refl, refl, record { part = p; fits = sym is }) }

-- a partition that a text fits into
fitting_is : (n : ℕ) (o : Option Part) (p : Part) → fitting n o ≡ Ok p → (o ≡ Some p) × (is_large n p ≡ false)
fitting_is n None p e = absurd cc
fitting_is n (Some q) p e = large_is (is_large n q) refl e where
  large_is : (b : Bool) → b ≡ is_large n q → (if b then Err (puts.TooLarge n (room_of q)) else Ok q) ≡ Ok p → (Some q ≡ Some p) × (is_large n p ≡ false)
  large_is true is e = absurd cc
  large_is false is e = let same : q ≡ p = cc in (ap Some same, ap (is_large n) (sym same) ∙ sym is)

pub fits_found : (parts : List Part) (uuid : List ℕ) (n : ℕ) (p : Part) → fits_in parts uuid n ≡ Ok p → (find_part parts uuid ≡ Some p) × (is_large n p ≡ false)
fits_found parts uuid n p e = fitting_is n (find_part parts uuid) p e

pub large_not : (n : ℕ) (p : Part) → is_large n p ≡ false → IsPayloadSize (28 + n) p.reserved
large_not n p e = grind (arith, nat_tests)

-- what a put keeps is a partition still
pub put_lies : (first n : ℕ) (p : Part) → is_large n p ≡ false → IsPartAt first p → IsPartAt first (record p { size = 28 + n })
put_lies first n p e h = record { uuid_len = h.uuid_len; behind = h.behind; end = h.end; payload = inr (large_not n p e) }

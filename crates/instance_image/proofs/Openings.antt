-- How an image is read, sector by sector.
use Rattle.std.proofs.Common.{◌≡◌, ℕ, ◌+◌, ◌*◌, ◌<◌, ◌≤◌, ◌^◌, Bool, true, false, List, [], ◌∷◌, ◌++◌, length, Option, Some, None, Result, Ok, Err, refl, ap, sym, ◌∙◌, subst, arith, inl, inr, append-nil, ◌-◌, if◌then◌else◌}
use Rattle.std.specs.Prelude.{not, nat_lt, ◌⊎◌, ◌==◌, ◌&&◌}
use Rattle.std.specs.List.{AllByRecursion}
use Rattle.std.proofs.lemmas.List.{length-take}
use Rattle.std.proofs.lemmas.Bool.{ltb-true, ltb-false, eqb-true, eqb-false}
use Rattle.std.proofs.lemmas.Bool.Decides.{nat_tests}
use Rattle.host_traits.specs.declared.calls.Call.{Call}
use Rattle.host_traits.specs.declared.calls.Call.TheVariants.{BlockRead}
use Rattle.host_traits.specs.declared.calls.Said.TheVariants.{Bytes}
use Rattle.host_traits.specs.Told.{Told, Answered, Exchanges, kind_bytes}
use Rattle.host_traits.specs.Did.{Trace, trace_of, Did, IsIn, IsShort}
use Rattle.host_traits.proofs.Doing.{did_answered, did_so, did_then, short_later, failed_later, failed_so}
use Rattle.instance_image.specs.declared.faults.ImageFault.{ImageFault}
use Rattle.instance_image.specs.declared.faults.ImageFault.TheVariants.{Failed, Short, Magic, Version, NotZero, SaltMismatch, Header, TooMany, Memory}
use Rattle.instance_image.specs.declared.values.Part.{Part}
use Rattle.instance_image.specs.Records.{Kept, uuid_in, size_in, reserved_in, IsPartAt, IsPayloadSize}
use Rattle.instance_image.specs.Opening.{Opening, sector_call, must, ◌then◌, disk_fault, Reading, start, is_header, is_nil, part_of, header_step, with_part, HeardHeaders, HeardSoFar, HeardNext, IsRefused, IsNextCall, IsImageCall, kept_of, OpenOutcome}
use Rattle.instance_image.specs.Steps.{IsSector, HeardDisk, DiskOutcome, HeardHeader, HeaderOutcome}

-- ---- one call

sector_in : (o : Opening) (at : ℕ) → at < o.span.sectors → (call : Call) → IsSector o at call → IsImageCall o call
sector_in o at lt call s = record { at = at; inside = lt; call_is = s.call_is }

-- an answer is short only where it is
disk_short : (whole m v z s : Bool) (len found asked got : ℕ)
    → (must whole (Short 512 len) then must m Magic then must v (Version found) then must z (NotZero 0) then must s SaltMismatch) ≡ Some (Short asked got)
    → (whole ≡ false) × (asked ≡ 512) × (got ≡ len)
disk_short false m v z s len found asked got e = (refl, cc, cc)
disk_short true false v z s len found asked got e = absurd cc
disk_short true true false z s len found asked got e = absurd cc
disk_short true true true false s len found asked got e = absurd cc
disk_short true true true true false len found asked got e = absurd cc
disk_short true true true true true len found asked got e = absurd cc

not_false : (b : Bool) → not b ≡ false → b ≡ true
not_false true e = refl
not_false false e = absurd cc

short_disk : (salt bytes : List ℕ) (asked got : ℕ) → disk_fault salt bytes ≡ Some (Short asked got) → (asked ≡ 512) × (got ≡ length bytes) × (got < asked)
unfolding disk_fault
short_disk salt bytes asked got e =
    let s = disk_short _ _ _ _ _ (length bytes) _ asked got e in
    let few : length bytes < 512 = ltb-true (length bytes) 512 (not_false (nat_lt (length bytes) 512) s.0) in
    (s.1, s.2, omega (arith, s.1, s.2))

header_short : (few nil good : Bool) (len at : ℕ) (many : Bool) (p : Part) (asked got : ℕ)
    → (if few then Err (Short 512 len) else (if nil then Ok None else (if not good then Err (Header at) else (if many then Err (TooMany at) else Ok (Some p))))) ≡ Err (Short asked got)
    → (few ≡ true) × (asked ≡ 512) × (got ≡ len)
header_short true nil good len at many p asked got e = (refl, cc, cc)
header_short false true good len at many p asked got e = absurd cc
header_short false false false len at many p asked got e = absurd cc
header_short false false true len at true p asked got e = absurd cc
header_short false false true len at false p asked got e = absurd cc

short_header : (sectors : ℕ) (r : Reading) (bytes : List ℕ) (asked got : ℕ) → header_step sectors r bytes ≡ Err (Short asked got) → (asked ≡ 512) × (got ≡ length bytes) × (got < asked)
unfolding header_step
short_header sectors r bytes asked got e =
    let s = header_short (nat_lt (length bytes) 512) (is_nil (uuid_in bytes)) (is_header sectors r bytes) (length bytes) r.next (length r.parts == 256) (part_of r.next bytes) asked got e in
    let few : length bytes < 512 = ltb-true (length bytes) 512 s.0 in
    (s.1, s.2, omega (arith, s.1, s.2))

short_of : (o : Opening) (at : ℕ) (bytes : List ℕ) (t : Trace) (asked got : ℕ) → t.failed ≡ 0 → t.own ≡ (sector_call o at, Bytes bytes) ∷ []
    → (asked ≡ 512) × (got ≡ length bytes) × (got < asked) → IsShort t asked got
short_of o at bytes t asked got none own h = record {
  failed = none;
  call = sector_call o at;
  bytes = bytes;
  own = subst (λ (x : Exchanges). IsIn (sector_call o at) (Bytes bytes) x) (sym own) (inl refl);
  asks = ap kind_bytes (sym h.0);
  got_is = h.1;
  short = h.2;
}

-- ---- what answers can't make

abbrev CanHear : ImageFault → Type 0
CanHear (Failed faults) = ⊥
CanHear Memory = ⊥
CanHear fault = Unit {0}

abbrev CanMake : {A : Type 0} → Result A ImageFault → Type 0
CanMake (Ok x) = Unit {0}
CanMake (Err fault) = CanHear fault

abbrev CanFind : Option ImageFault → Type 0
CanFind None = Unit {0}
CanFind (Some fault) = CanHear fault

disk_can : (whole m v z s : Bool) (len found : ℕ) → CanFind (must whole (Short 512 len) then must m Magic then must v (Version found) then must z (NotZero 0) then must s SaltMismatch)
disk_can false m v z s len found = tt
disk_can true false v z s len found = tt
disk_can true true false z s len found = tt
disk_can true true true false s len found = tt
disk_can true true true true false len found = tt
disk_can true true true true true len found = tt

can_disk : (salt bytes : List ℕ) → CanFind (disk_fault salt bytes)
unfolding disk_fault
can_disk salt bytes = disk_can _ _ _ _ _ (length bytes) _

header_can : (few nil good : Bool) (len at : ℕ) (many : Bool) (p : Part) → CanMake {A = Option Part} (if few then Err (Short 512 len) else (if nil then Ok None else (if not good then Err (Header at) else (if many then Err (TooMany at) else Ok (Some p)))))
header_can true nil good len at many p = tt
header_can false true good len at many p = tt
header_can false false false len at many p = tt
header_can false false true len at true p = tt
header_can false false true len at false p = tt

can_header : (sectors : ℕ) (r : Reading) (bytes : List ℕ) → CanMake (header_step sectors r bytes)
unfolding header_step
can_header sectors r bytes = header_can (nat_lt (length bytes) 512) (is_nil (uuid_in bytes)) (is_header sectors r bytes) (length bytes) r.next (length r.parts == 256) (part_of r.next bytes)

disk_outcome : (o : Opening) (fault : ImageFault) (t : Trace) → HeardDisk o (Some fault) t → CanHear fault → DiskOutcome o (Err fault) t
disk_outcome o (Failed faults) t h can = absurd can
disk_outcome o Memory t h can = absurd can
disk_outcome o (Short asked got) t h can = h
disk_outcome o Magic t h can = h
disk_outcome o (Version found) t h can = h
disk_outcome o (NotZero sector) t h can = h
disk_outcome o SaltMismatch t h can = h
disk_outcome o (Header sector) t h can = h
disk_outcome o (TooMany sector) t h can = h

header_fault : (o : Opening) (r : Reading) (fault : ImageFault) (t : Trace) → HeardHeader o r (Err fault) t → CanHear fault → HeaderOutcome o r (Err fault) t
header_fault o r (Failed faults) t h can = absurd can
header_fault o r Memory t h can = absurd can
header_fault o r (Short asked got) t h can = h
header_fault o r Magic t h can = h
header_fault o r (Version found) t h can = h
header_fault o r (NotZero sector) t h can = h
header_fault o r SaltMismatch t h can = h
header_fault o r (Header sector) t h can = h
header_fault o r (TooMany sector) t h can = h

header_outcome : (o : Opening) (r : Reading) (makes : Result (Option Part) ImageFault) (t : Trace) → HeardHeader o r makes t → CanMake makes → HeaderOutcome o r makes t
header_outcome o r (Ok x) t h can = h
header_outcome o r (Err fault) t h can = header_fault o r fault t h can

-- the first sector was answered by these bytes, which break a rule
pub disk_heard : (o : Opening) (fault : ImageFault) (first : ℕ) (raw : List ℕ) (old new : Told) → first ≡ o.span.first → Answered (BlockRead o.disk first 1) [] (Bytes raw) old new
    → length raw ≤ 512 → Some fault ≡ disk_fault o.salt raw → Did (IsSector o 0) 1 old new (DiskOutcome o (Err fault))
disk_heard o fault first raw old new at a few is =
    let same : BlockRead o.disk first 1 ≡ sector_call o 0 = ap (λ (n : ℕ). BlockRead o.disk n 1) (omega arith) in
    let b : Answered (sector_call o 0) [] (Bytes raw) old new = subst (λ (x : Call). Answered x [] (Bytes raw) old new) same a in
    did_answered (IsSector o 0) (sector_call o 0) (Bytes raw) old new (DiskOutcome o (Err fault)) (record { call_is = refl }) b
    (disk_outcome o fault _ (record { failed = refl; bytes = raw; own = refl; few = few; is = sym is }) (subst CanFind (sym is) (can_disk o.salt raw)))

-- a header was answered by these bytes
pub header_heard : (o : Opening) (r : Reading) (makes : Result (Option Part) ImageFault) (raw : List ℕ) (old new : Told) → Answered (sector_call o r.next) [] (Bytes raw) old new
    → length raw ≤ 512 → makes ≡ header_step o.span.sectors r raw → Did (IsSector o r.next) 1 old new (HeaderOutcome o r makes)
header_heard o r makes raw old new a few is =
    did_answered (IsSector o r.next) (sector_call o r.next) (Bytes raw) old new (HeaderOutcome o r makes) (record { call_is = refl }) a
    (header_outcome o r makes _ (record { failed = refl; bytes = raw; own = refl; few = few; is = sym is }) (subst CanMake (sym is) (can_header o.span.sectors r raw)))

-- ---- the first sector

bad_disk : (o : Opening) (t : Trace) (fault : ImageFault) → DiskOutcome o (Err fault) t → OpenOutcome o (Err fault) t
bad_disk o t (Failed faults) h = failed_so (IsSector o 0) (IsNextCall o t.own) t faults (λ call s. inl (h.0, s.call_is)) h.1
bad_disk o t (Short asked got) h = (inl (record { bytes = h.bytes; own_is = h.own; is = h.is }), short_of o 0 h.bytes t asked got h.failed h.own (short_disk o.salt h.bytes asked got h.is))
bad_disk o t Memory h = (h.1.failed, inl h.0)
bad_disk o t Magic h = (h.failed, inl (record { bytes = h.bytes; own_is = h.own; is = h.is }))
bad_disk o t (Version found) h = (h.failed, inl (record { bytes = h.bytes; own_is = h.own; is = h.is }))
bad_disk o t (NotZero sector) h = (h.failed, inl (record { bytes = h.bytes; own_is = h.own; is = h.is }))
bad_disk o t SaltMismatch h = (h.failed, inl (record { bytes = h.bytes; own_is = h.own; is = h.is }))
bad_disk o t (Header sector) h = (h.failed, inl (record { bytes = h.bytes; own_is = h.own; is = h.is }))
bad_disk o t (TooMany sector) h = (h.failed, inl (record { bytes = h.bytes; own_is = h.own; is = h.is }))

pub refused : (o : Opening) (a b : Told) (fault : ImageFault) → 1 ≤ o.span.sectors → Did (IsSector o 0) 1 a b (DiskOutcome o (Err fault)) → Did (IsImageCall o) 258 a b (OpenOutcome o (Err fault))
refused o a b fault some d = did_so (IsSector o 0) (IsImageCall o) 1 258 a b (DiskOutcome o (Err fault)) (OpenOutcome o (Err fault)) d (sector_in o 0 (omega arith)) (omega arith) (λ t h. bad_disk o t fault h)

-- what was heard so far
pub record Headed (o : Opening) (r : Reading) (t : Trace) : Type 0 where
  pub failed : t.failed ≡ 0
  pub heard : HeardSoFar o t.own r

pub begins : (o : Opening) (a b : Told) → 1 ≤ o.span.sectors → Did (IsSector o 0) 1 a b (DiskOutcome o (Ok tt)) → Did (IsImageCall o) 1 a b (Headed o start)
begins o a b some d = did_so (IsSector o 0) (IsImageCall o) 1 1 a b (DiskOutcome o (Ok tt)) (Headed o start) d (sector_in o 0 (omega arith)) (omega arith)
    (λ t h. record { failed = h.failed; heard = record { head = h.bytes; headers = []; own_is = h.own; good = h.is; each = refl } })

-- ---- a header

headers_on : (o : Opening) (r mid : Reading) (own : Exchanges) (bytes : List ℕ) (p : Part) → HeardHeaders o r own mid → mid.next < o.span.sectors
    → header_step o.span.sectors mid bytes ≡ Ok (Some p) → HeardHeaders o r (own ++ (sector_call o mid.next, Bytes bytes) ∷ []) (with_part mid p)
headers_on o r mid [] bytes p h lt step =
    subst (λ (x : Reading). HeardHeaders o x ((sector_call o mid.next, Bytes bytes) ∷ []) (with_part mid p)) h (bytes, p, lt, refl, step, refl)
headers_on o r mid (x ∷ own) bytes p h lt step = (h.0, h.1, h.2, h.3, h.4, headers_on o (with_part r h.1) mid own bytes p h.5 lt step)

so_far_on : (o : Opening) (r : Reading) (x y : Exchanges) (bytes : List ℕ) (p : Part) → HeardSoFar o x r → r.next < o.span.sectors
    → y ≡ (sector_call o r.next, Bytes bytes) ∷ [] → header_step o.span.sectors r bytes ≡ Ok (Some p) → HeardSoFar o (x ++ y) (with_part r p)
so_far_on o r x y bytes p s lt own step = record {
  head = s.head;
  headers = s.headers ++ y;
  own_is = ap (λ (e : Exchanges). e ++ y) s.own_is;
  good = s.good;
  each = subst (λ (e : Exchanges). HeardHeaders o start (s.headers ++ e) (with_part r p)) (sym own) (headers_on o start r s.headers bytes p s.each lt step);
}

next_of : (o : Opening) (r : Reading) (x y : Exchanges) (makes : Result (Option Part) ImageFault) (bytes : List ℕ) → HeardSoFar o x r → r.next < o.span.sectors
    → y ≡ (sector_call o r.next, Bytes bytes) ∷ [] → header_step o.span.sectors r bytes ≡ makes → HeardNext o (x ++ y) r makes
next_of o r x y makes bytes s lt own is = record { before = x; so_far = s; inside = lt; bytes = bytes; own_is = ap (λ (e : Exchanges). x ++ e) own; is = is }

headed_none : (o : Opening) (r : Reading) (t : Trace) → Headed o r t → t.failed ≡ 0
headed_none o r t h = h.failed

pub goes_on : (o : Opening) (r : Reading) (p : Part) (n : ℕ) (a b c : Told) → r.next < o.span.sectors → Did (IsImageCall o) n a b (Headed o r)
    → Did (IsSector o r.next) 1 b c (HeaderOutcome o r (Ok (Some p))) → Did (IsImageCall o) (n + 1) a c (Headed o (with_part r p))
goes_on o r p n a b c lt d e =
    let e1 = did_so (IsSector o r.next) (IsImageCall o) 1 1 b c (HeaderOutcome o r (Ok (Some p))) (HeaderOutcome o r (Ok (Some p))) e (sector_in o r.next lt) (omega arith) (λ t h. h) in
    did_then (IsImageCall o) n 1 a b c (Headed o r) (HeaderOutcome o r (Ok (Some p))) (Headed o (with_part r p)) d e1 (headed_none o r)
    (λ x y failed le s h. record { failed = h.failed; heard = so_far_on o r x y h.bytes p s.heard lt h.own h.is })

-- one header more, and the end
last : (o : Opening) (r : Reading) (makes : Result (Option Part) ImageFault) (result : Result Kept ImageFault) (n : ℕ) (a b c : Told) → r.next < o.span.sectors → n ≤ 257
    → Did (IsImageCall o) n a b (Headed o r) → Did (IsSector o r.next) 1 b c (HeaderOutcome o r makes)
    → ((x y : Exchanges) (failed : ℕ) → a.faults ≤ b.faults → HeardSoFar o x r → HeaderOutcome o r makes (trace_of y failed b c) → OpenOutcome o result (trace_of (x ++ y) failed a c))
    → Did (IsImageCall o) 258 a c (OpenOutcome o result)
last o r makes result n a b c lt few d e ends_so =
    let e1 = did_so (IsSector o r.next) (IsImageCall o) 1 (258 - n) b c (HeaderOutcome o r makes) (HeaderOutcome o r makes) e (sector_in o r.next lt) (omega arith) (λ t h. h) in
    let whole = did_then (IsImageCall o) n (258 - n) a b c (Headed o r) (HeaderOutcome o r makes) (OpenOutcome o result) d e1 (headed_none o r)
    (λ x y failed le s h. ends_so x y failed le s.heard h) in
    did_so (IsImageCall o) (IsImageCall o) (n + (258 - n)) 258 a c (OpenOutcome o result) (OpenOutcome o result) whole (λ call h. h) (omega arith) (λ t h. h)

pub closes : (o : Opening) (r : Reading) (n : ℕ) (a b c : Told) → r.next < o.span.sectors → n ≤ 257 → Did (IsImageCall o) n a b (Headed o r)
    → Did (IsSector o r.next) 1 b c (HeaderOutcome o r (Ok None)) → Did (IsImageCall o) 258 a c (OpenOutcome o (Ok (kept_of o r)))
closes o r n a b c lt few d e = last o r (Ok None) (Ok (kept_of o r)) n a b c lt few d e
    (λ x y failed le s h. (h.failed, record { reading = r; closed = inr (next_of o r x y (Ok None) h.bytes s lt h.own h.is); is = refl }))

header_bad : (o : Opening) (r : Reading) (x y : Exchanges) (bytes : List ℕ) (fault : ImageFault) → HeardSoFar o x r → r.next < o.span.sectors
    → y ≡ (sector_call o r.next, Bytes bytes) ∷ [] → header_step o.span.sectors r bytes ≡ Err fault → IsRefused o (x ++ y) fault
header_bad o r x y bytes fault s lt own is = inr (record { reading = r; next = next_of o r x y (Err fault) bytes s lt own is })

-- nothing more was heard
same_heard : (o : Opening) (r : Reading) (x y : Exchanges) → y ≡ [] → HeardSoFar o x r → HeardSoFar o (x ++ y) r
same_heard o r x y none s = subst (λ (e : Exchanges). HeardSoFar o e r) (sym (ap (λ (e : Exchanges). x ++ e) none ∙ append-nil x)) s

bad_header : (o : Opening) (r : Reading) (a b c : Told) (x y : Exchanges) (failed : ℕ) (fault : ImageFault) → a.faults ≤ b.faults → r.next < o.span.sectors → HeardSoFar o x r
    → HeaderOutcome o r (Err fault) (trace_of y failed b c) → OpenOutcome o (Err fault) (trace_of (x ++ y) failed a c)
bad_header o r a b c x y failed (Failed faults) le lt s h =
    failed_so (IsSector o r.next) (IsNextCall o (x ++ y)) (trace_of (x ++ y) failed a c) faults
    (λ call is. inr (r, same_heard o r x y h.0 s, lt, is.call_is))
    (failed_later (IsSector o r.next) a b c x y failed faults le h.1)
bad_header o r a b c x y failed (Short asked got) le lt s h = (
  header_bad o r x y h.bytes (Short asked got) s lt h.own h.is,
  short_later a b c x y failed asked got (short_of o r.next h.bytes (trace_of y failed b c) asked got h.failed h.own (short_header o.span.sectors r h.bytes asked got h.is)),
)
bad_header o r a b c x y failed Memory le lt s h = (h.1.failed, inr (r, same_heard o r x y h.0 s))
bad_header o r a b c x y failed Magic le lt s h = (h.failed, header_bad o r x y h.bytes Magic s lt h.own h.is)
bad_header o r a b c x y failed (Version found) le lt s h = (h.failed, header_bad o r x y h.bytes (Version found) s lt h.own h.is)
bad_header o r a b c x y failed (NotZero sector) le lt s h = (h.failed, header_bad o r x y h.bytes (NotZero sector) s lt h.own h.is)
bad_header o r a b c x y failed SaltMismatch le lt s h = (h.failed, header_bad o r x y h.bytes SaltMismatch s lt h.own h.is)
bad_header o r a b c x y failed (Header sector) le lt s h = (h.failed, header_bad o r x y h.bytes (Header sector) s lt h.own h.is)
bad_header o r a b c x y failed (TooMany sector) le lt s h = (h.failed, header_bad o r x y h.bytes (TooMany sector) s lt h.own h.is)

pub fails : (o : Opening) (r : Reading) (fault : ImageFault) (n : ℕ) (a b c : Told) → r.next < o.span.sectors → n ≤ 257 → Did (IsImageCall o) n a b (Headed o r)
    → Did (IsSector o r.next) 1 b c (HeaderOutcome o r (Err fault)) → Did (IsImageCall o) 258 a c (OpenOutcome o (Err fault))
fails o r fault n a b c lt few d e = last o r (Err fault) (Err fault) n a b c lt few d e
    (λ x y failed le s h. bad_header o r a b c x y failed fault le lt s h)

pub ends : (o : Opening) (r : Reading) (n : ℕ) (a b : Told) → r.next ≡ o.span.sectors → n ≤ 258 → Did (IsImageCall o) n a b (Headed o r)
    → Did (IsImageCall o) 258 a b (OpenOutcome o (Ok (kept_of o r)))
ends o r n a b at few d = did_so (IsImageCall o) (IsImageCall o) n 258 a b (Headed o r) (OpenOutcome o (Ok (kept_of o r))) d (λ call h. h) (omega arith)
    (λ t s. (s.failed, record { reading = r; closed = inl (s.heard, at); is = refl }))

-- a further partition was heard, and there was no memory for it
pub no_memory : (o : Opening) (r : Reading) (p : Part) (n : ℕ) (a b c : Told) → r.next < o.span.sectors → n ≤ 257 → Did (IsImageCall o) n a b (Headed o r)
    → Did (IsSector o r.next) 1 b c (HeaderOutcome o r (Ok (Some p))) → Did (IsImageCall o) 258 a c (OpenOutcome o (Err Memory))
no_memory o r p n a b c lt few d e = last o r (Ok (Some p)) (Err Memory) n a b c lt few d e
    (λ x y failed le s h. (h.failed, inr (with_part r p, so_far_on o r x y h.bytes p s lt h.own h.is)))

-- ---- what a header that keeps the rules says

pub payload_good : (size reserved : ℕ) (none : Bool) → none ≡ (size == 0) → (if none then true else (not (nat_lt size 28) && not (nat_lt 65564 size) && not (nat_lt (512 * reserved) size))) ≡ true
    → (size ≡ 0) ⊎ IsPayloadSize size reserved
payload_good size reserved true none e = inl (eqb-true size 0 (sym none))
payload_good size reserved false none e = inr (grind (arith, nat_tests))

record IsGood (sectors : ℕ) (r : Reading) (bytes : List ℕ) : Type 0 where
  end : r.next + (1 + reserved_in bytes) ≤ sectors
  payload : (size_in bytes ≡ 0) ⊎ IsPayloadSize (size_in bytes) (reserved_in bytes)

header_good : (zero long sized new : Bool) → (if not zero then false else (if long then false else (if not sized then false else new))) ≡ true → (long ≡ false) × (sized ≡ true)
header_good true false true new e = (refl, refl)
header_good true false false new e = absurd cc
header_good true true sized new e = absurd cc
header_good false long sized new e = absurd cc

step_good : (few nil good : Bool) (len at : ℕ) (many : Bool) (p q : Part)
    → (if few then Err (Short 512 len) else (if nil then Ok None else (if not good then Err (Header at) else (if many then Err (TooMany at) else Ok (Some p))))) ≡ Ok (Some q)
    → (few ≡ false) × (good ≡ true) × (many ≡ false) × (p ≡ q)
step_good true nil good len at many p q e = absurd cc
step_good false true good len at many p q e = absurd cc
step_good false false false len at many p q e = absurd cc
step_good false false true len at true p q e = absurd cc
step_good false false true len at false p q e = (refl, refl, refl, cc)

pub record IsStep (first sectors : ℕ) (r : Reading) (p : Part) : Type 0 where
  pub end : r.next + (1 + p.reserved) ≤ sectors
  pub sector_is : p.sector ≡ r.next
  pub few : length r.parts < 256
  pub lies : IsPartAt first p

pub steps : (first sectors : ℕ) (r : Reading) (bytes : List ℕ) (p : Part) → first + sectors ≤ 2 ^ 40 → 1 ≤ r.next → length r.parts ≤ 256
    → header_step sectors r bytes ≡ Ok (Some p) → IsStep first sectors r p
unfolding header_step
steps first sectors r bytes p end some few e =
    let s = step_good (nat_lt (length bytes) 512) (is_nil (uuid_in bytes)) (is_header sectors r bytes) (length bytes) r.next (length r.parts == 256) (part_of r.next bytes) p e in
    let g = header_good _ _ _ _ s.1 in
    let whole : 512 ≤ length bytes = ltb-false (length bytes) 512 s.0 in
    let long : r.next + (1 + reserved_in bytes) ≤ sectors = ltb-false sectors (r.next + (1 + reserved_in bytes)) g.0 in
    let other : length r.parts ≡ 256 → ⊥ = eqb-false (length r.parts) 256 s.2 in
    subst (λ (q : Part). IsStep first sectors r q) s.3 (record {
      end = long;
      sector_is = refl;
      few = omega (arith, other);
      lies = record { uuid_len = omega (arith, length-take 16 bytes, whole); behind = some; end = omega (arith, long, end); payload = payload_good (size_in bytes) (reserved_in bytes) (size_in bytes == 0) refl g.1 };
    })

pub all_more : (P : Part → Type 0) (parts : List Part) (p : Part) → AllByRecursion P parts → P p → AllByRecursion P (parts ++ p ∷ [])
all_more P [] p a h = (h, tt)
all_more P (q ∷ parts) p a h = (a.0, all_more P parts p a.1 h)

-- The measure that a record keeps.
use Rattle.std.proofs.Common.{Bool, true, false, ◌≡◌, ℕ, ◌+◌, ◌<◌, ◌≤◌, ◌∙◌, List, [], ◌∷◌, ◌++◌, length, take, drop, Option, Some, None, Result, Ok, Err, refl, ap, sym, subst, inl, inr, arith, append_assoc, append-nil}
use Rattle.std.specs.Prelude.{nat_lt, if◌then◌else◌, ◌⊎◌}
use Rattle.std.proofs.lemmas.Bool.Decides.{nat_tests}
use Rattle.mg_base.specs.declared.values.Span.{Span}
use Rattle.host_traits.specs.declared.calls.Call.{Call}
use Rattle.host_traits.specs.declared.calls.Said.{Said}
use Rattle.host_traits.specs.Told.{Told, Exchanges, Made, exchange_of, heard_of, one_failure, failures_of}
use Rattle.host_traits.specs.Did.{Did, DidBy, Trace, trace_of, reads}
use Rattle.host_traits.proofs.Doing.{did_none, did_so, each_so, did_by_then, failed_later, short_later}
use Rattle.sha_tree.specs.declared.measure.Measure.{Measure}
use Rattle.verity_path.specs.declared.device.Device.{Device}
use Rattle.apk_verity.specs.declared.ApkFault.TheVariants as apks
use Rattle.apk_verity.specs.Opening.{Opening, opening, IsIdsigCall}
use Rattle.instance_image.specs.declared.faults.GetFault.{GetFault}
use Rattle.instance_image.specs.declared.faults.GetFault.TheVariants as gets
use Rattle.instance_image.specs.declared.faults.PutFault.{PutFault}
use Rattle.instance_image.specs.declared.faults.PutFault.TheVariants as puts
use Rattle.instance_image.specs.declared.values.Part.{Part}
use Rattle.instance_image.specs.Records.{Kept, find_part, size_of, fits_in, fits, fitting, is_large, room_of}
use Rattle.instance_image.specs.Access.{IsGetCall, GetOutcome, IsAnswered, IsPutting, PutOutcome, IsPutCall, record_bytes, sealing_of}
use Rattle.guest_plan.specs.Spelling.{measure_text}
use Rattle.guest_plan.specs.Measures.{IsMeasureText}
use Rattle.guest_boot.specs.declared.faults.BootCause.{BootCause}
use Rattle.guest_boot.specs.declared.faults.BootCause.TheVariants.{Gpt, NoPart, Apk, File, Image, Get, Put, NoEntropy, MeasureText, Failed, Short, Memory}
use Rattle.guest_boot.specs.Recording.{Writing, IsWriting, ReadsOrWrites, DidWriting, IsQuiet, IsGetting, IsEmpty, Measured, MeasureFails, MeasureOutcome, measure_writing, measure_writings, writings_if, KeepFails, KeepOutcome, get_cause, put_cause}
use Rattle.guest_boot.specs.Booting.{Booted, Recorded, with_recorded, DeviceBoots, DeviceFails, DeviceOutcome, MeasureIsIn, OpeningFails, FoundOutcome, MeasuredDone, IsForFound}
use Rattle.guest_boot.proofs.Makes.{open_later}

-- ---- work with wider words

pub did_as : (F G : Call → List ℕ → Type 0) (m n : ℕ) (a b : Told) (P Q : Trace → Type 0) → DidBy F m a b P → ((call : Call) (given : List ℕ) → F call given → G call given) → m ≤ n
    → ((t : Trace) → P t → Q t) → DidBy G n a b Q
did_as F G m n a b P Q d f le q = record {
  own = d.own;
  talked = d.talked;
  calls = each_so F G d.own f d.calls;
  few = omega (arith, d.few, le);
  stops = d.stops;
  outcome = q _ d.outcome;
}

-- work that only reads
pub did_reading : (F G : Call → Type 0) (w : List Writing) (m n : ℕ) (a b : Told) (P Q : Trace → Type 0) → Did F m a b P → ((call : Call) → F call → G call) → m ≤ n → ((t : Trace) → P t → Q t)
    → DidBy (ReadsOrWrites G w) n a b Q
did_reading F G w m n a b P Q d f le q = did_as (reads F) (ReadsOrWrites G w) m n a b P Q d (λ call given p. inl (f call p.0, p.1)) le q

pub written_left : (x y : List Writing) (call : Call) (given : List ℕ) → IsWriting x call given → IsWriting (x ++ y) call given
written_left [] y call given i = absurd i
written_left (w ∷ x) y call given (inl e) = inl e
written_left (w ∷ x) y call given (inr i) = inr (written_left x y call given i)

pub written_right : (x y : List Writing) (call : Call) (given : List ℕ) → IsWriting y call given → IsWriting (x ++ y) call given
written_right [] y call given i = i
written_right (w ∷ x) y call given i = inr (written_right x y call given i)

-- ---- the tests of a put

fits_yes : (r : Result Part PutFault) (u : Unit {0}) → fits r ≡ Ok u → (p : Part) × (r ≡ Ok p)
fits_yes (Ok p) u e = (p, refl)
fits_yes (Err why) u e = absurd cc

fits_no : (r : Result Part PutFault) (why : PutFault) → fits r ≡ Err why → r ≡ Err why
fits_no (Ok p) why e = absurd cc
fits_no (Err fault) why e = let same : fault ≡ why = cc in ap (λ (f : PutFault). Err f) same

not_refused : (r : Result Part PutFault) (u : Unit {0}) (why : PutFault) → fits r ≡ Ok u → r ≡ Err why → ⊥
not_refused (Ok p) u why e f = cc
not_refused (Err fault) u why e f = cc

-- an empty partition is there
large_is_there : (n : ℕ) (b : Bool) (p : Part) → (if b then Err (puts.TooLarge n (room_of p)) else Ok p) ≡ Err puts.NoRecord → ⊥
large_is_there n true p e = cc
large_is_there n false p e = cc

is_there : (n : ℕ) (o : Option Part) → size_of o ≡ Some 0 → fitting n o ≡ Err puts.NoRecord → ⊥
is_there n None empty e = cc
is_there n (Some p) empty e = large_is_there n (is_large n p) p e

-- of the two tests
abbrev IsTest : PutFault → Type 0
IsTest puts.NoRecord = Unit {0}
IsTest (puts.TooLarge text room) = Unit {0}
IsTest puts.Memory = ⊥
IsTest (puts.Failed faults) = ⊥

test_large : (n : ℕ) (b : Bool) (p : Part) (why : PutFault) → (if b then Err (puts.TooLarge n (room_of p)) else Ok p) ≡ Err why → IsTest why
test_large n true p why e = let same : puts.TooLarge n (room_of p) ≡ why = cc in subst IsTest same tt
test_large n false p why e = absurd cc

test_of : (n : ℕ) (o : Option Part) (why : PutFault) → fitting n o ≡ Err why → IsTest why
test_of n None why e = let same : puts.NoRecord ≡ why = cc in subst IsTest same tt
test_of n (Some p) why e = test_large n (is_large n p) p why e

-- ---- a measure that is put

module _ (k : Kept) (secret uuid entropy : List ℕ) (m : Measure) where
  abbrev text : List ℕ
  text = measure_text m

  abbrev w : List Writing
  w = measure_writings k secret uuid entropy m

  no_writing : (why : PutFault) → fits_in k.parts uuid (length text) ≡ Err why → w ≡ []
  no_writing why e = ap (writings_if k secret uuid entropy m) e

  one_writing : (p : Part) → fits_in k.parts uuid (length text) ≡ Ok p → 12 ≤ length entropy → w ≡ measure_writing k secret uuid entropy m p ∷ []
  one_writing p e enough =
      let few : nat_lt (length entropy) 12 ≡ false = grind (arith, nat_tests, enough) in
      ap (writings_if k secret uuid entropy m) e ∙ rw few refl

  module _ (empty : IsEmpty k uuid) where
    refused_as : (now : Kept) (left : List ℕ) (why : PutFault) (t : Trace) → IsQuiet t → fits_in k.parts uuid (length text) ≡ Err why → IsTest why → KeepOutcome k uuid entropy m now left (Err (put_cause why)) t
    refused_as now left puts.NoRecord t q e is = absurd (is_there (length text) (find_part k.parts uuid) empty e)
    refused_as now left (puts.TooLarge n room) t q e is = (q, e)
    refused_as now left puts.Memory t q e is = absurd is
    refused_as now left (puts.Failed faults) t q e is = absurd is

    pub keep_refused : (now : Kept) (left : List ℕ) (why : PutFault) (a : Told) → fits (fits_in k.parts uuid (length text)) ≡ Err why
        → DidBy (ReadsOrWrites (λ call. ⊥) w) 1 a a (KeepOutcome k uuid entropy m now left (Err (put_cause why)))
    keep_refused now left why a e =
        let is = fits_no _ why e in
        did_reading (λ call. ⊥) (λ call. ⊥) w 1 1 a a _ _ (did_none (λ call. ⊥) 1 a (KeepOutcome k uuid entropy m now left (Err (put_cause why))) (refused_as now left why _ (record { own = refl; failed = refl }) is (test_of (length text) (find_part k.parts uuid) why is)))
        (λ call f. f) (omega arith) (λ t h. h)

  pub keep_starved : (now : Kept) (left : List ℕ) (n : ℕ) (a : Told) → (u : Unit {0}) → fits (fits_in k.parts uuid (length text)) ≡ Ok u → n ≡ length entropy → length entropy < 12
      → DidBy (ReadsOrWrites (λ call. ⊥) w) 1 a a (KeepOutcome k uuid entropy m now left (Err (NoEntropy n)))
  keep_starved now left n a u e is few =
      let p = fits_yes _ u e in
      did_reading (λ call. ⊥) (λ call. ⊥) w 1 1 a a _ _ (did_none (λ call. ⊥) 1 a (KeepOutcome k uuid entropy m now left (Err (NoEntropy n))) (record { own = refl; failed = refl }, record { part = p.0; fits = p.1 }, is, omega (arith, is, few)))
      (λ call f. f) (omega arith) (λ t h. h)

  module _ (nonce : List ℕ) (now : Kept) (left : List ℕ) (a b : Told) (u : Unit {0}) (e : fits (fits_in k.parts uuid (length text)) ≡ Ok u) (enough : 12 ≤ length entropy)
      (nonce_is : nonce ≡ take 12 entropy) where
    putting : (call : Call) (given : List ℕ) → IsPutting k secret uuid nonce text call given → ReadsOrWrites (λ call. ⊥) w call given
    putting call given p =
        let first : w ≡ measure_writing k secret uuid entropy m p.part ∷ [] = one_writing p.part p.fits enough in
        inr (subst (λ (z : List Writing). IsWriting z call given) (sym first) (inl (p.call_is, p.given_is ∙ ap (λ (n : List ℕ). record_bytes k.salt secret (sealing_of p.part uuid n text)) nonce_is)))

    pub keep_put : (x : Unit {0}) → left ≡ drop 12 entropy → DidBy (IsPutting k secret uuid nonce text) 1 a b (PutOutcome k uuid text now (Ok x))
        → DidBy (ReadsOrWrites (λ call. ⊥) w) 1 a b (KeepOutcome k uuid entropy m now left (Ok x))
    keep_put x left_is d = did_as _ _ 1 1 a b _ _ d putting (omega arith) (λ t h. (h.0, (enough, h.1, left_is)))

    unput : (why : PutFault) (t : Trace) → PutOutcome k uuid text now (Err why) t → KeepOutcome k uuid entropy m now left (Err (put_cause why)) t
    unput puts.NoRecord t h = absurd (not_refused _ u puts.NoRecord e h.3)
    unput (puts.TooLarge n room) t h = (record { own = h.1; failed = h.2 }, h.3)
    unput puts.Memory t h = (record { own = h.1; failed = h.2 }, h.3, enough)
    unput (puts.Failed faults) t h = (h.1, enough, h.2)

    pub keep_unput : (why : PutFault) → DidBy (IsPutting k secret uuid nonce text) 1 a b (PutOutcome k uuid text now (Err why))
        → DidBy (ReadsOrWrites (λ call. ⊥) w) 1 a b (KeepOutcome k uuid entropy m now left (Err (put_cause why)))
    keep_unput why d = did_as _ _ 1 1 a b _ _ d putting (omega arith) (unput why)

-- ---- a measure that is got

module _ (k : Kept) (secret uuid : List ℕ) where
  pub getting : (call : Call) → IsGetCall k uuid call → IsGetting (Some k.disk) call
  getting call g = (k.first + g.part.sector, g.part.size, g.has.most, g.call_is)

  pub got_none : (a : Told) → size_of (find_part k.parts uuid) ≡ Some 0 → Did (IsGetCall k uuid) 1 a a (MeasureOutcome k secret uuid (Ok None))
  got_none a e = did_none _ 1 a _ (refl, (refl, e))

  pub got_unknown : (a : Told) → size_of (find_part k.parts uuid) ≡ None → Did (IsGetCall k uuid) 1 a a (MeasureOutcome k secret uuid (Err (Get gets.NoRecord)))
  got_unknown a e = did_none _ 1 a _ (record { own = refl; failed = refl }, e)

  module _ (a b : Told) (size : ℕ) (is : size_of (find_part k.parts uuid) ≡ Some size) (some : (size ≡ 0) → ⊥) where
    named : (why : GetFault) (t : Trace) → GetOutcome k secret uuid (Err why) t → MeasureFails k secret uuid (get_cause why) t
    named gets.NoRecord t (own, none, inl e) = absurd cc
    named gets.NoRecord t (own, none, inr e) = absurd (some cc)
    named (gets.Failed faults) t h = h
    named (gets.Short asked got) t h = h
    named (gets.Changed sector) t h = h
    named (gets.Tag tag) t h = h
    named gets.Memory t h = h

    pub got_failed : (why : GetFault) → Did (IsGetCall k uuid) 1 a b (GetOutcome k secret uuid (Err why)) → Did (IsGetCall k uuid) 1 a b (MeasureOutcome k secret uuid (Err (get_cause why)))
    got_failed why d = did_so _ _ 1 1 a b _ _ d (λ call g. g) (omega arith) (named why)

    module _ (text : List ℕ) (d : Did (IsGetCall k uuid) 1 a b (GetOutcome k secret uuid (Ok text))) where
      pub got_measure : (m : Measure) → IsMeasureText text m → Did (IsGetCall k uuid) 1 a b (MeasureOutcome k secret uuid (Ok (Some m)))
      got_measure m says = did_so _ _ 1 1 a b _ _ d (λ call g. g) (omega arith) (λ t h. (
        h.failed,
        record { part = h.part; has = h.has; bytes = h.bytes; own_is = h.own; text = text; opens = h.makes; says = says },
      ))

      pub got_other : ((m : Measure) → ¬ IsMeasureText text m) → Did (IsGetCall k uuid) 1 a b (MeasureOutcome k secret uuid (Err MeasureText))
      got_other none = did_so _ _ 1 1 a b _ _ d (λ call g. g) (omega arith) (λ t h. (text, h, none))

-- ---- no call was made where none was heard and none failed

made_none : (call : Call) (came : Option Said) (rest : Exchanges) (n : ℕ) → exchange_of call came ++ rest ≡ [] → one_failure came + n ≡ 0 → ⊥
made_none call None rest n e f = omega (arith, f)
made_none call (Some said) rest n e f = cc

none_made : (own : List Made) → heard_of own ≡ [] → failures_of own ≡ 0 → length own ≤ 0
none_made [] e f = omega arith
none_made (m ∷ own) e f = absurd (made_none m.call m.came (heard_of own) (failures_of own) e f)

pub is_empty : (k : Kept) (secret uuid : List ℕ) (measure : Option Measure) → measure ≡ None → (own : Exchanges) → Measured k secret uuid own measure → IsEmpty k uuid
is_empty k secret uuid None e own m = m.1
is_empty k secret uuid (Some g) e own m = absurd cc

-- for an empty record
nothing_got : (k : Kept) (secret uuid : List ℕ) (measure : Option Measure) (a b : Told) → Did (IsGetCall k uuid) 1 a b (MeasureOutcome k secret uuid (Ok measure)) → measure ≡ None
    → Did (IsGetCall k uuid) 0 a b (MeasureOutcome k secret uuid (Ok measure))
nothing_got k secret uuid (Some m) a b d e = absurd cc
nothing_got k secret uuid None a b d e = record { own = d.own; talked = d.talked; calls = d.calls; few = none_made d.own d.outcome.1.0 d.outcome.0; stops = d.stops; outcome = d.outcome }

-- ---- seen from before

module _ (a b c : Told) (y : Exchanges) (failed : ℕ) (le : a.faults ≤ b.faults) where
  pub device_later : (o : Opening) (why : BootCause) → DeviceFails o why (trace_of y failed b c) → DeviceFails o why (trace_of y failed a c)
  device_later o (Apk (apks.Failed faults)) h = open_later o a b c y failed le (apks.Failed faults) h
  device_later o (Apk (apks.Short asked got)) h = open_later o a b c y failed le (apks.Short asked got) h
  device_later o (Apk (apks.Idsig fault)) h = open_later o a b c y failed le (apks.Idsig fault) h
  device_later o (Apk apks.SaltMismatch) h = open_later o a b c y failed le apks.SaltMismatch h
  device_later o (Apk (apks.RootMismatch expected found)) h = open_later o a b c y failed le (apks.RootMismatch expected found) h
  device_later o (Apk (apks.TooFewBlocks blocks)) h = open_later o a b c y failed le (apks.TooFewBlocks blocks) h
  device_later o (Apk (apks.TooManyBlocks blocks)) h = open_later o a b c y failed le (apks.TooManyBlocks blocks) h
  device_later o (Apk (apks.SpanShort blocks sectors)) h = open_later o a b c y failed le (apks.SpanShort blocks sectors) h
  device_later o (Apk apks.Memory) h = h
  device_later o (Gpt f) h = h
  device_later o (NoPart name) h = h
  device_later o (File f) h = h
  device_later o (Image f) h = h
  device_later o (Get f) h = h
  device_later o (Put f) h = h
  device_later o (NoEntropy left) h = h
  device_later o MeasureText h = h
  device_later o (Failed faults) h = h
  device_later o (Short asked got) h = h
  device_later o Memory h = record { own = h.own; failed = h.failed }

  pub keep_later : (k : Kept) (uuid entropy : List ℕ) (m : Measure) (why : BootCause) → KeepFails k uuid entropy m why (trace_of y failed b c) → KeepFails k uuid entropy m why (trace_of y failed a c)
  keep_later k uuid entropy m (Put puts.NoRecord) h = h
  keep_later k uuid entropy m (Put (puts.TooLarge n room)) h = (record { own = h.0.own; failed = h.0.failed }, h.1)
  keep_later k uuid entropy m (Put puts.Memory) h = h
  keep_later k uuid entropy m (Put (puts.Failed faults)) h = (h.0, h.1, failed_later (IsPutCall k uuid (measure_text m)) a b c [] y failed faults le h.2)
  keep_later k uuid entropy m (NoEntropy left) h = (record { own = h.0.own; failed = h.0.failed }, h.1, h.2, h.3)
  keep_later k uuid entropy m Memory h = (record { own = h.0.own; failed = h.0.failed }, h.1, h.2)
  keep_later k uuid entropy m (Gpt f) h = h
  keep_later k uuid entropy m (NoPart name) h = h
  keep_later k uuid entropy m (Apk f) h = h
  keep_later k uuid entropy m (File f) h = h
  keep_later k uuid entropy m (Image f) h = h
  keep_later k uuid entropy m (Get f) h = h
  keep_later k uuid entropy m MeasureText h = h
  keep_later k uuid entropy m (Failed faults) h = h
  keep_later k uuid entropy m (Short asked got) h = h

  answered_later : (k : Kept) (secret uuid : List ℕ) (r : Result (List ℕ) GetFault) → IsAnswered k secret uuid (trace_of y failed b c) r → IsAnswered k secret uuid (trace_of y failed a c) r
  answered_later k secret uuid r h = record { failed = h.failed; part = h.part; has = h.has; bytes = h.bytes; own = h.own; makes = h.makes }

  get_later : (k : Kept) (secret uuid : List ℕ) (r : Result (List ℕ) GetFault) → GetOutcome k secret uuid r (trace_of y failed b c) → GetOutcome k secret uuid r (trace_of y failed a c)
  get_later k secret uuid (Ok said) h = answered_later k secret uuid (Ok said) h
  get_later k secret uuid (Err gets.NoRecord) h = h
  get_later k secret uuid (Err (gets.Failed faults)) h = (h.0, failed_later (IsGetCall k uuid) a b c [] y failed faults le h.1)
  get_later k secret uuid (Err (gets.Short asked got)) h = (answered_later k secret uuid (Err (gets.Short asked got)) h.0, short_later a b c [] y failed asked got h.1)
  get_later k secret uuid (Err (gets.Changed sector)) h = answered_later k secret uuid (Err (gets.Changed sector)) h
  get_later k secret uuid (Err (gets.Tag tag)) h = answered_later k secret uuid (Err (gets.Tag tag)) h
  get_later k secret uuid (Err gets.Memory) h = record { part = h.part; has = h.has; own = h.own; failed = h.failed }

  pub measure_later : (k : Kept) (secret uuid : List ℕ) (why : BootCause) → MeasureFails k secret uuid why (trace_of y failed b c) → MeasureFails k secret uuid why (trace_of y failed a c)
  measure_later k secret uuid (Get gets.NoRecord) h = (record { own = h.0.own; failed = h.0.failed }, h.1)
  measure_later k secret uuid (Get gets.Memory) h = h
  measure_later k secret uuid (Get (gets.Failed faults)) h = get_later k secret uuid (Err (gets.Failed faults)) h
  measure_later k secret uuid (Get (gets.Short asked got)) h = get_later k secret uuid (Err (gets.Short asked got)) h
  measure_later k secret uuid (Get (gets.Changed sector)) h = get_later k secret uuid (Err (gets.Changed sector)) h
  measure_later k secret uuid (Get (gets.Tag tag)) h = get_later k secret uuid (Err (gets.Tag tag)) h
  measure_later k secret uuid MeasureText h = (h.0, get_later k secret uuid (Ok h.0) h.1, h.2)
  measure_later k secret uuid Memory h = get_later k secret uuid (Err gets.Memory) h
  measure_later k secret uuid (Gpt f) h = h
  measure_later k secret uuid (NoPart name) h = h
  measure_later k secret uuid (Apk f) h = h
  measure_later k secret uuid (File f) h = h
  measure_later k secret uuid (Image f) h = h
  measure_later k secret uuid (Put f) h = h
  measure_later k secret uuid (NoEntropy left) h = h
  measure_later k secret uuid (Failed faults) h = h
  measure_later k secret uuid (Short asked got) h = h

-- ---- the three steps behind the parts: the record's measure, the device, and the record's write

module _ (disk : ℕ) (parts : Span × Span) (uuid secret : List ℕ) (k : Kept) (entropy : List ℕ) (items : List Device) where
  abbrev old : Recorded
  old = record { image = k; entropy = entropy; items = items }

  abbrev o : Option Measure → Opening
  o measure = opening disk parts.0 parts.1 measure

  abbrev IsFor : Call → Type 0
  IsFor call = IsForFound (Some k.disk) disk call

  unmade : (s : Booted) (why : BootCause) (now : Recorded) (t : Trace) → MeasureFails k secret uuid why t ⊎ OpeningFails disk parts k secret uuid why t
      → FoundOutcome (with_recorded s old secret) disk parts uuid (with_recorded (record s { writings = s.writings ++ [] }) now secret) (Err why) t
  unmade s why now t h = record { image = k; image_is = refl; secret = secret; secret_is = refl; fails = inl (append-nil s.writings, h) }

  pub ungot : (now : Recorded) (why : BootCause) (a b : Told) → Did (IsGetCall k uuid) 1 a b (MeasureOutcome k secret uuid (Err why))
      → DidWriting (IsForFound (Some k.disk) disk) 2 a b (MeasuredDone disk parts uuid secret old now (Err why))
  ungot now why a b d = record { writings = []; did = did_reading (IsGetCall k uuid) IsFor [] 1 2 a b _ _ d (λ call g. inl (getting k secret uuid call g)) (omega arith) (λ t h s. unmade s why now t (inl h)) }

  module _ (measure : Option Measure) (a b c : Told) (d : Did (IsGetCall k uuid) 1 a b (MeasureOutcome k secret uuid (Ok measure))) where
    for_device : (call : Call) → IsIdsigCall (o measure) call → IsFor call
    for_device call is = inr (parts.1, is.call_is)

    two : (n : ℕ) → Did (IsGetCall k uuid) n a b (MeasureOutcome k secret uuid (Ok measure)) → (w : List Writing) (P R : Trace → Type 0) → Did (IsIdsigCall (o measure)) 1 b c P
        → ((x y : Exchanges) (failed : ℕ) → a.faults ≤ b.faults → Measured k secret uuid x measure → P (trace_of y failed b c) → R (trace_of (x ++ y) failed a c))
        → DidBy (ReadsOrWrites IsFor w) (n + 1) a c R
    two n first w P R e f =
        did_by_then (ReadsOrWrites IsFor w) n 1 a b c (MeasureOutcome k secret uuid (Ok measure)) P R
        (did_reading (IsGetCall k uuid) IsFor w n n a b _ _ first (λ call g. inl (getting k secret uuid call g)) (omega arith) (λ t p. p))
        (did_reading (IsIdsigCall (o measure)) IsFor w 1 1 b c _ _ e for_device (omega arith) (λ t p. p)) (λ t p. p.0) (λ x y failed le p q. f x y failed le p.1 q)

    pub unopened : (now : Recorded) (why : BootCause) (new : List Device) → Did (IsIdsigCall (o measure)) 1 b c (DeviceOutcome disk parts measure items new (Err why))
        → DidWriting (IsForFound (Some k.disk) disk) 2 a c (MeasuredDone disk parts uuid secret old now (Err why))
    unopened now why new e = record {
      writings = [];
      did = did_as _ _ 2 2 a c _ _ (two 1 d [] _ (MeasuredDone disk parts uuid secret old now (Err why) []) e
          (λ x y failed le p q s. unmade s why now _ (inr (record { got = x; rest = y; cut = refl; measure = measure; measured = p; fails = device_later a b c y failed le (o measure) why q }))))
          (λ call given g. g) (omega arith) (λ t p. p);
    }

    module _ (new : List Device) (m : Measure) (e : Did (IsIdsigCall (o measure)) 1 b c (DeviceOutcome disk parts measure items new (Ok m))) where
      -- the record gave the measure
      pub opened_by : (kept : Measure) → measure ≡ Some kept → DidWriting (IsForFound (Some k.disk) disk) 2 a c (MeasuredDone disk parts uuid secret old (record { image = k; entropy = entropy; items = new }) (Ok tt))
      opened_by kept is = record {
        writings = [];
        did = did_as _ _ 2 2 a c _ _ (two 1 d [] _ (MeasuredDone disk parts uuid secret old (record { image = k; entropy = entropy; items = new }) (Ok tt) []) e
            (λ x y failed le p q s. (
              q.0,
              record {
                image = k;
                image_is = refl;
                secret = secret;
                secret_is = refl;
                got = x;
                measure = measure;
                measured = p;
                opened = y;
                items = new;
                boots = q.1;
                put = [];
                kept = unput_so s q.1.device.measure measure is;
                cut = ap (λ (z : Exchanges). x ++ z) (sym (append-nil y));
              },
            )))
            (λ call given g. g) (omega arith) (λ t p. p);
      } where
        unput_so : (s : Booted) (n : Measure) (g : Option Measure) → g ≡ Some kept
            → MeasureIsIn (record (with_recorded s old secret) { items = new }) k secret uuid g n [] (with_recorded (record s { writings = s.writings ++ [] }) (record { image = k; entropy = entropy; items = new }) secret)
        unput_so s n None e = absurd cc
        unput_so s n (Some g) e = (refl, ap (λ (w : List Writing). with_recorded (record s { writings = w }) (record { image = k; entropy = entropy; items = new }) secret) (append-nil s.writings))

      -- the record is empty, and the device's measure was to be put
      module _ (empty : measure ≡ None) (now : Kept) (left : List ℕ) (z : Told) where
        abbrev finish : Recorded
        finish = record { image = now; entropy = left; items = new }

        abbrev Ends : Booted → Result (Unit {0}) BootCause → Exchanges → Exchanges → Exchanges → ℕ → Measure → Type 0
        Ends s result x y r failed n = KeepOutcome k uuid entropy n now left result (trace_of r failed c z)
            → FoundOutcome (with_recorded s old secret) disk parts uuid (with_recorded (record s { writings = s.writings ++ measure_writings k secret uuid entropy n }) finish secret) result (trace_of ((x ++ y) ++ r) failed a z)

        ended : (s : Booted) (result : Result (Unit {0}) BootCause) (x y r : Exchanges) (failed : ℕ) (g : Option Measure) → g ≡ None → a.faults ≤ c.faults → Measured k secret uuid x g → (dev : DeviceBoots disk parts g items y new)
            → Ends s result x y r failed dev.device.measure
        ended s result x y r failed (Some g) e le p dev h = absurd cc
        ended s (Ok u) x y r failed None e le p dev h = (
          h.0,
          record {
            image = k;
            image_is = refl;
            secret = secret;
            secret_is = refl;
            got = x;
            measure = None;
            measured = p;
            opened = y;
            items = new;
            boots = dev;
            put = r;
            kept = record {
              now = now;
              left = left;
              keeps = h.1;
              new_is = ap (λ (v : List Writing). with_recorded (record s { writings = s.writings ++ v }) finish secret) (one_writing k secret uuid entropy dev.device.measure h.1.1.part h.1.1.fits h.1.0);
            };
            cut = append_assoc x y r;
          },
        )
        ended s (Err why) x y r failed None e le p dev h = record {
          image = k;
          image_is = refl;
          secret = secret;
          secret_is = refl;
          fails = inr (record {
            empty = p.1;
            opened = y;
            rest = r;
            cut = ap (λ (v : Exchanges). (v ++ y) ++ r) p.0;
            items = new;
            boots = dev;
            fails = keep_later a c z r failed le k uuid entropy dev.device.measure why h;
            written = refl;
          });
        }

        -- what came before the write
        record Before (t : Trace) : Type 0 where
          failed : t.failed ≡ 0
          got : Exchanges
          opened : Exchanges
          cut : t.own ≡ got ++ opened
          measured : Measured k secret uuid got measure
          dev : DeviceBoots disk parts measure items opened new
          same : dev.device.measure ≡ m

        no_call : (call : Call) (given : List ℕ) → ReadsOrWrites (λ call. ⊥) (measure_writings k secret uuid entropy m) call given → ReadsOrWrites IsFor (measure_writings k secret uuid entropy m) call given
        no_call call given (inl r) = absurd r.0
        no_call call given (inr i) = inr i

        finished : (s : Booted) (result : Result (Unit {0}) BootCause) (x r : Exchanges) (failed : ℕ) → a.faults ≤ c.faults → Before (trace_of x 0 a c) → KeepOutcome k uuid entropy m now left result (trace_of r failed c z)
            → FoundOutcome (with_recorded s old secret) disk parts uuid (with_recorded (record s { writings = s.writings ++ measure_writings k secret uuid entropy m }) finish secret) result (trace_of (x ++ r) failed a z)
        finished s result x r failed le b h =
            subst (λ (v : Exchanges). FoundOutcome (with_recorded s old secret) disk parts uuid (with_recorded (record s { writings = s.writings ++ measure_writings k secret uuid entropy m }) finish secret) result (trace_of (v ++ r) failed a z)) (sym b.cut)
            (subst (Ends s result b.got b.opened r failed) b.same (ended s result b.got b.opened r failed measure empty le b.measured b.dev) h)

        pub opened_first : (result : Result (Unit {0}) BootCause) → DidBy (ReadsOrWrites (λ call. ⊥) (measure_writings k secret uuid entropy m)) 1 c z (KeepOutcome k uuid entropy m now left result)
            → DidWriting (IsForFound (Some k.disk) disk) 2 a z (MeasuredDone disk parts uuid secret old finish result)
        opened_first result f = record {
          writings = measure_writings k secret uuid entropy m;
          did = did_by_then (ReadsOrWrites IsFor (measure_writings k secret uuid entropy m)) 1 1 a c z Before (KeepOutcome k uuid entropy m now left result)
              (MeasuredDone disk parts uuid secret old finish result (measure_writings k secret uuid entropy m))
              (two 0 (nothing_got k secret uuid measure a b d empty) (measure_writings k secret uuid entropy m) _ Before e (λ x y failed le p q. record { failed = q.0; got = x; opened = y; cut = refl; measured = p; dev = q.1; same = q.2 }))
              (did_as _ _ 1 1 c z _ _ f no_call (omega arith) (λ t p. p))
              (λ t p. p.failed) (λ x r failed le p q s. finished s result x r failed le p q);
        }

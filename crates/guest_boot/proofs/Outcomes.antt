-- What one line did, whatever the secret and the writes before it.
use Rattle.std.proofs.Common.{◌≡◌, ℕ, ◌≤◌, List, [], ◌++◌, Option, Some, Result, Ok, Err, refl, ap, sym, subst, inl, inr, arith, append-nil}
use Rattle.host_traits.specs.Told.{Told, Exchanges}
use Rattle.host_traits.specs.Did.{Did, Trace, trace_of}
use Rattle.host_traits.specs.declared.calls.Call.{Call}
use Rattle.host_traits.proofs.Doing.{did_none, did_by_then}
use Rattle.mg_base.specs.declared.values.Span.{Span}
use Rattle.verity_path.specs.declared.device.Device.{Device}
use Rattle.instance_image.specs.Records.{Kept}
use Rattle.apk_verity.specs.declared.ApkFault.{ApkFault}
use Rattle.apk_verity.specs.declared.ApkFault.TheVariants as apks
use Rattle.sha_tree.specs.declared.measure.Measure.{Measure}
use Rattle.mg_base.specs.declared.values.Digest.{Digest}
use Rattle.mg_base.specs.declared.values.Guid.{Guid}
use Rattle.ro_file.specs.Opening.{IsDescriptorCall}
use Rattle.guest_plan.specs.declared.plan.How.{How}
use Rattle.guest_plan.specs.declared.plan.How.TheVariants as measures
use Rattle.guest_plan.specs.declared.plan.PlanLine.{PlanLine}
use Rattle.guest_plan.specs.declared.plan.PlanLine.TheVariants as line
use Rattle.guest_boot.specs.declared.faults.BootCause.{BootCause}
use Rattle.guest_boot.specs.declared.faults.BootCause.TheVariants.{Gpt, NoPart, Apk, File, Image, Get, Put, NoEntropy, MeasureText, Failed, Short, Memory}
use Rattle.guest_boot.specs.declared.lines.Boot.{Boot}
use Rattle.guest_boot.specs.Finding.{TableOn, IsTableCall, FindOutcome, Finds, both_parts}
use Rattle.guest_boot.specs.Recording.{Writing, ReadsOrWrites, DidWriting}
use Rattle.guest_boot.specs.Booting.{Booted, state_of, plain_of, ApkBoots, ApkFails, ApkIsRefused, ApkOutcome, FileOutcome, WriteOutcome, disk_of, IsResize, BlobOutcome, with_recorded, FoundOutcome, MeasuredDone, FoundDone, RecordedOutcome, RecordedDone, IsForApk, IsForFound, IsForRecorded, IsForLine, most_in_place, LineOutcome, LineDone}
use Rattle.guest_boot.proofs.Recording.{did_as, did_reading}
use Rattle.guest_boot.proofs.Runs.{found_later}

-- the same state, with this secret and these writes
abbrev with_means : Booted → Option (List ℕ) → List Writing → Booted
with_means s secret w = record s { secret = secret; writings = w }

module _ (s : Booted) (disk : ℕ) (apk idsig : List ℕ) (how : How) (secret : Option (List ℕ)) (w : List Writing) where
  boots_moved : (own : Exchanges) (new : Booted) → ApkBoots s disk apk idsig how own new → ApkBoots (with_means s secret w) disk apk idsig how own (with_means new secret w)
  boots_moved own new b = record {
    first = b.first;
    tables = b.tables;
    parts = b.parts;
    found = b.found;
    bytes = b.bytes;
    cut = b.cut;
    device = b.device;
    is = b.is;
    new_is = ap (λ (z : Booted). with_means z secret w) b.new_is;
  }

  refused_moved : (f : ApkFault) (t : Trace) → ApkIsRefused s disk apk idsig how f t → ApkIsRefused (with_means s secret w) disk apk idsig how f t
  refused_moved f t h = record { first = h.first; rest = h.rest; cut = h.cut; tables = h.tables; parts = h.parts; found = h.found; outcome = h.outcome }

  fails_moved : (why : BootCause) (t : Trace) → ApkFails s disk apk idsig how why t → ApkFails (with_means s secret w) disk apk idsig how why t
  fails_moved (Apk (apks.Failed faults)) t h = refused_moved _ t h
  fails_moved (Apk (apks.Short asked got)) t h = refused_moved _ t h
  fails_moved (Apk (apks.Idsig fault)) t h = refused_moved _ t h
  fails_moved (Apk apks.SaltMismatch) t h = refused_moved _ t h
  fails_moved (Apk (apks.RootMismatch expected found)) t h = refused_moved _ t h
  fails_moved (Apk (apks.TooFewBlocks blocks)) t h = refused_moved _ t h
  fails_moved (Apk (apks.TooManyBlocks blocks)) t h = refused_moved _ t h
  fails_moved (Apk (apks.SpanShort blocks sectors)) t h = refused_moved _ t h
  fails_moved (Apk apks.Memory) t h = h
  fails_moved Memory t h = h
  fails_moved (Gpt f) t h = h
  fails_moved (NoPart name) t h = h
  fails_moved (File f) t h = h
  fails_moved (Image f) t h = h
  fails_moved (Get f) t h = h
  fails_moved (Put f) t h = h
  fails_moved (NoEntropy left) t h = h
  fails_moved MeasureText t h = h
  fails_moved (Failed faults) t h = h
  fails_moved (Short asked got) t h = h

-- the same state, where nothing was written
same_state : (b : Boot) (secret : Option (List ℕ)) (earlier : List Writing) → state_of b secret earlier ≡ state_of b secret (earlier ++ [])
same_state b secret earlier = ap (λ (w : List Writing). state_of b secret w) (sym (append-nil earlier))

-- ---- the lines

module _ (secret : Option (List ℕ)) (s new : Boot) (a b : Told) where
  -- work of a line that writes nothing
  reads_line : (F : _) (m : ℕ) (l : PlanLine) (P : Trace → Type 0) (r : Result (Unit {0}) BootCause) → Did F m a b P → ((call : _) → F call → IsForLine (disk_of s.image) l call) → m ≡ most_in_place l
      → ((t : Trace) (earlier : List Writing) → P t → LineOutcome (state_of s secret earlier) l (state_of new secret earlier) r t) → DidWriting (IsForLine (disk_of s.image) l) (most_in_place l) a b (LineDone secret s l new r)
  reads_line F m l P r d f le q = record {
    writings = [];
    did = did_reading F (IsForLine (disk_of s.image) l) [] m (most_in_place l) a b P (LineDone secret s l new r []) d f (omega (arith, le))
        (λ t p earlier. subst (λ (z : Booted). LineOutcome (state_of s secret earlier) l z r t) (same_state new secret earlier) (q t earlier p));
  }

  apk_line : (disk : ℕ) (apk idsig : List ℕ) (how : How) (r : Result (Unit {0}) BootCause) (t : Trace) (earlier : List Writing) → ApkOutcome (plain_of s) disk apk idsig how (plain_of new) r t
      → ApkOutcome (state_of s secret earlier) disk apk idsig how (state_of new secret earlier) r t
  apk_line disk apk idsig how (Ok u) t earlier h = (h.0, boots_moved (plain_of s) disk apk idsig how secret earlier t.own (plain_of new) h.1)
  apk_line disk apk idsig how (Err why) t earlier h = fails_moved (plain_of s) disk apk idsig how secret earlier why t h

  fixed_line : (disk : ℕ) (apk idsig : List ℕ) (m : Measure) (r : Result (Unit {0}) BootCause) (t : Trace) (earlier : List Writing) → ApkOutcome (state_of s secret earlier) disk apk idsig (measures.Fixed m) (state_of new secret earlier) r t
      → LineOutcome (state_of s secret earlier) (line.Apk disk apk idsig (measures.Fixed m)) (state_of new secret earlier) r t
  fixed_line disk apk idsig m (Ok u) t earlier h = h
  fixed_line disk apk idsig m (Err why) t earlier h = (refl, h)

  first_line : (disk : ℕ) (apk idsig : List ℕ) (r : Result (Unit {0}) BootCause) (t : Trace) (earlier : List Writing) → ApkOutcome (state_of s secret earlier) disk apk idsig measures.First (state_of new secret earlier) r t
      → LineOutcome (state_of s secret earlier) (line.Apk disk apk idsig measures.First) (state_of new secret earlier) r t
  first_line disk apk idsig (Ok u) t earlier h = h
  first_line disk apk idsig (Err why) t earlier h = (refl, h)

  pub did_apk : (disk : ℕ) (apk idsig : List ℕ) (how : How) (r : Result (Unit {0}) BootCause) → ((uuid : Guid) → how ≡ measures.Kept uuid → ⊥) → Did (IsForApk disk) 4 a b (ApkOutcome (plain_of s) disk apk idsig how (plain_of new) r)
      → DidWriting (IsForLine (disk_of s.image) (line.Apk disk apk idsig how)) (most_in_place (line.Apk disk apk idsig how)) a b (LineDone secret s (line.Apk disk apk idsig how) new r)
  did_apk disk apk idsig (measures.Fixed m) r other d = reads_line (IsForApk disk) 4 (line.Apk disk apk idsig (measures.Fixed m)) (ApkOutcome (plain_of s) disk apk idsig (measures.Fixed m) (plain_of new) r) r d (λ call x. x) refl (λ t earlier h. fixed_line disk apk idsig m r t earlier (apk_line disk apk idsig (measures.Fixed m) r t earlier h))
  did_apk disk apk idsig measures.First r other d = reads_line (IsForApk disk) 4 (line.Apk disk apk idsig measures.First) (ApkOutcome (plain_of s) disk apk idsig measures.First (plain_of new) r) r d (λ call x. x) refl (λ t earlier h. first_line disk apk idsig r t earlier (apk_line disk apk idsig measures.First r t earlier h))
  did_apk disk apk idsig (measures.Kept uuid) r other d = absurd (other uuid refl)

  recorded_line : (disk : ℕ) (apk idsig : List ℕ) (uuid : Guid) (r : Result (Unit {0}) BootCause) (w : List Writing) (t : Trace) → RecordedDone secret s disk apk idsig uuid.0 new r w t → LineDone secret s (line.Apk disk apk idsig (measures.Kept uuid)) new r w t
  recorded_line disk apk idsig uuid (Ok u) w t h = h
  recorded_line disk apk idsig uuid (Err why) w t h = h

  pub did_recorded : (disk : ℕ) (apk idsig : List ℕ) (uuid : Guid) (r : Result (Unit {0}) BootCause) → DidWriting (IsForRecorded (disk_of s.image) disk) 5 a b (RecordedDone secret s disk apk idsig uuid.0 new r)
      → DidWriting (IsForLine (disk_of s.image) (line.Apk disk apk idsig (measures.Kept uuid))) 5 a b (LineDone secret s (line.Apk disk apk idsig (measures.Kept uuid)) new r)
  did_recorded disk apk idsig uuid r d = record { writings = d.writings; did = did_as _ _ 5 5 a b _ _ d.did (λ call given x. x) (omega arith) (recorded_line disk apk idsig uuid r d.writings) }

  file_line : (name : List ℕ) (file : ℕ) (digest : Digest) (r : Result (Unit {0}) BootCause) (t : Trace) (earlier : List Writing) → FileOutcome (plain_of s) file digest (plain_of new) r t
      → LineOutcome (state_of s secret earlier) (line.File name file digest) (state_of new secret earlier) r t
  file_line name file digest (Ok u) t earlier h = (
    h.0,
    record { bytes = h.1.bytes; own_is = h.1.own_is; opened = h.1.opened; is = h.1.is; describes = h.1.describes; new_is = ap (λ (z : Booted). with_means z secret earlier) h.1.new_is },
  )
  file_line name file digest (Err why) t earlier h = (refl, h)

  pub did_file : (name : List ℕ) (file : ℕ) (digest : Digest) (r : Result (Unit {0}) BootCause) → Did (IsDescriptorCall file) 1 a b (FileOutcome (plain_of s) file digest (plain_of new) r)
      → DidWriting (IsForLine (disk_of s.image) (line.File name file digest)) 1 a b (LineDone secret s (line.File name file digest) new r)
  did_file name file digest r d = reads_line (IsDescriptorCall file) 1 (line.File name file digest) (FileOutcome (plain_of s) file digest (plain_of new) r) r d (λ call x. x) refl (file_line name file digest r)

  write_line : (name : List ℕ) (file : ℕ) (r : Result (Unit {0}) BootCause) (t : Trace) (earlier : List Writing) → WriteOutcome file r t
      → LineOutcome (state_of s secret earlier) (line.Write name file) (state_of s secret earlier) r t
  write_line name file (Ok u) t earlier h = (h.0, (h.1, refl))
  write_line name file (Err why) t earlier h = (refl, h)

module _ (secret : Option (List ℕ)) (s : Boot) (a b : Told) where
  pub did_write : (name : List ℕ) (file : ℕ) (r : Result (Unit {0}) BootCause) → Did (IsResize file) 1 a b (WriteOutcome file r)
      → DidWriting (IsForLine (disk_of s.image) (line.Write name file)) 1 a b (LineDone secret s (line.Write name file) s r)
  did_write name file r d = reads_line secret s s a b (IsResize file) 1 (line.Write name file) (WriteOutcome file r) r d (λ call x. x) refl (write_line secret s s a b name file r)

module _ (secret : Option (List ℕ)) (s new : Boot) (a : Told) where
  pub did_instance : (disk : ℕ) (part : List ℕ) → DidWriting (IsForLine (disk_of s.image) (line.Instance disk part)) 0 a a (LineDone secret s (line.Instance disk part) s (Ok tt))
  did_instance disk part = reads_line secret s s a a _ 0 (line.Instance disk part) _ (Ok tt) (did_none (λ call. ⊥) 0 a (λ t. (t.failed ≡ 0) × (t.own ≡ [])) (refl, refl)) (λ call x. absurd x) refl (λ t earlier h. (h.0, (h.1, refl)))

  pub did_writedir : (name : List ℕ) (file : ℕ) → DidWriting (IsForLine (disk_of s.image) (line.WriteDir name file)) 0 a a (LineDone secret s (line.WriteDir name file) s (Ok tt))
  did_writedir name file = reads_line secret s s a a _ 0 (line.WriteDir name file) _ (Ok tt) (did_none (λ call. ⊥) 0 a (λ t. (t.failed ≡ 0) × (t.own ≡ [])) (refl, refl)) (λ call x. absurd x) refl (λ t earlier h. (h.0, (h.1, refl)))

  blob_line : (file : ℕ) (m : Measure) (r : Result (Unit {0}) BootCause) (t : Trace) (earlier : List Writing) → BlobOutcome (plain_of s) file m (plain_of new) r → t.failed ≡ 0 → t.own ≡ []
      → LineOutcome (state_of s secret earlier) (line.Blob file m) (state_of new secret earlier) r t
  blob_line file m (Ok u) t earlier e none own = (none, (own, ap (λ (z : Booted). with_means z secret earlier) e))
  blob_line file m (Err why) t earlier e none own = (refl, none, e)

  pub did_blob : (file : ℕ) (m : Measure) (r : Result (Unit {0}) BootCause) → BlobOutcome (plain_of s) file m (plain_of new) r
      → DidWriting (IsForLine (disk_of s.image) (line.Blob file m)) 0 a a (LineDone secret s (line.Blob file m) new r)
  did_blob file m r e = reads_line secret s new a a _ 0 (line.Blob file m) _ r (did_none (λ call. ⊥) 0 a (λ t. (t.failed ≡ 0) × (t.own ≡ [])) (refl, refl)) (λ call x. absurd x) refl (λ t earlier h. blob_line file m r t earlier e h.0 h.1)

pub did_line : (secret : Option (List ℕ)) (s new : Boot) (a b : Told) (r : Result (Unit {0}) BootCause) (l k : PlanLine) → l ≡ k → DidWriting (IsForLine (disk_of s.image) k) (most_in_place k) a b (LineDone secret s k new r)
    → DidWriting (IsForLine (disk_of s.image) l) (most_in_place l) a b (LineDone secret s l new r)
did_line secret s new a b r l k is d = subst (λ (z : PlanLine). DidWriting (IsForLine (disk_of s.image) z) (most_in_place z) a b (LineDone secret s z new r)) (sym is) d

-- ---- a device whose measure is in a record

module _ (secret : Option (List ℕ)) (s : Boot) (disk : ℕ) (apk idsig uuid : List ℕ) (a b : Told) where
  pub not_found : (new : Boot) (tables : List TableOn) (why : BootCause) → Did (IsTableCall disk) 3 a b (FindOutcome s.tables.items disk (both_parts apk idsig) tables (Err why))
      → DidWriting (IsForRecorded (disk_of s.image) disk) 5 a b (RecordedDone secret s disk apk idsig uuid new (Err why))
  not_found new tables why d = record { writings = []; did = did_reading (IsTableCall disk) (IsForRecorded (disk_of s.image) disk) [] 3 5 a b _ _ d (λ call x. inl x) (omega arith) (λ t h earlier. inl (append-nil earlier, h)) }

  module _ (c : Told) (parts : Span × Span) (mid new : Boot) (same : (earlier : List Writing) → state_of mid secret earlier ≡ record (state_of s secret earlier) { tables = mid.tables.items })
      (r : Result (Unit {0}) BootCause) (d : Did (IsTableCall disk) 3 a b (FindOutcome s.tables.items disk (both_parts apk idsig) mid.tables.items (Ok parts)))
      (e : DidWriting (IsForFound (disk_of s.image) disk) 2 b c (FoundDone secret mid disk parts uuid new r)) where
    behind : (result : Result (Unit {0}) BootCause) (old after : Booted) (x y : Exchanges) (failed : ℕ) → a.faults ≤ b.faults → Finds old.tables disk (both_parts apk idsig) x mid.tables.items parts
        → FoundOutcome (record old { tables = mid.tables.items }) disk parts uuid after result (trace_of y failed b c) → RecordedOutcome old disk apk idsig uuid after result (trace_of (x ++ y) failed a c)
    behind (Ok u) old after x y failed le p q = (q.0, record { first = x; tables = mid.tables.items; parts = parts; found = p; rest = y; cut = refl; behind = q.1 })
    behind (Err why) old after x y failed le p q = inr (record {
      first = x;
      rest = y;
      cut = refl;
      tables = mid.tables.items;
      parts = parts;
      found = p;
      fails = found_later a b c y failed le (record old { tables = mid.tables.items }) disk parts uuid why after.writings q;
    })

    pub found_then : DidWriting (IsForRecorded (disk_of s.image) disk) 5 a c (RecordedDone secret s disk apk idsig uuid new r)
    found_then = record {
      writings = e.writings;
      did = did_by_then (ReadsOrWrites (IsForRecorded (disk_of s.image) disk) e.writings) 3 2 a b c _ _ (RecordedDone secret s disk apk idsig uuid new r e.writings)
          (did_reading (IsTableCall disk) (IsForRecorded (disk_of s.image) disk) e.writings 3 3 a b _ _ d (λ call x. inl x) (omega arith) (λ t p. p))
          (did_as _ _ 2 2 b c _ _ e.did wider (omega arith) (λ t p. p))
          (λ t p. p.0)
          (λ x y failed le p q earlier. behind r (state_of s secret earlier) (state_of new secret (earlier ++ e.writings)) x y failed le p.1
          (subst (λ (z : Booted). FoundOutcome z disk parts uuid (state_of new secret (earlier ++ e.writings)) r (trace_of y failed b c)) (same earlier) (q earlier)));
    } where
      wider : (call : Call) (given : List ℕ) → ReadsOrWrites (IsForFound (disk_of s.image) disk) e.writings call given → ReadsOrWrites (IsForRecorded (disk_of s.image) disk) e.writings call given
      wider call given (inl x) = inl (inr x.0, x.1)
      wider call given (inr x) = inr x

module _ (disk : ℕ) (parts : Span × Span) (uuid : List ℕ) (secret : Option (List ℕ)) (s : Boot) where
  pub with_records : (bytes : List ℕ) (image now : Kept) (entropy left : List ℕ) (items added : List Device) (new : Boot) (r : Result (Unit {0}) BootCause) (a b : Told) → secret ≡ Some bytes → s.image ≡ Some image
      → ((i : Option Kept) (k : Option (List ℕ)) (w : List Writing) → record (state_of s secret w) { image = i; secret = k } ≡ record (state_of s secret w) { image = i; secret = k; entropy = entropy; items = items })
      → ((k : Option (List ℕ)) (w : List Writing) → record (state_of new secret w) { secret = k } ≡ record (state_of s secret w) { image = Some now; secret = k; entropy = left; items = added })
      → DidWriting (IsForFound (Some image.disk) disk) 2 a b (MeasuredDone disk parts uuid bytes (record { image = image; entropy = entropy; items = items }) (record { image = now; entropy = left; items = added }) r)
      → DidWriting (IsForFound (disk_of s.image) disk) 2 a b (FoundDone secret s disk parts uuid new r)
  with_records bytes image now entropy left items added new r a b secret_is image_is before after d = record {
    writings = d.writings;
    did = did_as _ _ 2 2 a b _ _ d.did (λ call given x. subst (λ (z : Option ℕ). ReadsOrWrites (IsForFound z disk) d.writings call given) (sym (ap disk_of image_is)) x) (omega arith) (λ t h earlier.
        let old : Option Kept → Option (List ℕ) → Booted = λ i k. record (state_of s secret earlier) { image = i; secret = k } in
        let end : Option (List ℕ) → Booted = λ k. record (state_of new secret (earlier ++ d.writings)) { secret = k } in
        subst (λ (k : Option (List ℕ)). FoundOutcome (old s.image k) disk parts uuid (end k) r t) (sym secret_is)
        (subst (λ (i : Option Kept). FoundOutcome (old i (Some bytes)) disk parts uuid (end (Some bytes)) r t) (sym image_is)
        (subst (λ (z : Booted). FoundOutcome z disk parts uuid (end (Some bytes)) r t) (sym (before (Some image) (Some bytes) earlier))
        (subst (λ (z : Booted). FoundOutcome (with_recorded (state_of s secret earlier) (record { image = image; entropy = entropy; items = items }) bytes) disk parts uuid z r t) (sym (after (Some bytes) (earlier ++ d.writings)))
        (h (state_of s secret earlier))))));
  }

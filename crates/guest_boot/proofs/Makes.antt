-- What the lines make.
use Rattle.std.proofs.Common.{◌≡◌, ℕ, ◌*◌, ◌≤◌, ◌∙◌, zero, suc, List, [], ◌∷◌, ◌++◌, Option, Some, None, Bor, Result, Ok, Err, refl, ap, sym, subst, inl, inr, arith, append-nil}
use Rattle.std.specs.Prelude.{MatchOption, option_copied}
use Rattle.mg_base.specs.declared.values.Span.{Span}
use Rattle.host_traits.specs.declared.calls.Call.{Call}
use Rattle.host_traits.specs.Told.{Told, Exchanges}
use Rattle.host_traits.specs.Did.{Did, Trace, trace_of}
use Rattle.host_traits.proofs.Doing.{did_none, did_so, did_then, failed_later, short_later, scarce_later}
use Rattle.apk_verity.specs.declared.ApkFault.{ApkFault}
use Rattle.apk_verity.specs.declared.ApkFault.TheVariants as apks
use Rattle.apk_verity.specs.Opening.{Opening, opening, IsIdsigCall, IsOpened, OpenOutcome}
use Rattle.guest_plan.specs.declared.plan.How.{How}
use Rattle.mg_base.specs.declared.values.Digest.{Digest}
use Rattle.ro_file.specs.declared.files.RoFault.{RoFault}
use Rattle.ro_file.specs.declared.files.RoFault.TheVariants as files
use Rattle.ro_file.specs.Opening.{IsDescriptorCall, OpenFileOutcome}
use Rattle.guest_boot.specs.declared.faults.BootCause.{BootCause}
use Rattle.guest_boot.specs.declared.faults.BootCause.TheVariants.{Gpt, NoPart, Apk, File, Image, Get, Put, NoEntropy, MeasureText, Failed, Short, Memory}
use Rattle.guest_boot.specs.Finding.{TableOn, IsTableCall, table_on, HasSoFar, both_parts, Finds, FindFails, FindOutcome}
use Rattle.guest_boot.proofs.Finds.{so_far}
use Rattle.sha_tree.specs.declared.measure.Measure.{Measure}
use Rattle.sha_tree.specs.Tree.{block_count}
use Rattle.guest_plan.specs.Spelling.{IsDevice}
use Rattle.verity_path.specs.declared.device.Device.{Device}
use Rattle.guest_boot.specs.Booting.{IsItem, AreItems, device_on, Booted, measure_in, IsForApk, ApkBoots, ApkFails, ApkIsRefused, apk_cause, FileFails, file_cause, FileOutcome, ApkOutcome, DeviceBoots, DeviceFails, DeviceOutcome}

fits : (m : ℕ) → block_count (4096 * m) ≡ m
fits m = omega arith

pub device_is_item : (file : ℕ) (m : Measure) → IsDevice m → IsItem (device_on file m)
device_is_item file m d = record { least = d.low; most = omega (arith, d.high); suits = fits m.blocks }

pub items_push : (items : List Device) (d : Device) → AreItems items → IsItem d → AreItems (items ++ d ∷ [])
items_push [] d all one zero it at = let same : d ≡ it = cc in subst IsItem same one
items_push [] d all one (suc k) it at = absurd cc
items_push (x ∷ items) d all one zero it at = all 0 it at
items_push (x ∷ items) d all one (suc k) it at = items_push items d (λ j y e. all (suc j) y e) one k it at

-- ---- an APK device

-- a measure that is lent is the one that is there
pub copied_is : (r : Option (Bor Measure)) (x : Option Measure) → MatchOption r (x ≡ None) (λ m. x ≡ Some m.now) → option_copied r ≡ x
copied_is None x is = sym is
copied_is (Some m) x is = sym is

module _ (o : Opening) (a b c : Told) (y : Exchanges) (failed : ℕ) (le : a.faults ≤ b.faults) where
  opened_later : (r : Result Device ApkFault) → IsOpened o r (trace_of y failed b c) → IsOpened o r (trace_of y failed a c)
  opened_later r i = record { failed = i.failed; bytes = i.bytes; own = i.own; few = i.few; is = i.is }

  pub open_later : (f : ApkFault) → OpenOutcome o (Err f) (trace_of y failed b c) → OpenOutcome o (Err f) (trace_of y failed a c)
  open_later (apks.Failed faults) q = (q.0, failed_later (IsIdsigCall o) a b c [] y failed faults le q.1)
  open_later (apks.Short asked got) q = (opened_later _ q.0, short_later a b c [] y failed asked got q.1)
  open_later (apks.Idsig fault) q = opened_later _ q
  open_later apks.SaltMismatch q = opened_later _ q
  open_later (apks.RootMismatch expected found) q = opened_later _ q
  open_later (apks.TooFewBlocks blocks) q = opened_later _ q
  open_later (apks.TooManyBlocks blocks) q = opened_later _ q
  open_later (apks.SpanShort blocks sectors) q = opened_later _ q
  open_later apks.Memory q = (q.0, scarce_later a b c [] y failed q.1)

module _ (s : Booted) (disk : ℕ) (apk idsig : List ℕ) (how : How) where
  no_parts : (why : BootCause) (t : Trace) → FindFails s.tables disk (both_parts apk idsig) why t → ApkFails s disk apk idsig how why t
  no_parts (Gpt f) t h = h
  no_parts (NoPart name) t h = h
  no_parts (Apk f) t h = absurd h.1
  no_parts (File f) t h = h
  no_parts (Image f) t h = h
  no_parts (Get f) t h = h
  no_parts (Put f) t h = h
  no_parts (NoEntropy left) t h = h
  no_parts MeasureText t h = h
  no_parts (Failed faults) t h = h
  no_parts (Short asked got) t h = h
  no_parts Memory t h = h

  pub apk_no_parts : (a b : Told) (why : BootCause) (tables : List TableOn) (new : Booted) → Did (IsTableCall disk) 3 a b (FindOutcome s.tables disk (both_parts apk idsig) tables (Err why))
      → Did (IsForApk disk) 4 a b (ApkOutcome s disk apk idsig how new (Err why))
  apk_no_parts a b why tables new d = did_so _ _ 3 4 a b _ _ d (λ call is. inl is) (omega arith) (no_parts why)

  module _ (a b c : Told) (tables : List TableOn) (parts : Span × Span) (d : Did (IsTableCall disk) 3 a b (FindOutcome s.tables disk (both_parts apk idsig) tables (Ok parts))) where
    abbrev device_opening : Opening
    device_opening = opening disk parts.0 parts.1 (measure_in how)

    for_idsig : (call : Call) → IsIdsigCall device_opening call → IsForApk disk call
    for_idsig call is = inr (parts.1, is.call_is)

    both : (P R : Trace → Type 0) → Did (IsIdsigCall device_opening) 1 b c P
        → ((x y : Exchanges) (failed : ℕ) → a.faults ≤ b.faults → Finds s.tables disk (both_parts apk idsig) x tables parts → P (trace_of y failed b c) → R (trace_of (x ++ y) failed a c))
        → Did (IsForApk disk) 4 a c R
    both P R e f = did_then (IsForApk disk) 3 1 a b c _ P R (did_so _ _ 3 3 a b _ _ d (λ call is. inl is) (omega arith) (λ t p. p)) (did_so _ _ 1 1 b c _ _ e for_idsig (omega arith) (λ t p. p)) (λ t p. p.0) (λ x y failed le p q. f x y failed le p.1 q)

    module _ (x y : Exchanges) (failed : ℕ) (le : a.faults ≤ b.faults) (p : Finds s.tables disk (both_parts apk idsig) x tables parts) where
      refused : (f : ApkFault) → OpenOutcome device_opening (Err f) (trace_of y failed b c) → ApkIsRefused s disk apk idsig how f (trace_of (x ++ y) failed a c)
      refused f q = record { first = x; rest = y; cut = refl; tables = tables; parts = parts; found = p; outcome = open_later device_opening a b c y failed le f q }

      found_so_far : x ++ y ≡ x → HasSoFar (table_on disk s.tables) disk (x ++ y)
      found_so_far e = subst (HasSoFar (table_on disk s.tables) disk) (sym e) (so_far disk (table_on disk s.tables) x p.table p.has)

      unopened : (why : BootCause) → DeviceFails device_opening why (trace_of y failed b c) → ApkFails s disk apk idsig how why (trace_of (x ++ y) failed a c)
      unopened (Apk (apks.Failed faults)) q = refused _ q
      unopened (Apk (apks.Short asked got)) q = refused _ q
      unopened (Apk (apks.Idsig fault)) q = refused _ q
      unopened (Apk apks.SaltMismatch) q = refused _ q
      unopened (Apk (apks.RootMismatch expected found)) q = refused _ q
      unopened (Apk (apks.TooFewBlocks blocks)) q = refused _ q
      unopened (Apk (apks.TooManyBlocks blocks)) q = refused _ q
      unopened (Apk (apks.SpanShort blocks sectors)) q = refused _ q
      unopened (Apk apks.Memory) q = q
      unopened Memory q = (q.failed, found_so_far (ap (λ (z : Exchanges). x ++ z) q.own ∙ append-nil x))
      unopened (Gpt f) q = absurd q
      unopened (NoPart name) q = absurd q
      unopened (File f) q = absurd q
      unopened (Image f) q = absurd q
      unopened (Get f) q = absurd q
      unopened (Put f) q = absurd q
      unopened (NoEntropy left) q = absurd q
      unopened MeasureText q = absurd q
      unopened (Failed faults) q = absurd q
      unopened (Short asked got) q = absurd q

      boots : (new : Booted) (items : List Device) → new ≡ record s { tables = tables; items = items } → DeviceBoots disk parts (measure_in how) s.items y items → ApkBoots s disk apk idsig how (x ++ y) new
      boots new items e q = record {
        first = x;
        tables = tables;
        parts = parts;
        found = p;
        bytes = q.bytes;
        cut = ap (λ (z : Exchanges). x ++ z) q.own_is;
        device = q.device;
        is = q.is;
        new_is = e ∙ ap (λ (z : List Device). record s { tables = tables; items = z }) q.new_is;
      }

    pub apk_unopened : (new : Booted) (items : List Device) (why : BootCause) → Did (IsIdsigCall device_opening) 1 b c (DeviceOutcome disk parts (measure_in how) s.items items (Err why))
        → Did (IsForApk disk) 4 a c (ApkOutcome s disk apk idsig how new (Err why))
    apk_unopened new items why e = both _ _ e (λ x y failed le p q. unopened x y failed le p why q)

    pub apk_opened : (new : Booted) (items : List Device) (m : Measure) → new ≡ record s { tables = tables; items = items } → Did (IsIdsigCall device_opening) 1 b c (DeviceOutcome disk parts (measure_in how) s.items items (Ok m))
        → Did (IsForApk disk) 4 a c (ApkOutcome s disk apk idsig how new (Ok tt))
    apk_opened new items m e f = both _ _ f (λ x y failed le p q. (q.0, boots x y failed le p new items e q.1))

-- ---- a file

module _ (file : ℕ) (digest : Digest) (s new : Booted) (a b : Told) where
  named_file : (f : RoFault) (t : Trace) → OpenFileOutcome file digest (Err f) t → FileFails file digest (file_cause f) t
  named_file (files.Failed faults) t h = h
  named_file (files.Short asked got) t h = h
  named_file (files.DigestMismatch expected found) t h = h
  named_file (files.Descriptor broken) t h = h
  named_file (files.TooLong size) t h = h
  named_file files.Memory t h = record { own = h.0; failed = h.1.failed }

  pub file_refused : (f : RoFault) → Did (IsDescriptorCall file) 1 a b (OpenFileOutcome file digest (Err f)) → Did (IsDescriptorCall file) 1 a b (FileOutcome s file digest new (Err (file_cause f)))
  file_refused f d = did_so _ _ 1 1 a b _ _ d (λ call x. x) (omega arith) (named_file f)

-- there was no room for it
pub file_roomless : (file : ℕ) (digest : Digest) (s new : Booted) (a : Told) → Did (IsDescriptorCall file) 1 a a (FileOutcome s file digest new (Err Memory))
file_roomless file digest s new a = did_none _ 1 a _ (record { own = refl; failed = refl })

-- ---- a device behind two parts

module _ (disk : ℕ) (parts : Span × Span) (measure : Option Measure) (items new : List Device) (a b : Told) where
  abbrev o : Opening
  o = opening disk parts.0 parts.1 measure

  named_device : (f : ApkFault) (t : Trace) → OpenOutcome o (Err f) t → DeviceFails o (apk_cause f) t
  named_device (apks.Failed faults) t h = h
  named_device (apks.Short asked got) t h = h
  named_device (apks.Idsig fault) t h = h
  named_device apks.SaltMismatch t h = h
  named_device (apks.RootMismatch expected found) t h = h
  named_device (apks.TooFewBlocks blocks) t h = h
  named_device (apks.TooManyBlocks blocks) t h = h
  named_device (apks.SpanShort blocks sectors) t h = h
  named_device apks.Memory t h = record { own = h.0; failed = h.1.failed }

  pub device_refused : (f : ApkFault) → Did (IsIdsigCall o) 1 a b (OpenOutcome o (Err f)) → Did (IsIdsigCall o) 1 a b (DeviceOutcome disk parts measure items new (Err (apk_cause f)))
  device_refused f d = did_so _ _ 1 1 a b _ _ d (λ call x. x) (omega arith) (named_device f)

  pub device_added : (device : Device) → new ≡ items ++ device ∷ [] → Did (IsIdsigCall o) 1 a b (OpenOutcome o (Ok device)) → Did (IsIdsigCall o) 1 a b (DeviceOutcome disk parts measure items new (Ok device.measure))
  device_added device e d = did_so _ _ 1 1 a b _ _ d (λ call x. x) (omega arith) (λ t h. (h.failed, record { bytes = h.bytes; own_is = h.own; device = device; is = sym h.is; new_is = e }, refl))

-- there was no room for it
pub device_roomless : (disk : ℕ) (parts : Span × Span) (measure : Option Measure) (items new : List Device) (a : Told)
    → Did (IsIdsigCall (opening disk parts.0 parts.1 measure)) 1 a a (DeviceOutcome disk parts measure items new (Err Memory))
device_roomless disk parts measure items new a = did_none _ 1 a _ (record { own = refl; failed = refl })

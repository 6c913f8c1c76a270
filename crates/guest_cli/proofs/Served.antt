-- A session over a recorded host is a run in each world; what is stored after it; and what each status says.
use Rattle.std.proofs.Common.{◌≡◌, ℕ, List, [], ◌∷◌, ◌++◌, length, refl, ap, sym, subst, ◌∙◌, Option, Some, None, Result, Ok, Err, ◌⊎◌, inl, inr}
use Rattle.host_traits.specs.declared.calls.TapeItem.{TapeItem}
use Rattle.host_traits.specs.Folders.{Files, Errand}
use Rattle.host_traits.specs.Held.{Held}
use Rattle.host_traits.specs.Told.{Told, Talked, Made, Calls, heard_of, taken}
use Rattle.host_traits.proofs.Talking.{talked_on}
use Rattle.host_tape.specs.Tape.{tape_bytes}
use Rattle.host_rec.specs.Recorded.{Recorded as Recorder, Kept as KeptCalls, calls_in, nothing, told_with}
use Rattle.host_mem.specs.Mem.{Mem, Count, mem_held, mem_told, unused}
use Rattle.guest_plan.specs.declared.store.StoreLine.{StoreLine}
use Rattle.guest_plan.specs.Plans.{Known}
use Rattle.guest_files.specs.declared.load.Refusal.{Refusal}
use Rattle.guest_files.specs.declared.load.Refusal.TheVariants as refusal
use Rattle.guest_files.specs.Files.{Names}
use Rattle.guest_files.specs.Keeping.{Parcel, IsStored, MayBeStored, StopsAt, StoringStops, kept_of}
use Rattle.guest_rules.specs.Machine.{Setting, State, Turn, moment}
use Rattle.guest_rules.specs.Run.{AreOpened, Runs, calls_of}
use Rattle.guest_rules.proofs.Standing.{runs_stand}
use Rattle.guest_cli.specs.declared.session.SessionEnd.{SessionEnd}
use Rattle.guest_cli.specs.declared.session.SessionEnd.TheVariants.{Read, Write, BadFrame, TooMuch as MuchEnd}
use Rattle.guest_cli.specs.declared.status.Status.{Status}
use Rattle.guest_cli.specs.declared.status.Status.TheVariants.{BootFault, Done, Usage, PlanFault, FileFault, TapeFault, StoreFault, ReadFault, WriteFault, BadFrame as BadFrameStatus, TooMuch, Memory, Unbuilt}
use Rattle.guest_cli.specs.Session.{Streams, IsSession}
use Rattle.guest_boot.specs.declared.faults.BootFault.{BootFault as Fault}
use Rattle.guest_boot.specs.Recording.{DidWriting}
use Rattle.guest_boot.specs.Booting.{IsForLines, most_of}
use Rattle.instance_image.specs.Sealings.{Sealing}
use Rattle.guest_cli.specs.Booted.{Opened, BootedOutcome, BootsOver, Unbooted, setting_of, first_state, sealings_of, boot_status}
use Rattle.guest_cli.specs.Outside.{Quiet, status_of, refused}
use Rattle.guest_cli.specs.Serve.{before, Recorded, SatOver, Kept, Unkept, ServesList}
use Rattle.guest_cli.specs.Loads.{IsStocked, IsServed, SatOutcome, StoreOutcome, StoresCause}
use Rattle.guest_cli.proofs.Headline.{session_so, boot_fails}

-- ---- the session

some_same : (x y : Calls) → Some x ≡ Some y → x ≡ y
some_same x y e = cc

-- what a recorder before a host that was not called yet tells
fresh_told : (m : Mem) (count : Count) → m.count ≡ count → count ≡ unused → told_with (mem_told m) nothing ≡ before (mem_held m)
fresh_told m count is e = rw (is, e) refl

recorded : (g : Setting) (first : State) (sealings : List Sealing) (m : Mem) (booted : List Made) (t : State) (mid r : Recorder Mem) (turns : List Turn) → Talked (before (mem_held m)) (told_with (mem_told mid.host) mid.kept) booted
    → AreOpened first (heard_of booted) → Runs g first t (told_with (mem_told mid.host) mid.kept) (told_with (mem_told r.host) r.kept) turns
    → Recorded g first sealings booted (told_with (mem_told mid.host) mid.kept) r.kept.calls r.kept.items (told_with (mem_told r.host) r.kept) turns
recorded g first sealings m booted t mid r turns boot opened runs =
    let finish : Told = told_with (mem_told r.host) r.kept in
    let start : Told = told_with (mem_told mid.host) mid.kept in
    let all = talked_on (before (mem_held m)) start finish booted (calls_of turns) boot runs.talked in
    let plain = runs.run (heard_of booted) sealings in
    record {
      talked = runs.talked;
      made = sym (some_same (calls_in r.kept.calls r.kept.items) (taken None (booted ++ calls_of turns)) all.made);
      faults = refl;
      state = t;
      sealed = sealings ++ runs.sealed;
      plain = plain;
      run = λ world w sealed. runs_stand g world (moment first start (heard_of booted) sealings) turns (moment t finish (heard_of booted ++ heard_of (calls_of turns)) (sealings ++ runs.sealed)) opened w plain sealed;
    }

-- the same start, said of the host that was given
from_before : (m : Mem) (old : Recorder Mem) → old.host ≡ m → old.kept ≡ nothing → m.count ≡ unused → told_with (mem_told old.host) old.kept ≡ before (mem_held m)
from_before m old same none unused_is = ap (λ (h : Mem). told_with (mem_told h) old.kept) same ∙ (ap (λ (k : KeptCalls). told_with (mem_told m) k) none ∙ fresh_told m m.count refl unused_is)

-- the session over a recorder before a host that was not called yet, behind a boot over it
pub sat_over : (opened : Opened) (g : Setting) (st : State) (entropy : List ℕ) (m : Mem) (booted : List Made) (t : State) (old mid r : Recorder Mem) (old_s new_s : Streams) (e : Result (Unit {0}) SessionEnd) (plan : Known)
    → g ≡ setting_of plan opened → st ≡ first_state plan opened
    → old.host ≡ m → old.kept ≡ nothing → m.count ≡ unused → BootsOver plan entropy (told_with (mem_told old.host) old.kept) (told_with (mem_told mid.host) mid.kept) booted opened → AreOpened (first_state plan opened) (heard_of booted)
    → IsSession (Runs g st t (told_with (mem_told mid.host) mid.kept) (told_with (mem_told r.host) r.kept)) (told_with (mem_told r.host) r.kept) old_s new_s e
    → IsServed plan (mem_held m) entropy old_s new_s e r (told_with (mem_told r.host) r.kept)
sat_over opened g st entropy m booted t old mid r old_s new_s e plan setting state same none unused_is boots there d =
    let start : Told = told_with (mem_told mid.host) mid.kept in
    let finish : Told = told_with (mem_told r.host) r.kept in
    let from : BootsOver plan entropy (before (mem_held m)) start booted opened = subst (λ (z : Told). BootsOver plan entropy z start booted opened) (from_before m old same none unused_is) boots in
    record {
      opened = opened;
      booted = booted;
      mid = start;
      boots = from;
      session = session_so _ _ (λ turns runs. recorded (setting_of plan opened) (first_state plan opened) (sealings_of opened) m booted t mid r turns from.talked there
          (subst (λ (z : Setting). Runs z (first_state plan opened) t start finish turns) setting (subst (λ (s : State). Runs g s t start finish turns) state runs))) finish old_s new_s e d;
      held_is = refl;
    }

unserved_by : (plan : Known) (m : Mem) (entropy : List ℕ) (fault : Fault) (old_s new_s : Streams) (status : Status) → status ≡ boot_status fault → Quiet old_s new_s → (boot_status fault ≡ Memory) ⊎ ((boot_status fault ≡ BootFault fault) × Unbooted plan entropy (before (mem_held m)) fault)
    → SatOutcome plan (mem_held m) entropy old_s new_s (Err status)
unserved_by plan m entropy fault old_s new_s status is quiet (inl e) = inl (is ∙ e, quiet)
unserved_by plan m entropy fault old_s new_s status is quiet (inr f) = inr (inl (record { fault = fault; status_is = is ∙ f.0; fails = f.1; quiet = quiet }))

-- a boot over it that failed
pub unserved : (plan : Known) (m : Mem) (entropy : List ℕ) (old : Recorder Mem) (finish : Told) (fault : Fault) (old_s new_s : Streams) (status : Status) → status ≡ boot_status fault → old.host ≡ m → old.kept ≡ nothing → m.count ≡ unused → Quiet old_s new_s
    → DidWriting (IsForLines plan.lines) (most_of plan.lines) (told_with (mem_told old.host) old.kept) finish (BootedOutcome plan entropy (Err fault))
    → SatOutcome plan (mem_held m) entropy old_s new_s (Err status)
unserved plan m entropy old finish fault old_s new_s status is same none unused_is quiet d =
    unserved_by plan m entropy fault old_s new_s status is quiet
    (boot_fails plan entropy (before (mem_held m)) finish fault (subst (λ (z : Told). DidWriting (IsForLines plan.lines) (most_of plan.lines) z finish (BootedOutcome plan entropy (Err fault))) (from_before m old same none unused_is) d))

-- ---- what is stored

pub tape_stops : (files new : Option Files) (out bytes : List ℕ) (records : List TapeItem) (held : Held) (lines : List StoreLine) (r : Refusal) → bytes ≡ tape_bytes records → MayBeStored files new (out, bytes) × Names out r
    → StoreOutcome files out records held lines new (refused r)
tape_stops files new out bytes records held lines (refusal.File name) is d = record {
  done = [];
  rest = (out, tape_bytes records) ∷ kept_of held lines;
  cut = refl;
  mid = files;
  stored = refl;
  stops = (d.1, subst (λ (z : List ℕ). MayBeStored files new (out, z)) is d.0);
}
tape_stops files new out bytes records held lines refusal.Memory is d = record {
  done = [];
  rest = (out, tape_bytes records) ∷ kept_of held lines;
  cut = refl;
  mid = files;
  stored = refl;
  stops = inr (subst (λ (z : List ℕ). MayBeStored files new (out, z)) is d.0);
}
tape_stops files new out bytes records held lines (refusal.Line line kind) is d = absurd d.1
tape_stops files new out bytes records held lines refusal.TooMuch is d = absurd d.1

behind : (files mid new : Option Files) (parcel : Parcel) (parcels : List Parcel) (r : Refusal) → IsStored files mid parcel → StoringStops mid parcels new r → StoringStops files (parcel ∷ parcels) new r
behind files mid new parcel parcels r one s = record {
  done = parcel ∷ s.done;
  rest = s.rest;
  cut = ap (λ (z : List Parcel). parcel ∷ z) s.cut;
  mid = s.mid;
  stored = (mid, one, s.stored);
  stops = s.stops;
}

no_line : (mid new : Option Files) (rest : List Parcel) (line : ℕ) (kind : _) → StopsAt mid rest new (refusal.Line line kind) → ⊥
no_line mid new [] line kind s = s
no_line mid new (x ∷ rest) line kind s = s

no_much : (mid new : Option Files) (rest : List Parcel) → StopsAt mid rest new refusal.TooMuch → ⊥
no_much mid new [] s = s
no_much mid new (x ∷ rest) s = s

pub keep_stops : (files mid new : Option Files) (out bytes : List ℕ) (records : List TapeItem) (held : Held) (lines : List StoreLine) (r : Refusal) → bytes ≡ tape_bytes records → IsStored files mid (out, bytes) → StoringStops mid (kept_of held lines) new r
    → StoreOutcome files out records held lines new (refused r)
keep_stops files mid new out bytes records held lines (refusal.File name) is one s = behind files mid new _ _ _ (subst (λ (z : List ℕ). IsStored files mid (out, z)) is one) s
keep_stops files mid new out bytes records held lines refusal.Memory is one s = behind files mid new _ _ _ (subst (λ (z : List ℕ). IsStored files mid (out, z)) is one) s
keep_stops files mid new out bytes records held lines (refusal.Line line kind) is one s = absurd (no_line s.mid new s.rest line kind s.stops)
keep_stops files mid new out bytes records held lines refusal.TooMuch is one s = absurd (no_much s.mid new s.rest s.stops)

-- ---- what each status says

module _ (files : Option Files) (plan store entropy : List ℕ) (k : Known) (lines : List StoreLine) (held : Held) (bytes : List ℕ) (old new : Streams) where
  abbrev sat_of : (e : Result (Unit {0}) SessionEnd) (r : Recorder Mem) (finish : Told) → IsStocked files plan store entropy k lines held bytes → IsServed k held bytes old new e r finish → SatOver files plan store entropy old new e
  sat_of e r finish stocked served = record {
    made = stocked.made;
    bytes = bytes;
    bytes_there = stocked.entropy_there;
    opened = served.opened;
    booted = served.booted;
    mid = served.mid;
    boots = subst (λ (h : Held). BootsOver stocked.made.planned.plan bytes (before h) served.mid served.booted served.opened) (sym stocked.held_is)
        (subst (λ (p : Known). BootsOver p bytes (before held) served.mid served.booted served.opened) (sym stocked.plan_is) served.boots);
    calls = r.kept.calls;
    records = r.kept.items;
    finish = finish;
    session = subst (λ (p : Known). IsSession (Recorded (setting_of p served.opened) (first_state p served.opened) (sealings_of served.opened) served.booted served.mid r.kept.calls r.kept.items finish) finish old new e) (sym stocked.plan_is) served.session;
  }

  kept_with : (out : List ℕ) (r : Recorder Mem) (finish : Told) (stocked : IsStocked files plan store entropy k lines held bytes) (served : IsServed k held bytes old new (Ok tt) r finish) → length r.kept.calls ≡ length r.kept.items → (Storing : List Parcel → Type 0)
      → Storing ((out, tape_bytes r.kept.items) ∷ kept_of (mem_held r.host) lines) → Kept files plan store entropy out old new Storing
  kept_with out r finish stocked served each Storing d = record {
    sat = sat_of (Ok tt) r finish stocked served;
    parcels = (out, tape_bytes r.kept.items) ∷ kept_of (mem_held r.host) lines;
    are = record { held = mem_held r.host; held_is = served.held_is; each = each; are = ap (λ (z : List StoreLine). (out, tape_bytes r.kept.items) ∷ kept_of (mem_held r.host) z) (sym stocked.lines_are) };
    storing = d;
  }

  -- the session came to the end of its input
  pub stored_serves : (files_new : Option Files) (last : Option Errand) (out : List ℕ) (r : Recorder Mem) (was now : ℕ) (status : Status) → IsStocked files plan store entropy k lines held bytes → SatOutcome k held bytes old new (Ok r)
      → length r.kept.calls ≡ length r.kept.items → StoreOutcome files out r.kept.items (mem_held r.host) lines files_new status → StoresCause was now last status → ServesList files files_new last plan store entropy out old new status
  stored_serves files_new last out r was now Done stocked sat each d cause = kept_with out r sat.0 stocked sat.1 each _ d
  stored_serves files_new last out r was now (FileFault name) stocked sat each d cause = inr (cause.2, kept_with out r sat.0 stocked sat.1 each _ d)
  stored_serves files_new last out r was now Memory stocked sat each d cause = inr (kept_with out r sat.0 stocked sat.1 each _ d)
  stored_serves files_new last out r was now (BootFault fault) stocked sat each d cause = absurd d
  stored_serves files_new last out r was now Usage stocked sat each d cause = absurd d
  stored_serves files_new last out r was now (PlanFault line kind) stocked sat each d cause = absurd d
  stored_serves files_new last out r was now (TapeFault at) stocked sat each d cause = absurd d
  stored_serves files_new last out r was now (StoreFault line kind) stocked sat each d cause = absurd d
  stored_serves files_new last out r was now ReadFault stocked sat each d cause = absurd d
  stored_serves files_new last out r was now WriteFault stocked sat each d cause = absurd d
  stored_serves files_new last out r was now (BadFrameStatus at) stocked sat each d cause = absurd d
  stored_serves files_new last out r was now TooMuch stocked sat each d cause = absurd d
  stored_serves files_new last out r was now (Unbuilt form at) stocked sat each d cause = absurd d

  unkept : (why : SessionEnd) → SatOver files plan store entropy old new (Err why) → Unkept files files plan store entropy old new (status_of (Err why))
  unkept why sat = record { why = why; status_is = refl; sat = sat; unchanged = refl }

  ends_before : (last : Option Errand) (out : List ℕ) (why : SessionEnd) → SatOver files plan store entropy old new (Err why) → ServesList files files last plan store entropy out old new (status_of (Err why))
  ends_before last out Read sat = unkept Read sat
  ends_before last out Write sat = unkept Write sat
  ends_before last out (BadFrame at) sat = unkept (BadFrame at) sat
  ends_before last out MuchEnd sat = inr (unkept MuchEnd sat)

  -- the session was not reached, or ended before its input did
  pub ended_serves : (last : Option Errand) (out : List ℕ) (status : Status) → IsStocked files plan store entropy k lines held bytes → SatOutcome k held bytes old new (Err status) → ServesList files files last plan store entropy out old new status
  ended_serves last out status stocked (inl d) = subst (λ (s : Status). ServesList files files last plan store entropy out old new s) (sym d.0) (inl (record { quiet = d.1; unchanged = refl }))
  ended_serves last out status stocked (inr (inl u)) =
      subst (λ (s : Status). ServesList files files last plan store entropy out old new s) (sym u.status_is) (
        record {
          made = stocked.made;
          bytes = bytes;
          bytes_there = stocked.entropy_there;
          fails = subst (λ (h : Held). Unbooted stocked.made.planned.plan bytes (before h) u.fault) (sym stocked.held_is)
              (subst (λ (p : Known). Unbooted p bytes (before held) u.fault) (sym stocked.plan_is) u.fails);
        },
        record { quiet = u.quiet; unchanged = refl },
      )
  ended_serves last out status stocked (inr (inr d)) =
      subst (λ (s : Status). ServesList files files last plan store entropy out old new s) (sym d.1) (ends_before last out d.0 (sat_of (Err d.0) d.2 d.3 stocked d.4))

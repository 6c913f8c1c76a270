-- A session over a tape is a run in each world.
use Rattle.std.proofs.Common.{◌≡◌, ℕ, List, [], ◌++◌, refl, sym, subst, ◌∙◌, Option, Result, Ok, Err, ◌⊎◌, inl, inr}
use Rattle.host_traits.specs.declared.calls.TapeItem.{TapeItem}
use Rattle.host_traits.specs.Did.{Each, trace_of}
use Rattle.host_traits.specs.Folders.{Files}
use Rattle.host_traits.specs.Told.{Told, Talked, Made, heard_of, failures_of}
use Rattle.host_traits.proofs.Talking.{talked_on}
use Rattle.host_tape.specs.Played.{Played, unplayed, tape_told}
use Rattle.guest_plan.specs.Plans.{Known}
use Rattle.guest_boot.specs.declared.faults.BootCause.{BootCause}
use Rattle.guest_boot.specs.declared.faults.BootCause.TheVariants as cause
use Rattle.guest_boot.specs.declared.faults.BootFault.{BootFault as Fault}
use Rattle.guest_boot.specs.Recording.{Writing, ReadsOrWrites, DidWriting}
use Rattle.guest_boot.specs.Booting.{means_of, IsForLines, most_of, IsFault}
use Rattle.instance_image.specs.Sealings.{Sealing}
use Rattle.guest_rules.specs.Machine.{Setting, State, Turn, moment}
use Rattle.guest_rules.specs.Run.{AreOpened, Runs, calls_of}
use Rattle.guest_rules.proofs.Standing.{runs_stand}
use Rattle.guest_cli.specs.declared.boot.Machine.{Machine}
use Rattle.guest_cli.specs.declared.session.SessionEnd.{SessionEnd}
use Rattle.guest_cli.specs.declared.session.SessionEnd.TheVariants.{Read, Write, BadFrame, TooMuch as MuchEnd}
use Rattle.guest_cli.specs.declared.status.Status.{Status}
use Rattle.guest_cli.specs.declared.status.Form.TheVariants.{Command, Plan}
use Rattle.guest_cli.specs.declared.status.Status.TheVariants.{BootFault, Done, Usage, PlanFault, FileFault, TapeFault, StoreFault, ReadFault, WriteFault, BadFrame as BadFrameStatus, TooMuch, Memory, Unbuilt}
use Rattle.guest_cli.specs.Session.{Streams, IsSession}
use Rattle.guest_cli.specs.Outside.{Quiet, status_of}
use Rattle.guest_cli.specs.Booted.{NoneOrAll, BootedOutcome, BootsOver, Unbooted, boot_status, boot_status_by}
use Rattle.guest_cli.specs.Replay.{Replayed, AllRead, Sat, Replays}
use Rattle.guest_cli.specs.Loads.{IsReady, InputsFail, PlayOutcome}

pub replayed : (g : Setting) (first : State) (sealings : List Sealing) (records : List TapeItem) (booted : List Made) (t : State) (mid finish : Told) (turns : List Turn) → Talked (tape_told (unplayed records)) mid booted
    → AreOpened first (heard_of booted) → Runs g first t mid finish turns → Replayed g first sealings records booted mid finish turns
replayed g first sealings records booted t mid finish turns boot opened runs =
    let plain = runs.run (heard_of booted) sealings in
    record {
      talked = runs.talked;
      plays = (talked_on (tape_told (unplayed records)) mid finish booted (calls_of turns) boot runs.talked).plays;
      state = t;
      sealed = sealings ++ runs.sealed;
      plain = plain;
      run = λ world w sealed. runs_stand g world (moment first mid (heard_of booted) sealings) turns (moment t finish (heard_of booted ++ heard_of (calls_of turns)) (sealings ++ runs.sealed)) opened w plain sealed;
    }

-- the same with less known of what ran
pub session_so : (P Q : List Turn → Type 0) → ((turns : List Turn) → P turns → Q turns) → (told : Told) (old new : Streams) (r : Result (Unit {0}) SessionEnd) → IsSession P told old new r → IsSession Q told old new r
session_so P Q so told old new (Ok u) d = record { bytes = d.bytes; rest = d.rest; turns = d.turns; came = d.came; within = d.within; runs = so d.turns d.runs; written = d.written; logged = d.logged; why = d.why }
session_so P Q so told old new (Err Read) d = record { bytes = d.bytes; rest = d.rest; turns = d.turns; came = d.came; within = d.within; runs = so d.turns d.runs; written = d.written; logged = d.logged; why = d.why }
session_so P Q so told old new (Err (BadFrame at)) d = record { bytes = d.bytes; rest = d.rest; turns = d.turns; came = d.came; within = d.within; runs = so d.turns d.runs; written = d.written; logged = d.logged; why = d.why }
session_so P Q so told old new (Err MuchEnd) d = record { bytes = d.bytes; rest = d.rest; turns = d.turns; came = d.came; within = d.within; runs = so d.turns d.runs; written = d.written; logged = d.logged; why = d.why }
session_so P Q so told old new (Err Write) d =
    let ran = d.ran in record {
      bytes = d.bytes;
      rest = d.rest;
      turns = d.turns;
      last = d.last;
      came = d.came;
      within = d.within;
      front = d.front;
      ran = record { runs = so _ ran.runs; out_mid = ran.out_mid; written = ran.written; log_mid = ran.log_mid; logged = ran.logged; part = ran.part };
    }

-- the session over a tape, behind a boot over it
pub tape_session : (g setting : Setting) (st first : State) (sealings : List Sealing) (tape : Played) (booted : List Made) (t : State) (mid finish : Told) (old new : Streams) (r : Result (Unit {0}) SessionEnd) → g ≡ setting → st ≡ first → tape ≡ unplayed tape.records
    → Talked (tape_told tape) mid booted → AreOpened first (heard_of booted)
    → IsSession (Runs g st t mid finish) finish old new r
    → IsSession (Replayed setting first sealings tape.records booted mid finish) finish old new r
tape_session g setting st first sealings tape booted t mid finish old new r same state fresh boot opened d =
    session_so _ _ (λ turns runs. replayed setting first sealings tape.records booted t mid finish turns (subst (λ (p : Played). Talked (tape_told p) mid booted) fresh boot) opened
    (subst (λ (z : Setting). Runs z first t mid finish turns) same (subst (λ (s : State). Runs g s t mid finish turns) state runs))) finish old new r d

-- ---- boot

pub booted_over : (plan : Known) (entropy : List ℕ) (start mid : Told) (m : Machine) → (d : DidWriting (IsForLines plan.lines) (most_of plan.lines) start mid (BootedOutcome plan entropy (Ok m))) → BootsOver plan entropy start mid d.did.own d.did.outcome.1.opened
booted_over plan entropy start mid m d = record {
  talked = d.did.talked;
  calls = subst (λ (w : List Writing). Each (ReadsOrWrites (IsForLines plan.lines) w) d.did.own) (sym d.did.outcome.1.written) d.did.calls;
  few = d.did.few;
  answered = d.did.outcome.0;
  opens = d.did.outcome.1.opens;
}

module _ (plan : Known) (entropy : List ℕ) (start finish : Told) (fault : Fault) (d : DidWriting (IsForLines plan.lines) (most_of plan.lines) start finish (BootedOutcome plan entropy (Err fault))) where
  unbooted_with : (why : BootCause) → fault.why ≡ why → (why ≡ cause.Memory → ⊥)
      → ((fault.why ≡ cause.Memory) × (failures_of d.did.own ≡ 0) × NoneOrAll plan entropy (heard_of d.did.own) d.writings) ⊎ IsFault (means_of plan entropy) plan.lines plan.numbers fault d.writings (trace_of (heard_of d.did.own) (failures_of d.did.own) start finish)
      → Unbooted plan entropy start fault
  unbooted_with why is other (inl e) = absurd (other (sym is ∙ e.0))
  unbooted_with why is other (inr f) = record { finish = finish; own = d.did.own; talked = d.did.talked; writings = d.writings; calls = d.did.calls; few = d.did.few; stops = d.did.stops; is = f; other = λ e. other (sym is ∙ e) }

  unbooted : (why : BootCause) → fault.why ≡ why → (why ≡ cause.Memory → ⊥) → Unbooted plan entropy start fault
  unbooted why is other = unbooted_with why is other d.did.outcome

  unbooted_by : (why : BootCause) → fault.why ≡ why → (boot_status_by fault why ≡ Memory) ⊎ ((boot_status_by fault why ≡ BootFault fault) × Unbooted plan entropy start fault)
  unbooted_by cause.Memory is = inl refl
  unbooted_by (cause.Gpt f) is = inr (refl, unbooted (cause.Gpt f) is (λ e. cc))
  unbooted_by (cause.NoPart n) is = inr (refl, unbooted (cause.NoPart n) is (λ e. cc))
  unbooted_by (cause.Apk f) is = inr (refl, unbooted (cause.Apk f) is (λ e. cc))
  unbooted_by (cause.File f) is = inr (refl, unbooted (cause.File f) is (λ e. cc))
  unbooted_by (cause.Image f) is = inr (refl, unbooted (cause.Image f) is (λ e. cc))
  unbooted_by (cause.Get f) is = inr (refl, unbooted (cause.Get f) is (λ e. cc))
  unbooted_by (cause.Put f) is = inr (refl, unbooted (cause.Put f) is (λ e. cc))
  unbooted_by (cause.NoEntropy n) is = inr (refl, unbooted (cause.NoEntropy n) is (λ e. cc))
  unbooted_by cause.MeasureText is = inr (refl, unbooted cause.MeasureText is (λ e. cc))
  unbooted_by (cause.Failed n) is = inr (refl, unbooted (cause.Failed n) is (λ e. cc))
  unbooted_by (cause.Short a g) is = inr (refl, unbooted (cause.Short a g) is (λ e. cc))

-- a boot that failed is want of memory, or a fault of its line
pub boot_fails : (plan : Known) (entropy : List ℕ) (start finish : Told) (fault : Fault) → DidWriting (IsForLines plan.lines) (most_of plan.lines) start finish (BootedOutcome plan entropy (Err fault))
    → (boot_status fault ≡ Memory) ⊎ ((boot_status fault ≡ BootFault fault) × Unbooted plan entropy start fault)
boot_fails plan entropy start finish fault d = unbooted_by plan entropy start finish fault d fault.why refl

-- the same of a replay
pub unplayed_by : (plan : Known) (tape : Played) (entropy : List ℕ) (fault : Fault) (old new : Streams) (status : Status) → status ≡ boot_status fault → Quiet old new
    → (boot_status fault ≡ Memory) ⊎ ((boot_status fault ≡ BootFault fault) × Unbooted plan entropy (tape_told tape) fault) → PlayOutcome plan tape entropy old new status
unplayed_by plan tape entropy fault old new status is quiet (inl e) = inl (is ∙ e, quiet)
unplayed_by plan tape entropy fault old new status is quiet (inr f) = inr (inl (record { fault = fault; status_is = is ∙ f.0; fails = f.1; quiet = quiet }))

-- ---- a replay, by how it ended

-- the files were not all loaded and read
pub fails_replay : (files : Option Files) (plan tape entropy : List ℕ) (old new : Streams) (status : Status) → InputsFail files plan tape entropy status → Quiet old new → Replays files plan tape entropy old new status
fails_replay files plan tape entropy old new (PlanFault line kind) w quiet = (w, quiet)
fails_replay files plan tape entropy old new (FileFault name) w quiet = (w, quiet)
fails_replay files plan tape entropy old new (TapeFault at) w quiet = (w.0, w.1, quiet)
fails_replay files plan tape entropy old new TooMuch w quiet = inl (w, quiet)
fails_replay files plan tape entropy old new Memory w quiet = quiet
fails_replay files plan tape entropy old new (Unbuilt Plan at) w quiet = (w, quiet)
fails_replay files plan tape entropy old new (Unbuilt Command at) w quiet = absurd w
fails_replay files plan tape entropy old new Done w quiet = absurd w
fails_replay files plan tape entropy old new Usage w quiet = absurd w
fails_replay files plan tape entropy old new (StoreFault line kind) w quiet = absurd w
fails_replay files plan tape entropy old new ReadFault w quiet = absurd w
fails_replay files plan tape entropy old new WriteFault w quiet = absurd w
fails_replay files plan tape entropy old new (BadFrameStatus at) w quiet = absurd w
fails_replay files plan tape entropy old new (BootFault fault) w quiet = absurd w

ends_as : (files : Option Files) (plan tape entropy : List ℕ) (old new : Streams) (r : Result (Unit {0}) SessionEnd) → Sat files plan tape entropy old new (status_of r) → Replays files plan tape entropy old new (status_of r)
ends_as files plan tape entropy old new (Ok u) sat = sat
ends_as files plan tape entropy old new (Err Read) sat = sat
ends_as files plan tape entropy old new (Err Write) sat = sat
ends_as files plan tape entropy old new (Err (BadFrame at)) sat = sat
ends_as files plan tape entropy old new (Err MuchEnd) sat = inr sat

module _ (files : Option Files) (plan tape entropy : List ℕ) (k : Known) (played : Played) (bytes : List ℕ) (old new : Streams) where
  all_read : IsReady files plan tape entropy k played bytes → AllRead files plan tape entropy
  all_read ready = record {
    planned = record { text = ready.text; there = ready.there; plan = k; is = ready.is; built = ready.built };
    taped = record { text = ready.tape_text; there = ready.tape_there; records = played.records; is = ready.is_tape };
    bytes = bytes;
    bytes_there = ready.entropy_there;
  }

  pub play_replays : (status : Status) → IsReady files plan tape entropy k played bytes → PlayOutcome k played bytes old new status → Replays files plan tape entropy old new status
  unfolding all_read
  play_replays status ready (inl none) = subst (λ (s : Status). Replays files plan tape entropy old new s) (sym none.0) none.1
  play_replays status ready (inr (inl u)) =
      subst (λ (s : Status). Replays files plan tape entropy old new s) (sym u.status_is)
      (record { read = all_read ready; fails = subst (λ (p : Played). Unbooted k bytes (tape_told p) u.fault) ready.fresh u.fails }, u.quiet)
  play_replays status ready (inr (inr p)) =
      subst (λ (s : Status). Replays files plan tape entropy old new s) (sym p.status_is) (ends_as files plan tape entropy old new p.ended (record {
        read = all_read ready;
        opened = p.opened;
        booted = p.booted;
        mid = p.mid;
        boots = subst (λ (t : Played). BootsOver k bytes (tape_told t) p.mid p.booted p.opened) ready.fresh p.boots;
        finish = p.finish;
        ended = p.ended;
        status_is = refl;
        session = p.session;
      }))

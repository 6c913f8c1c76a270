-- Frames answered one by one: a turn from the work that was done for it, and one turn more.
use Rattle.std.proofs.Common.{◌≡◌, ℕ, ◌+◌, ◌≤◌, List, [], ◌∷◌, ◌++◌, refl, ap, sym, subst, ◌∙◌, Option, Some, None, append_assoc, append-nil, arith}
use Rattle.std.specs.Prelude.{flat_map}
use Rattle.std.specs.Io.KnownBytes.{Appends}
use Rattle.host_traits.specs.declared.calls.Call.{Call}
use Rattle.host_traits.specs.Told.{Told, Exchanges, heard_of, failures_of}
use Rattle.host_traits.specs.Did.{Trace, trace_of, DidBy}
use Rattle.host_traits.proofs.Doing.{each_so}
use Rattle.host_traits.proofs.Talking.{heard_of-append, talked_not, talked_on}
use Rattle.session_frames.specs.Frames.{Framed}
use Rattle.session_frames.specs.Replies.{Sent, reply_frame}
use Rattle.host_traits.proofs.Prefixes.{appends_then}
use Rattle.verity_path.specs.declared.device.Cause.{Cause}
use Rattle.instance_image.specs.Sealings.{Sealing}
use Rattle.guest_rules.specs.Machine.{Setting, State, Moment, moment, Turn, nowhere, request_of}
use Rattle.guest_rules.specs.Step.{IsFor, most_for, seals, Row, Stepped, heard_around}
use Rattle.guest_rules.specs.Run.{IsEarly, Run, Runs, Ran, calls_of, out_bytes, log_line, log_bytes, frame_size, frames_of}

-- a request by the work that was done for it
pub stepped : (g : Setting) (old_state new_state : State) (a b : Told) (frame : Framed) (sent : Sent) (cause : Option Cause) (F : Call → List ℕ → Type 0) (most : ℕ) (P : Trace → Type 0)
    → DidBy F most a b P → ((call : Call) (given : List ℕ) → F call given → IsFor g old_state (request_of frame) call given) → most ≤ most_for g old_state (request_of frame)
    → ((run : List Sealing) (own : Exchanges) (failed : ℕ) → P (trace_of own failed a b) → Row g nowhere run (heard_around (trace_of own failed a b) a b) (request_of frame) old_state new_state sent cause)
    → Stepped g old_state new_state a b frame sent cause
stepped g old_state new_state a b frame sent cause F most P d for few row = record {
  own = d.own;
  talked = d.talked;
  step = λ heard run. record {
    talked = d.talked;
    heard = refl;
    sealings = refl;
    calls = each_so F (IsFor g old_state (request_of frame)) d.own for d.calls;
    few = omega (arith, d.few, few);
    stops = d.stops;
    row = row run (heard_of d.own) (failures_of d.own) d.outcome;
  };
}

appends_none : (a : Option (List ℕ)) → Appends a a []
appends_none None = tt
appends_none (Some xs) = sym (append-nil xs)

flat_map-both : {X Y : Type 0} (f : X → List Y) (xs ys : List X) → flat_map f (xs ++ ys) ≡ flat_map f xs ++ flat_map f ys
flat_map-both f [] ys = refl
flat_map-both f (y ∷ xs) ys = ap (λ z. f y ++ z) (flat_map-both f xs ys) ∙ sym (append_assoc (f y) (flat_map f xs) (flat_map f ys))

pub frames_both : (xs ys : List Turn) → frames_of (xs ++ ys) ≡ frames_of xs ++ frames_of ys
frames_both [] ys = refl
frames_both (t ∷ xs) ys = ap (λ z. t.frame ∷ z) (frames_both xs ys)

-- how many bytes the frames of turns have
abbrev pub turns_size : List Turn → ℕ
turns_size [] = 0
turns_size (t ∷ turns) = frame_size t.frame + turns_size turns

log_both : (at : ℕ) (xs ys : List Turn) → log_bytes at (xs ++ ys) ≡ log_bytes at xs ++ log_bytes (at + turns_size xs) ys
log_both at [] ys = ap (λ n. log_bytes n ys) (let e : at ≡ at + 0 = omega arith in e)
log_both at (t ∷ xs) ys =
    let place : at + frame_size t.frame + turns_size xs ≡ at + (frame_size t.frame + turns_size xs) = omega arith in
    ap (λ z. log_line at t.sent t.cause ++ z) (log_both (at + frame_size t.frame) xs ys ∙ ap (λ n. log_bytes (at + frame_size t.frame) xs ++ log_bytes n ys) place)
    ∙ sym (append_assoc (log_line at t.sent t.cause) (log_bytes (at + frame_size t.frame) xs) (log_bytes (at + (frame_size t.frame + turns_size xs)) ys))

run_both : (g : Setting) (old : Moment) (xs : List Turn) (mid : Moment) (ys : List Turn) (new : Moment) → Run g nowhere old xs mid → Run g nowhere mid ys new → Run g nowhere old (xs ++ ys) new
run_both g old [] mid ys new e r = subst (λ m. Run g nowhere m ys new) (sym e) r
run_both g old (t ∷ xs) mid ys new r s = (r.0, r.1, r.2, run_both g r.0 xs mid ys new r.3 s)

-- no frame yet
runs_none : (g : Setting) (state : State) (a : Told) → Runs g state state a a []
runs_none g state a = record {
  talked = talked_not a;
  sealed = [];
  run = λ heard run. ap (λ h. moment state a h run) (sym (append-nil heard)) ∙ ap (moment state a (heard ++ [])) (sym (append-nil run));
}

calls_both : (xs ys : List Turn) → calls_of (xs ++ ys) ≡ calls_of xs ++ calls_of ys
calls_both xs ys = flat_map-both (λ (t : Turn). t.own) xs ys

heard_both : (heard : Exchanges) (xs ys : List Turn) → heard ++ heard_of (calls_of (xs ++ ys)) ≡ (heard ++ heard_of (calls_of xs)) ++ heard_of (calls_of ys)
heard_both heard xs ys =
    ap (λ z. heard ++ z) (ap heard_of (calls_both xs ys) ∙ heard_of-append (calls_of xs) (calls_of ys)) ∙ sym (append_assoc heard (heard_of (calls_of xs)) (heard_of (calls_of ys)))

-- frames, and then others
pub runs_both : (g : Setting) (r s t : State) (a b c : Told) (xs ys : List Turn) → Runs g r s a b xs → Runs g s t b c ys → Runs g r t a c (xs ++ ys)
runs_both g r s t a b c xs ys p q = record {
  talked = rw (calls_both xs ys) (talked_on a b c (calls_of xs) (calls_of ys) p.talked q.talked);
  sealed = p.sealed ++ q.sealed;
  run = λ heard run.
      let later = q.run (heard ++ heard_of (calls_of xs)) (run ++ p.sealed) in
      subst (λ z. Run g nowhere (moment r a heard run) (xs ++ ys) (moment t c z (run ++ (p.sealed ++ q.sealed)))) (sym (heard_both heard xs ys))
      (subst (λ z. Run g nowhere (moment r a heard run) (xs ++ ys) (moment t c ((heard ++ heard_of (calls_of xs)) ++ heard_of (calls_of ys)) z)) (append_assoc run p.sealed q.sealed)
      (run_both g _ xs _ ys _ (p.run heard run) later));
}

-- the turn of a frame that was answered
abbrev pub turn_of : (g : Setting) (s t : State) (b c : Told) (frame : Framed) (sent : Sent) (cause : Option Cause) → Stepped g s t b c frame sent cause → Turn
turn_of g s t b c frame sent cause step = record { frame = frame; own = step.own; sent = sent; cause = cause }

-- one frame
pub runs_one : (g : Setting) (s t : State) (b c : Told) (frame : Framed) (sent : Sent) (cause : Option Cause) → (step : Stepped g s t b c frame sent cause)
    → IsEarly b.heard → Runs g s t b c (turn_of g s t b c frame sent cause step ∷ [])
runs_one g s t b c frame sent cause step few = record {
  talked = rw (append-nil step.own) step.talked;
  sealed = seals g s (request_of frame);
  run = λ heard run. (moment t c (heard ++ heard_of step.own) (run ++ seals g s (request_of frame)), few, step.step heard run, rw (append-nil step.own) refl);
}

pub ran_none : (g : Setting) (state : State) (a : Told) (at : ℕ) (out log : Option (List ℕ)) → Ran g state state a a at out out log log []
ran_none g state a at out log = record { runs = runs_none g state a; written = appends_none out; logged = appends_none log }

pub written_both : (out_a out_b out_c : Option (List ℕ)) (xs ys : List Turn) → Appends out_a out_b (out_bytes xs) → Appends out_b out_c (out_bytes ys) → Appends out_a out_c (out_bytes (xs ++ ys))
written_both out_a out_b out_c xs ys p q = rw (flat_map-both (λ (t : Turn). reply_frame t.sent) xs ys) (appends_then out_a out_b out_c (out_bytes xs) (out_bytes ys) p q)

pub logged_both : (log_a log_b log_c : Option (List ℕ)) (at : ℕ) (xs ys : List Turn) → Appends log_a log_b (log_bytes at xs) → Appends log_b log_c (log_bytes (at + turns_size xs) ys) → Appends log_a log_c (log_bytes at (xs ++ ys))
logged_both log_a log_b log_c at xs ys p q = rw (log_both at xs ys) (appends_then log_a log_b log_c (log_bytes at xs) (log_bytes (at + turns_size xs) ys) p q)

pub ran_both : (g : Setting) (r s t : State) (a b c : Told) (at : ℕ) (out_a out_b out_c log_a log_b log_c : Option (List ℕ)) (xs ys : List Turn)
    → Ran g r s a b at out_a out_b log_a log_b xs → Ran g s t b c (at + turns_size xs) out_b out_c log_b log_c ys → Ran g r t a c at out_a out_c log_a log_c (xs ++ ys)
ran_both g r s t a b c at out_a out_b out_c log_a log_b log_c xs ys p q = record {
  runs = runs_both g r s t a b c xs ys p.runs q.runs;
  written = written_both out_a out_b out_c xs ys p.written q.written;
  logged = logged_both log_a log_b log_c at xs ys p.logged q.logged;
}

-- one frame, its line and its reply written
pub ran_one : (g : Setting) (s t : State) (b c : Told) (at : ℕ) (out_b out_c log_b log_c : Option (List ℕ)) (frame : Framed) (sent : Sent) (cause : Option Cause)
    → (step : Stepped g s t b c frame sent cause) → IsEarly b.heard
    → Appends out_b out_c (reply_frame sent) → Appends log_b log_c (log_line at sent cause)
    → Ran g s t b c at out_b out_c log_b log_c (turn_of g s t b c frame sent cause step ∷ [])
ran_one g s t b c at out_b out_c log_b log_c frame sent cause step few out log = record {
  runs = runs_one g s t b c frame sent cause step few;
  written = rw (append-nil (reply_frame sent)) out;
  logged = rw (append-nil (log_line at sent cause)) log;
}

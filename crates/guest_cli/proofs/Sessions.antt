-- A session, frame by frame.
use Rattle.std.proofs.Common.{◌≡◌, ℕ, ◌+◌, ◌-◌, ◌^◌, ◌<◌, ◌≤◌, min, List, [], ◌∷◌, ◌++◌, length, refl, sym, ap, subst, ◌∙◌, append_assoc, arith, inr, Option, Some, None, Result, Ok, Err}
use Rattle.std.specs.Prelude.{◌⊎◌, OnOk, OnErr}
use Rattle.std.specs.Io.KnownBytes.{Appends}
use Rattle.std.proofs.lemmas.List.{length-append}
use Rattle.host_traits.specs.Told.{Told, Exchanges, IsHeardSize, heard_size}
use Rattle.host_traits.specs.Streams.{SomePrefix}
use Rattle.session_frames.specs.Frames.{Held, Framed, Fronts, frame, bytes_of}
use Rattle.session_frames.specs.Replies.{Sent, reply_frame}
use Rattle.verity_path.specs.declared.device.Cause.{Cause}
use Rattle.guest_rules.specs.Step.{Stepped}
use Rattle.session_frames.proofs.Heads.{held_at}
use Rattle.session_frames.proofs.Sessions.{went_not, went_on, over_not, over_on}
use Rattle.session_frames.proofs.Streams.{length_of_bytes}
use Rattle.guest_rules.specs.Machine.{Setting, State, Turn}
use Rattle.guest_rules.specs.Run.{IsEarly, Runs, Ran, frames_of, log_line, frame_size}
use Rattle.guest_rules.proofs.Runs.{turns_size, turn_of, ran_none, ran_one, ran_both, frames_both, runs_both, runs_one, written_both, logged_both}
use Rattle.guest_cli.specs.Turns.{Taken, TurnOutcome, framed}
use Rattle.guest_cli.specs.Session.{Answered, AnsweredOver, RanCut, HeardMuch, HeldOutcome, PieceOutcome}
use Rattle.guest_cli.specs.declared.session.Stop.{Stop}
use Rattle.guest_cli.specs.declared.session.Stop.TheVariants as stop

-- the frames of turns, counted in bytes
pub size_is : (turns : List Turn) → turns_size turns ≡ length (bytes_of (frames_of turns))
size_is [] = refl
size_is (t ∷ turns) = ap (λ n. frame_size t.frame + n) (size_is turns) ∙ sym (length-append (frame t.frame.channel t.frame.payload) (bytes_of (frames_of turns)))

-- what a count of heard bytes says
told_size : (h : Option Exchanges) (n : ℕ) (heard : Exchanges) → IsHeardSize h n → h ≡ Some heard → n ≡ min (heard_size heard) (2 ^ 64 - 1)
told_size h n heard is e = subst (λ (o : Option Exchanges). IsHeardSize o n) e is

few_heard : (told : Told) (n : ℕ) → IsHeardSize told.heard n → n < 1073741824 → (heard : Exchanges) → told.heard ≡ Some heard → heard_size heard < 2 ^ 30
few_heard told n is lt heard e = let m = told_size told.heard n heard is e in omega (arith, m, lt)

early_by : (h : Option Exchanges) → ((heard : Exchanges) → h ≡ Some heard → heard_size heard < 2 ^ 30) → IsEarly h
early_by None few = tt
early_by (Some heard) few = few heard refl

pub is_early : (told : Told) (n : ℕ) → IsHeardSize told.heard n → n < 1073741824 → IsEarly told.heard
is_early told n is lt = early_by told.heard (few_heard told n is lt)

-- a frame whose line was written, and its reply, or a part of it
pub turn_written : {E : Type 0} (g : Setting) (r s : State) (a b : Told) (at : ℕ) (out_a out_b log_a log_b : Option (List ℕ)) (channel : ℕ) (payload : List ℕ) (sent : Sent) (cause : Option Cause) (result : Result (Unit {0}) E)
    → Stepped g r s a b (framed channel payload) sent cause → Appends log_a log_b (log_line at sent cause)
    → OnOk result (Appends out_a out_b (reply_frame sent)) → OnErr result (SomePrefix out_a out_b (reply_frame sent)) → TurnOutcome g r s a b at out_a out_b log_a log_b channel payload result
turn_written g r s a b at out_a out_b log_a log_b channel payload sent cause (Ok u) step logged ok err = record { sent = sent; cause = cause; step = step; written = (ok, logged) }
turn_written g r s a b at out_a out_b log_a log_b channel payload sent cause (Err e) step logged ok err = record { sent = sent; cause = cause; step = step; written = inr (err, logged) }

pub much_heard : (told : Told) (n : ℕ) → IsHeardSize told.heard n → 1073741824 ≤ n → HeardMuch told
much_heard told n is le heard e = let m = told_size told.heard n heard is e in omega (arith, m, le)

pub held_start : (g : Setting) (s : State) (a : Told) (out log : Option (List ℕ)) (o : Held) → Answered g s s a a out out log log o o []
held_start g s a out log o = record { went = went_not o; ran = ran_none g s a o.at out log }

module _ (g : Setting) (r s : State) (a b : Told) (out_a out_b log_a log_b : Option (List ℕ)) (o m : Held) (turns : List Turn) (so : Answered g r s a b out_a out_b log_a log_b o m turns) where
  -- where the next frame begins
  place : m.at ≡ o.at + turns_size turns
  place = so.went.at ∙ ap (λ n. o.at + n) (sym (size_is turns))

  -- one frame more, its line and reply written
  pub held_on : (t : State) (c : Told) (out_c log_c : Option (List ℕ)) (n : Held) (channel : ℕ) (payload rest : List ℕ) → Fronts m.held channel payload rest → n ≡ held_at rest (m.at + length (frame channel payload))
      → IsEarly b.heard
      → (w : Taken g s t b c (framed channel payload) (λ sent cause. Appends out_b out_c (reply_frame sent) × Appends log_b log_c (log_line m.at sent cause)))
      → Answered g r t a c out_a out_c log_a log_c o n (turns ++ turn_of g s t b c (framed channel payload) w.sent w.cause w.step ∷ [])
  held_on t c out_c log_c n channel payload rest f is few w =
      let turn : Turn = turn_of g s t b c (framed channel payload) w.sent w.cause w.step in
      let one = ran_one g s t b c m.at out_b out_c log_b log_c (framed channel payload) w.sent w.cause w.step few w.written.0 w.written.1 in
      record {
        went = rw (frames_both turns (turn ∷ [])) (went_on o m n (frames_of turns) channel payload rest so.went f is);
        ran = ran_both g r s t a b c o.at out_a out_b out_c log_a log_b log_c turns (turn ∷ []) so.ran (subst (λ k. Ran g s t b c k out_b out_c log_b log_c (turn ∷ [])) place one);
      }

  -- the same, with the turns that it makes
  pub held_next : (t : State) (c : Told) (out_c log_c : Option (List ℕ)) (n : Held) (channel : ℕ) (payload rest : List ℕ) → Fronts m.held channel payload rest → n ≡ held_at rest (m.at + length (frame channel payload))
      → IsEarly b.heard
      → Taken g s t b c (framed channel payload) (λ sent cause. Appends out_b out_c (reply_frame sent) × Appends log_b log_c (log_line m.at sent cause))
      → (all : List Turn) × Answered g r t a c out_a out_c log_a log_c o n all
  held_next t c out_c log_c n channel payload rest f is few w = (_, held_on t c out_c log_c n channel payload rest f is few w)

  -- one frame more, its line or reply written in part
  pub held_cut : (t : State) (c : Told) (out_c log_c : Option (List ℕ)) (channel : ℕ) (payload : List ℕ) → IsEarly b.heard
      → (w : Taken g s t b c (framed channel payload) (λ sent cause. ((out_c ≡ out_b) × SomePrefix log_b log_c (log_line m.at sent cause)) ⊎ (SomePrefix out_b out_c (reply_frame sent) × Appends log_b log_c (log_line m.at sent cause))))
      → RanCut (Runs g r t a c) o.at out_a out_c log_a log_c turns (turn_of g s t b c (framed channel payload) w.sent w.cause w.step)
  held_cut t c out_c log_c channel payload few w = record {
    runs = runs_both g r s t a b c turns _ so.ran.runs (runs_one g s t b c (framed channel payload) w.sent w.cause w.step few);
    out_mid = out_b;
    written = so.ran.written;
    log_mid = log_b;
    logged = so.ran.logged;
    part = rw (← so.went.at) w.written;
  }

  -- so the session stops there
  pub held_stop : (t : State) (c : Told) (out_c log_c : Option (List ℕ)) (channel : ℕ) (payload rest : List ℕ) → Fronts m.held channel payload rest
      → IsEarly b.heard
      → Taken g s t b c (framed channel payload) (λ sent cause. ((out_c ≡ out_b) × SomePrefix log_b log_c (log_line m.at sent cause)) ⊎ (SomePrefix out_b out_c (reply_frame sent) × Appends log_b log_c (log_line m.at sent cause)))
      → HeldOutcome g r t a c out_a out_c log_a log_c o m (Err stop.Write)
  held_stop t c out_c log_c channel payload rest f few w =
      (turns, turn_of g s t b c (framed channel payload) w.sent w.cause w.step, so.went, record { rest = rest; fronts = f }, held_cut t c out_c log_c channel payload few w)

-- ---- piece by piece

pub over_start : (g : Setting) (s : State) (a : Told) (out log : Option (List ℕ)) (o : Held) → AnsweredOver g s s a a out out log log o [] o []
over_start g s a out log o = record { went = over_not o; ran = ran_none g s a o.at out log }

module _ (g : Setting) (r s : State) (a b : Told) (out_a out_b log_a log_b : Option (List ℕ)) (o m k : Held) (front part : List ℕ) (turns : List Turn)
    (so : AnsweredOver g r s a b out_a out_b log_a log_b o front m turns) (fed : k.held ≡ m.held ++ part) (same : k.at ≡ m.at) where
  -- where the frames of the next part begin
  over_place : k.at ≡ o.at + turns_size turns
  over_place = same ∙ so.went.at ∙ ap (λ n. o.at + n) (sym (size_is turns))

  -- a further part of a piece was taken, and its frames were answered
  pub over_more : (t : State) (c : Told) (out_c log_c : Option (List ℕ)) (n : Held) (later : List Turn) → Answered g s t b c out_b out_c log_b log_c k n later
      → AnsweredOver g r t a c out_a out_c log_a log_c o (front ++ part) n (turns ++ later)
  over_more t c out_c log_c n later w = record {
    went = rw (frames_both turns later) (over_on o m k n (frames_of turns) (frames_of later) front part so.went fed same w.went);
    ran = ran_both g r s t a b c o.at out_a out_b out_c log_a log_b log_c turns later so.ran (subst (λ j. Ran g s t b c j out_b out_c log_b log_c later) over_place w.ran);
  }

  pub over_cut : (t : State) (c : Told) (out_c log_c : Option (List ℕ)) (later : List Turn) (last : Turn) → RanCut (Runs g s t b c) k.at out_b out_c log_b log_c later last
      → RanCut (Runs g r t a c) o.at out_a out_c log_a log_c (turns ++ later) last
  over_cut t c out_c log_c later last w =
      let count : k.at + length (bytes_of (frames_of later)) ≡ o.at + length (bytes_of (frames_of (turns ++ later))) = omega (arith, same, so.went.at, ap (λ (f : List Framed). length (bytes_of f)) (frames_both turns later), length_of_bytes (frames_of turns) (frames_of later)) in
      record {
        runs = rw (append_assoc turns later (last ∷ [])) (runs_both g r s t a b c turns (later ++ last ∷ []) so.ran.runs w.runs);
        out_mid = w.out_mid;
        written = written_both out_a out_b w.out_mid turns later so.ran.written w.written;
        log_mid = w.log_mid;
        logged = logged_both log_a log_b w.log_mid o.at turns later so.ran.logged (rw over_place at w.logged);
        part = rw (← count) w.part;
      }

-- the frames of a further part were not all answered
pub piece_stopped : (g : Setting) (r s t : State) (a b c : Told) (out_a out_b out_c log_a log_b log_c : Option (List ℕ)) (o m k n : Held) (piece front part left : List ℕ) (turns : List Turn) (why : Stop)
    → AnsweredOver g r s a b out_a out_b log_a log_b o front m turns → k.held ≡ m.held ++ part → k.at ≡ m.at → piece ≡ (front ++ part) ++ left
    → HeldOutcome g s t b c out_b out_c log_b log_c k n (Err why) → PieceOutcome g r t a c out_a out_c log_a log_c o piece n (Err why)
piece_stopped g r s t a b c out_a out_b out_c log_a log_b log_c o m k n piece front part left turns stop.Bad so fed same parts w =
    (turns ++ w.0, front ++ part, left, parts, over_more g r s a b out_a out_b log_a log_b o m k front part turns so fed same t c out_c log_c n w.0 w.1, w.2)
piece_stopped g r s t a b c out_a out_b out_c log_a log_b log_c o m k n piece front part left turns stop.TooMuch so fed same parts w =
    (turns ++ w.0, front ++ part, left, parts, over_more g r s a b out_a out_b log_a log_b o m k front part turns so fed same t c out_c log_c n w.0 w.1, w.2)
piece_stopped g r s t a b c out_a out_b out_c log_a log_b log_c o m k n piece front part left turns stop.Write so fed same parts w = (
  turns ++ w.0,
  w.1,
  front ++ part,
  left,
  parts,
  rw (frames_both turns w.0) (over_on o m k n (frames_of turns) (frames_of w.0) front part so.went fed same w.2),
  w.3,
  over_cut g r s a b out_a out_b log_a log_b o m k front part turns so fed same t c out_c log_c w.0 w.1 w.4,
)

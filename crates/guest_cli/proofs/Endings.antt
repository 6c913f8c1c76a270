-- A session, piece by piece, and how it ends.
use Rattle.std.proofs.Common.{◌≡◌, ℕ, ◌+◌, ◌-◌, ◌<◌, ◌≤◌, List, [], ◌∷◌, ◌++◌, length, take, drop, refl, sym, ap, subst, ◌∙◌, append_assoc, arith, inl, inr, Option, Some, None, Result, Ok, Err}
use Rattle.std.specs.Io.KnownBytes.{Consumes, Keeps, IsAtEnd}
use Rattle.std.proofs.lemmas.List.{length-append, take_all, take-append-drop, append-nil}
use Rattle.std.proofs.Math.Seq.{take-append-add}
use Rattle.std.proofs.lemmas.Grind.{common_steps}
use Rattle.host_traits.specs.Told.{Told}
use Rattle.session_frames.specs.Frames.{Held, Framed, Fronts, Splits, IsCutOff, BeginsNone, frame, bytes_of}
use Rattle.session_frames.specs.Session.{WentOver, Came, SoFar}
use Rattle.session_frames.proofs.Sessions.{consumes_then, so_on, so_bound, over_bound}
use Rattle.session_frames.proofs.Streams.{splits_then, splits_on, length_of_bytes}
use Rattle.guest_rules.specs.Machine.{Setting, State, Turn}
use Rattle.guest_rules.specs.Run.{Runs, Ran, frames_of}
use Rattle.guest_rules.proofs.Runs.{turns_size as turns_length, ran_both, runs_both, written_both, logged_both, frames_both}
use Rattle.guest_cli.specs.declared.session.Stop.{Stop}
use Rattle.guest_cli.specs.declared.session.Stop.TheVariants as stop
use Rattle.guest_cli.specs.declared.session.SessionEnd.{SessionEnd}
use Rattle.guest_cli.specs.declared.session.SessionEnd.TheVariants.{Read, BadFrame, TooMuch}
use Rattle.guest_cli.specs.Session.{Streams, RanCut, AnsweredOver, IsWhole, IsFront, HeldOutcome, PieceOutcome, WhyEnded, Sits, SitsCut, IsSession, end_of, limit, in_limit, turns_size}
use Rattle.guest_cli.proofs.Sessions.{size_is, piece_stopped}

-- the same where the settings are equal
pub piece_stopped_by : (i g : Setting) (r s t : State) (a b c : Told) (out_a out_b out_c log_a log_b log_c : Option (List ℕ)) (o m k n : Held) (piece front part left : List ℕ) (turns : List Turn) (why : Stop)
    → i ≡ g → AnsweredOver g r s a b out_a out_b log_a log_b o front m turns → k.held ≡ m.held ++ part → k.at ≡ m.at → piece ≡ (front ++ part) ++ left
    → HeldOutcome i s t b c out_b out_c log_b log_c k n (Err why) → PieceOutcome g r t a c out_a out_c log_a log_c o piece n (Err why)
piece_stopped_by i g r s t a b c out_a out_b out_c log_a log_b log_c o m k n piece front part left turns why e so fed same parts w =
    piece_stopped g r s t a b c out_a out_b out_c log_a log_b log_c o m k n piece front part left turns why so fed same parts
    (subst (λ (j : Setting). HeldOutcome j s t b c out_b out_c log_b log_c k n (Err why)) e w)

fronts_on : (bytes more : List ℕ) (c : ℕ) (p rest : List ℕ) → Fronts bytes c p rest → Fronts (bytes ++ more) c p (rest ++ more)
fronts_on bytes more c p rest f = record { suits = f.suits; whole = ap (λ (t : List ℕ). t ++ more) f.whole ∙ append_assoc (frame c p) rest more }

whole_on : (bytes more : List ℕ) → IsWhole bytes → IsWhole (bytes ++ more)
whole_on bytes more w = record { channel = w.channel; payload = w.payload; rest = w.rest ++ more; fronts = fronts_on bytes more w.channel w.payload w.rest w.fronts }

front_on : (bytes more : List ℕ) (turn : Turn) → IsFront bytes turn → IsFront (bytes ++ more) turn
front_on bytes more turn w = record { rest = w.rest ++ more; fronts = fronts_on bytes more turn.frame.channel turn.frame.payload w.rest w.fronts }

none_on : (bytes more : List ℕ) → BeginsNone bytes → BeginsNone (bytes ++ more)
none_on bytes more none = λ later c p rest f. none (more ++ later) c p rest (rw (← append_assoc bytes more later) f)

-- a piece within what came
pub cut_piece : (room : List ℕ) (within got : ℕ) → within ≤ got → take got room ≡ take within room ++ drop within (take got room)
cut_piece room within got le =
    let first : take within (take got room) ≡ take within room = grind (arith, common_steps) in
    sym (take-append-drop within (take got room)) ∙ ap (λ (t : List ℕ). t ++ drop within (take got room)) first

keeps_all : (a b : Option (List ℕ)) → Keeps a b → Consumes a b []
keeps_all None b k = tt
keeps_all (Some xs) None k = absurd k
keeps_all (Some xs) (Some ys) k = sym k

abbrev pub streams : Option (List ℕ) → Option (List ℕ) → Option (List ℕ) → Streams
streams input out log = record { input = input; out = out; log = log }

-- those within the limit of what is held and of what follows
in_front : (size : ℕ) (held more : List ℕ) → size + length held ≤ limit → take (limit - size) (held ++ more) ≡ held ++ take (limit - size - length held) more
in_front size held more le =
    let room : limit - size ≡ length held + (limit - size - length held) = omega (arith, le) in
    ap (λ (n : ℕ). take n (held ++ more)) room ∙ take-append-add held more (limit - size - length held)

module _ (g : Setting) (r s : State) (a b : Told) (first left out_a out_b log_a log_b : Option (List ℕ)) (h : Held) (n : ℕ) (turns : List Turn)
    (so : SoFar first left h n (frames_of turns)) (ran : Ran g r s a b 0 out_a out_b log_a log_b turns) where
  pub came_more : (left2 : Option (List ℕ)) (full front more : List ℕ) (k : Held) (later : List Turn) → Consumes left left2 full → full ≡ front ++ more → WentOver h front k (frames_of later)
      → Came first left2 (frames_of (turns ++ later)) (so.bytes ++ full) (k.held ++ more)
  came_more left2 full front more k later came parts w =
      let two : Splits (so.bytes ++ front) (frames_of turns ++ frames_of later) k.held = splits_then so.bytes front h.held k.held (frames_of turns) (frames_of later) so.came.splits w.splits in
      let three = splits_on (so.bytes ++ front) more k.held (frames_of turns ++ frames_of later) two in
      record {
        read = consumes_then first left left2 so.bytes full so.came.read came;
        splits = rw (frames_both turns later, parts, ← append_assoc so.bytes front more) three;
      }

  start : h.at ≡ 0 + turns_size turns
  start = omega (arith, so.at)

  pub ran_more : (t : State) (c : Told) (out_c log_c : Option (List ℕ)) (later : List Turn) → Ran g s t b c h.at out_b out_c log_b log_c later → Ran g r t a c 0 out_a out_c log_a log_c (turns ++ later)
  ran_more t c out_c log_c later w = ran_both g r s t a b c 0 out_a out_b out_c log_a log_b log_c turns later ran
      (subst (λ j. Ran g s t b c j out_b out_c log_b log_c later) (omega (arith, so.at, size_is turns)) w)

  cut_more : (t : State) (c : Told) (out_c log_c : Option (List ℕ)) (later : List Turn) (last : Turn) → RanCut (Runs g s t b c) h.at out_b out_c log_b log_c later last → RanCut (Runs g r t a c) 0 out_a out_c log_a log_c (turns ++ later) last
  cut_more t c out_c log_c later last w =
      let count : h.at + turns_size later ≡ 0 + turns_size (turns ++ later) = omega (arith, so.at, ap (λ (f : List Framed). length (bytes_of f)) (frames_both turns later), length_of_bytes (frames_of turns) (frames_of later)) in
      let place : h.at ≡ 0 + turns_length turns = omega (arith, so.at, size_is turns) in
      record {
        runs = rw (append_assoc turns later (last ∷ [])) (runs_both g r s t a b c turns (later ++ last ∷ []) ran.runs w.runs);
        out_mid = w.out_mid;
        written = written_both out_a out_b w.out_mid turns later ran.written w.written;
        log_mid = w.log_mid;
        logged = logged_both log_a log_b w.log_mid 0 turns later ran.logged (rw place at w.logged);
        part = rw (← count) w.part;
      }

  size_more : (front : List ℕ) (k : Held) (later : List Turn) → WentOver h front k (frames_of later) → k.at ≡ turns_size (turns ++ later)
  size_more front k later w = omega (arith, w.at, so.at, ap (λ (f : List Framed). length (bytes_of f)) (frames_both turns later), length_of_bytes (frames_of turns) (frames_of later))

  -- the frames that were answered are within the limit, with what is held
  within_limit : (front : List ℕ) (k : Held) (later : List Turn) → WentOver h front k (frames_of later) → n + length front ≤ limit → turns_size (turns ++ later) + length k.held ≤ limit
  within_limit front k later w le = omega (arith, le, size_more front k later w, over_bound h k (frames_of later) front w, so_bound first left h n (frames_of turns) so)

  module _ (t : State) (c : Told) (left2 out_c log_c : Option (List ℕ)) (k : Held) (full front more : List ℕ) (later : List Turn)
      (came : Consumes left left2 full) (parts : full ≡ front ++ more) (le : n + length front ≤ limit) (went : WentOver h front k (frames_of later)) where
    -- what is held, and what follows it within the limit
    seen : in_limit (turns ++ later) (k.held ++ more) ≡ k.held ++ take (limit - turns_size (turns ++ later) - length k.held) more
    seen = in_front (turns_size (turns ++ later)) k.held more (within_limit front k later went le)

    sits_on : (result : Result (Unit {0}) SessionEnd) → Ran g s t b c h.at out_b out_c log_b log_c later
        → WhyEnded c left2 (so.bytes ++ full) (k.held ++ take (limit - turns_size (turns ++ later) - length k.held) more) (turns_size (turns ++ later)) result
        → Sits (Runs g r t a c) c (streams first out_a log_a) (streams left2 out_c log_c) result
    sits_on result run why = let all = ran_more t c out_c log_c later run in record {
      bytes = so.bytes ++ full;
      rest = k.held ++ more;
      turns = turns ++ later;
      came = came_more left2 full front more k later came parts went;
      within = omega (arith, within_limit front k later went le);
      runs = all.runs;
      written = all.written;
      logged = all.logged;
      why = subst (λ (z : List ℕ). WhyEnded c left2 (so.bytes ++ full) z (turns_size (turns ++ later)) result) (sym seen) why;
    }

    sits_cut : (last : Turn) → IsFront k.held last → RanCut (Runs g s t b c) h.at out_b out_c log_b log_c later last → SitsCut (Runs g r t a c) (streams first out_a log_a) (streams left2 out_c log_c)
    sits_cut last f run = record {
      bytes = so.bytes ++ full;
      rest = k.held ++ more;
      turns = turns ++ later;
      last = last;
      came = came_more left2 full front more k later came parts went;
      within = omega (arith, within_limit front k later went le);
      front = subst (λ (z : List ℕ). IsFront z last) (sym seen) (front_on k.held (take (limit - turns_size (turns ++ later) - length k.held) more) last f);
      ran = cut_more t c out_c log_c later last run;
    }

  cut_of : (full piece over front left3 : List ℕ) → full ≡ piece ++ over → piece ≡ front ++ left3 → full ≡ front ++ (left3 ++ over)
  cut_of full piece over front left3 e f = e ∙ ap (λ (x : List ℕ). x ++ over) f ∙ append_assoc front left3 over

  few_of : (piece front left3 : List ℕ) → piece ≡ front ++ left3 → n + length piece ≤ limit → n + length front ≤ limit
  few_of piece front left3 e le = omega (arith, le, ap length e, length-append front left3)

  -- the frames that are whole with a piece were not all answered
  pub ends_stopped : (t : State) (c : Told) (left2 out_c log_c : Option (List ℕ)) (k : Held) (full piece over : List ℕ) (why : Stop) (at : ℕ) → Consumes left left2 full → full ≡ piece ++ over → n + length piece ≤ limit → at ≡ k.at
      → PieceOutcome g s t b c out_b out_c log_b log_c h piece k (Err why) → IsSession (Runs g r t a c) c (streams first out_a log_a) (streams left2 out_c log_c) (Err (end_of why at))
  ends_stopped t c left2 out_c log_c k full piece over stop.Bad at came parts le is w =
      sits_on t c left2 out_c log_c k full w.1 (w.2 ++ over) w.0 came (cut_of full piece over w.1 w.2 parts w.3) (few_of piece w.1 w.2 w.3 le) w.4.went (Err (BadFrame at)) w.4.ran
      (is ∙ size_more w.1 k w.0 w.4.went, inl (none_on k.held _ w.5))
  ends_stopped t c left2 out_c log_c k full piece over stop.TooMuch at came parts le is w =
      sits_on t c left2 out_c log_c k full w.1 (w.2 ++ over) w.0 came (cut_of full piece over w.1 w.2 parts w.3) (few_of piece w.1 w.2 w.3 le) w.4.went (Err TooMuch) w.4.ran
      (inl (w.5.0, whole_on k.held _ w.5.1))
  ends_stopped t c left2 out_c log_c k full piece over stop.Write at came parts le is w =
      sits_cut t c left2 out_c log_c k full w.2 (w.3 ++ over) w.0 came (cut_of full piece over w.2 w.3 parts w.4) (few_of piece w.2 w.3 w.4 le) w.5 w.1 w.6 w.7

  -- more came than a session reads
  pub ends_past : (t : State) (c : Told) (left2 out_c log_c : Option (List ℕ)) (k : Held) (full piece over : List ℕ) (later : List Turn) → Consumes left left2 full → full ≡ piece ++ over → 0 < length over → n + length piece ≡ limit
      → AnsweredOver g s t b c out_b out_c log_b log_c h piece k later → IsCutOff k.held
      → Sits (Runs g r t a c) c (streams first out_a log_a) (streams left2 out_c log_c) (Err TooMuch)
  ends_past t c left2 out_c log_c k full piece over later came parts some count w cut =
      let bound = over_bound h k (frames_of later) piece w.went in
      let none : limit - turns_size (turns ++ later) - length k.held ≡ 0 = omega (arith, count, size_more piece k later w.went, bound, so_bound first left h n (frames_of turns) so) in
      let same : k.held ++ take (limit - turns_size (turns ++ later) - length k.held) over ≡ k.held = ap (λ (m : ℕ). k.held ++ take m over) none ∙ append-nil k.held in
      let many : limit < length (so.bytes ++ full) = omega (arith, length-append so.bytes full, ap length parts, length-append piece over, some, count, so.total_is) in
      sits_on t c left2 out_c log_c k full piece over later came parts (omega (arith, count)) w.went (Err TooMuch) w.ran
      (inr (many, subst IsCutOff (sym same) cut))

  -- the input was read no further, and what is held is its last
  pub ends_here : (left2 : Option (List ℕ)) (result : Result (Unit {0}) SessionEnd) → Consumes left left2 [] → n ≤ limit → WhyEnded b left2 so.bytes h.held (turns_size turns) result
      → Sits (Runs g r s a b) b (streams first out_a log_a) (streams left2 out_b log_b) result
  ends_here left2 result came le why =
      let bound : turns_size turns + length h.held ≤ limit = omega (arith, le, so.at, so_bound first left h n (frames_of turns) so) in
      let all : take (limit - turns_size turns) h.held ≡ h.held = take_all (limit - turns_size turns) h.held (omega (arith, bound)) in
      record {
        bytes = so.bytes;
        rest = h.held;
        turns = turns;
        came = record { read = subst (Consumes first left2) (append-nil so.bytes) (consumes_then first left left2 so.bytes [] so.came.read came); splits = so.came.splits };
        within = omega (arith, bound);
        runs = ran.runs;
        written = ran.written;
        logged = ran.logged;
        why = subst (λ (z : List ℕ). WhyEnded b left2 so.bytes z (turns_size turns) result) (sym all) why;
      }

  few_bytes : n ≤ limit → length so.bytes ≤ limit
  few_bytes le = omega (arith, le, so.total_is)

  -- the source failed
  pub ends_read : (left2 : Option (List ℕ)) → Keeps left left2 → n ≤ limit → Sits (Runs g r s a b) b (streams first out_a log_a) (streams left2 out_b log_b) (Err Read)
  ends_read left2 kept le = ends_here left2 (Err Read) (keeps_all left left2 kept) le (so.cut, few_bytes le)

  nothing_left : (xs : List ℕ) → length xs ≡ 0 → xs ≡ []
  nothing_left [] e = refl
  nothing_left (x ∷ xs) e = absurd (omega (arith, e))

  -- the input ended
  pub ends_done : (left2 : Option (List ℕ)) (room : List ℕ) → Consumes left left2 (take 0 room) → IsAtEnd left2 → n ≤ limit → length h.held ≡ 0
      → Sits (Runs g r s a b) b (streams first out_a log_a) (streams left2 out_b log_b) (Ok tt)
  ends_done left2 room came end le none = ends_here left2 (Ok tt) came le (nothing_left h.held none, end, few_bytes le)

  pub ends_inside : (left2 : Option (List ℕ)) (room : List ℕ) (at : ℕ) → Consumes left left2 (take 0 room) → IsAtEnd left2 → n ≤ limit → (length h.held ≡ 0 → ⊥) → at ≡ h.at
      → Sits (Runs g r s a b) b (streams first out_a log_a) (streams left2 out_b log_b) (Err (BadFrame at))
  ends_inside left2 room at came end le some is =
      ends_here left2 (Err (BadFrame at)) came le (is ∙ so.at, inr (λ e. some (ap length e), so.cut, end, few_bytes le))

  -- the same where the settings are equal
  pub ends_stopped_by : (i : Setting) (t : State) (c : Told) (left2 out_c log_c : Option (List ℕ)) (k : Held) (full piece over : List ℕ) (why : Stop) (at : ℕ) → i ≡ g → Consumes left left2 full → full ≡ piece ++ over → n + length piece ≤ limit → at ≡ k.at
      → PieceOutcome i s t b c out_b out_c log_b log_c h piece k (Err why) → IsSession (Runs g r t a c) c (streams first out_a log_a) (streams left2 out_c log_c) (Err (end_of why at))
  ends_stopped_by i t c left2 out_c log_c k full piece over why at e came parts le is w =
      ends_stopped t c left2 out_c log_c k full piece over why at came parts le is (subst (λ (j : Setting). PieceOutcome j s t b c out_b out_c log_b log_c h piece k (Err why)) e w)

  pub goes_on : (t : State) (c : Told) (left2 out_c log_c : Option (List ℕ)) (k : Held) (piece : List ℕ) (m : ℕ) (later : List Turn) → Consumes left left2 piece → AnsweredOver g s t b c out_b out_c log_b log_c h piece k later → IsCutOff k.held → m ≡ n + length piece
      → (all : List Turn) × SoFar first left2 k m (frames_of all) × Ran g r t a c 0 out_a out_c log_a log_c all
  goes_on t c left2 out_c log_c k piece m later came w cut is =
      (turns ++ later, rw (frames_both turns later) (so_on first left left2 h k n m (frames_of turns) (frames_of later) piece so came w.went cut is), ran_more t c out_c log_c later w.ran)

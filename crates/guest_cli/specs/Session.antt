-- How a session ends, and what it has done.
use Rattle.std.specs.Prelude.{◌≡◌, ◌≢◌, ℕ, ◌^◌, ◌+◌, ◌-◌, ◌<◌, ◌≤◌, List, [], ◌∷◌, ◌++◌, length, take, Option, Some, Result, Ok, Err, ◌⊎◌}
use Rattle.std.specs.Io.KnownBytes.{Appends, IsAtEnd}
use Rattle.host_traits.specs.Streams.{SomePrefix}
use Rattle.host_traits.specs.Told.{Told, Exchanges, heard_size}
use Rattle.session_frames.specs.Frames.{Held, Fronts, IsCutOff, BeginsNone, bytes_of}
use Rattle.session_frames.specs.Session.{Went, WentOver, Came}
use Rattle.session_frames.specs.Replies.{reply_frame}
use Rattle.guest_rules.specs.Machine.{Setting, State, Turn}
use Rattle.guest_rules.specs.Run.{Runs, Ran, frames_of, out_bytes, log_bytes, log_line}
use Rattle.guest_cli.specs.declared.session.SessionEnd.{SessionEnd}
use Rattle.guest_cli.specs.declared.session.SessionEnd.TheVariants.{Read, Write, BadFrame, TooMuch}
use Rattle.guest_cli.specs.declared.session.Stop.{Stop}
use Rattle.guest_cli.specs.declared.session.Stop.TheVariants as stop

-- the streams of a run: what the source has left, and what the two sinks hold
pub record Streams : Type 0 where
  pub input : Option (List ℕ)
  pub out : Option (List ℕ)
  pub log : Option (List ℕ)

-- how many bytes the frames of turns have
abbrev pub turns_size : List Turn → ℕ
turns_size turns = length (bytes_of (frames_of turns))

-- the most bytes that a session reads or hears
abbrev pub limit : ℕ
limit = 2 ^ 30

-- at least 2 ^ 30 bytes were heard
abbrev pub HeardMuch : Told → Type 0
HeardMuch told = (heard : Exchanges) → told.heard ≡ Some heard → limit ≤ heard_size heard

-- Frames were answered in these turns and then in a last one, whose line or reply went out in part: all else was written.
-- R says what the turns are.
pub record RanCut (R : List Turn → Type 0) (at : ℕ) (out_old out_new log_old log_new : Option (List ℕ)) (turns : List Turn) (last : Turn) : Type 0 where
  pub runs : R (turns ++ last ∷ [])
  pub out_mid : Option (List ℕ)
  pub written : Appends out_old out_mid (out_bytes turns)
  pub log_mid : Option (List ℕ)
  pub logged : Appends log_old log_mid (log_bytes at turns)
  pub part : ((out_new ≡ out_mid) × SomePrefix log_mid log_new (log_line (at + turns_size turns) last.sent last.cause))
      ⊎ (SomePrefix out_mid out_new (reply_frame last.sent) × Appends log_mid log_new (log_line (at + turns_size turns) last.sent last.cause))

-- what was done with the frames at the front of what is held
pub record Answered (g : Setting) (old_state new_state : State) (old new : Told) (out_old out_new log_old log_new : Option (List ℕ)) (held_old held_new : Held) (turns : List Turn) : Type 0 where
  pub went : Went held_old held_new (frames_of turns)
  pub ran : Ran g old_state new_state old new held_old.at out_old out_new log_old log_new turns

-- the same of what is held and then a piece
pub record AnsweredOver (g : Setting) (old_state new_state : State) (old new : Told) (out_old out_new log_old log_new : Option (List ℕ)) (held_old : Held) (piece : List ℕ) (held_new : Held) (turns : List Turn) : Type 0 where
  pub went : WentOver held_old piece held_new (frames_of turns)
  pub ran : Ran g old_state new_state old new held_old.at out_old out_new log_old log_new turns

-- a frame that is whole in front
pub record IsWhole (bytes : List ℕ) : Type 0 where
  pub channel : ℕ
  pub payload : List ℕ
  pub rest : List ℕ
  pub fronts : Fronts bytes channel payload rest

-- the frame of a turn is whole in front
pub record IsFront (bytes : List ℕ) (turn : Turn) : Type 0 where
  pub rest : List ℕ
  pub fronts : Fronts bytes turn.frame.channel turn.frame.payload rest

-- why the frames at the front were not all answered: what was heard is counted once the next frame is whole
abbrev pub WhyStopped : Stop → Told → List ℕ → Type 0
WhyStopped stop.Bad told held = BeginsNone held
WhyStopped stop.TooMuch told held = HeardMuch told × IsWhole held
WhyStopped stop.Write told held = ⊥

-- what came of the frames at the front of what is held
abbrev pub HeldOutcome : Setting → State → State → Told → Told → Option (List ℕ) → Option (List ℕ) → Option (List ℕ) → Option (List ℕ) → Held → Held → Result (Unit {0}) Stop → Type 0
HeldOutcome g r s a b out_a out_b log_a log_b o n (Ok _) = (turns : List Turn) × Answered g r s a b out_a out_b log_a log_b o n turns × IsCutOff n.held
HeldOutcome g r s a b out_a out_b log_a log_b o n (Err stop.Write) = (turns : List Turn) × (last : Turn) × Went o n (frames_of turns) × IsFront n.held last × RanCut (Runs g r s a b) o.at out_a out_b log_a log_b turns last
HeldOutcome g r s a b out_a out_b log_a log_b o n (Err why) = (turns : List Turn) × Answered g r s a b out_a out_b log_a log_b o n turns × WhyStopped why b n.held

-- what came of the frames that are whole with a piece
abbrev pub PieceOutcome : Setting → State → State → Told → Told → Option (List ℕ) → Option (List ℕ) → Option (List ℕ) → Option (List ℕ) → Held → List ℕ → Held → Result (Unit {0}) Stop → Type 0
PieceOutcome g r s a b out_a out_b log_a log_b o piece n (Ok _) = (turns : List Turn) × AnsweredOver g r s a b out_a out_b log_a log_b o piece n turns × IsCutOff n.held
PieceOutcome g r s a b out_a out_b log_a log_b o piece n (Err stop.Write) = (turns : List Turn) × (last : Turn) × (front : List ℕ) × (left : List ℕ) × (piece ≡ front ++ left)
    × WentOver o front n (frames_of turns) × IsFront n.held last × RanCut (Runs g r s a b) o.at out_a out_b log_a log_b turns last
PieceOutcome g r s a b out_a out_b log_a log_b o piece n (Err why) = (turns : List Turn) × (front : List ℕ) × (left : List ℕ) × (piece ≡ front ++ left)
    × AnsweredOver g r s a b out_a out_b log_a log_b o front n turns × WhyStopped why b n.held

-- of the bytes behind the frames of some turns, those within the limit
abbrev pub in_limit : List Turn → List ℕ → List ℕ
in_limit turns rest = take (limit - turns_size turns) rest

-- no frame begins with these bytes, or the input ends inside one and within the limit
abbrev pub IsBad : Option (List ℕ) → List ℕ → List ℕ → Type 0
IsBad left bytes front = BeginsNone front ⊎ ((front ≢ []) × IsCutOff front × IsAtEnd left × (length bytes ≤ limit))

-- so much was heard before the next frame, which is whole, or more bytes came and those within the limit end inside a frame
-- or at its border
abbrev pub IsMuch : Told → List ℕ → List ℕ → Type 0
IsMuch told bytes front = (HeardMuch told × IsWhole front) ⊎ ((limit < length bytes) × IsCutOff front)

-- Why a session ended, by the bytes that came, and by those within the limit that follow the frames that were answered. Ok: the
-- input was read to its end, at a frame's border. Read: what is left is no whole frame, and may become one. BadFrame: the
-- next frame begins at this offset. TooMuch: a limit was reached.
abbrev pub WhyEnded : Told → Option (List ℕ) → List ℕ → List ℕ → ℕ → Result (Unit {0}) SessionEnd → Type 0
WhyEnded told left bytes front next (Ok _) = (front ≡ []) × IsAtEnd left × (length bytes ≤ limit)
WhyEnded told left bytes front next (Err Read) = IsCutOff front × (length bytes ≤ limit)
WhyEnded told left bytes front next (Err (BadFrame at)) = (at ≡ next) × IsBad left bytes front
WhyEnded told left bytes front next (Err TooMuch) = IsMuch told bytes front
WhyEnded told left bytes front next (Err Write) = ⊥

-- A session that ended so: the frames that were answered are whole within the limit, and this is why no other was.
pub record Sits (R : List Turn → Type 0) (told : Told) (old new : Streams) (result : Result (Unit {0}) SessionEnd) : Type 0 where
  pub bytes : List ℕ
  pub rest : List ℕ
  pub turns : List Turn
  pub came : Came old.input new.input (frames_of turns) bytes rest
  pub within : turns_size turns ≤ limit
  pub runs : R turns
  pub written : Appends old.out new.out (out_bytes turns)
  pub logged : Appends old.log new.log (log_bytes 0 turns)
  pub why : WhyEnded told new.input bytes (in_limit turns rest) (turns_size turns) result

-- A session whose output or log failed: the frame of the last turn, whose line or reply went out in part, is whole within the
-- limit too.
pub record SitsCut (R : List Turn → Type 0) (old new : Streams) : Type 0 where
  pub bytes : List ℕ
  pub rest : List ℕ
  pub turns : List Turn
  pub last : Turn
  pub came : Came old.input new.input (frames_of turns) bytes rest
  pub within : turns_size turns ≤ limit
  pub front : IsFront (in_limit turns rest) last
  pub ran : RanCut R 0 old.out new.out old.log new.log turns last

-- a session that ended so, by what the host told after it
abbrev pub IsSession : (List Turn → Type 0) → Told → Streams → Streams → Result (Unit {0}) SessionEnd → Type 0
IsSession R told old new (Err Write) = SitsCut R old new
IsSession R told old new result = Sits R told old new result

-- what a stop at this offset ends a session with
abbrev pub end_of : Stop → ℕ → SessionEnd
end_of stop.Bad at = BadFrame at
end_of stop.Write at = Write
end_of stop.TooMuch at = TooMuch

-- What came of one frame.
use Rattle.std.specs.Prelude.{◌≡◌, ℕ, List, Option, Result, Ok, Err, ◌⊎◌}
use Rattle.std.specs.Io.KnownBytes.{Appends}
use Rattle.host_traits.specs.Streams.{SomePrefix}
use Rattle.host_traits.specs.Told.{Told}
use Rattle.session_frames.specs.Frames.{Framed}
use Rattle.session_frames.specs.Replies.{Sent, reply_frame}
use Rattle.verity_path.specs.declared.device.Cause.{Cause}
use Rattle.guest_rules.specs.Machine.{Setting, State}
use Rattle.guest_rules.specs.Step.{Stepped}
use Rattle.guest_rules.specs.Run.{log_line}

abbrev pub framed : ℕ → List ℕ → Framed
framed channel payload = record { channel = channel; payload = payload }

-- a frame was answered, and its line and its reply were written, or a part of the two
pub record Taken (g : Setting) (old_state new_state : State) (old new : Told) (frame : Framed) (Written : Sent → Option Cause → Type 0) : Type 0 where
  pub sent : Sent
  pub cause : Option Cause
  pub step : Stepped g old_state new_state old new frame sent cause
  pub written : Written sent cause

abbrev pub TurnOutcome : {E : Type 0} → Setting → State → State → Told → Told → ℕ → Option (List ℕ) → Option (List ℕ) → Option (List ℕ) → Option (List ℕ) → ℕ → List ℕ → Result (Unit {0}) E → Type 0
TurnOutcome g r s a b at out_a out_b log_a log_b channel payload (Ok _) = Taken g r s a b (framed channel payload) (λ sent cause. Appends out_a out_b (reply_frame sent) × Appends log_a log_b (log_line at sent cause))
TurnOutcome g r s a b at out_a out_b log_a log_b channel payload (Err _) = Taken g r s a b (framed channel payload) (λ sent cause.
    ((out_b ≡ out_a) × SomePrefix log_a log_b (log_line at sent cause)) ⊎ (SomePrefix out_a out_b (reply_frame sent) × Appends log_a log_b (log_line at sent cause)))

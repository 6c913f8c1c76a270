-- One request of a run.
use Rattle.std.specs.Prelude.{◌≡◌, ℕ, ◌≤◌, List, [], ◌++◌, length, slice_get, Option, Some, None}
use Rattle.host_traits.specs.declared.calls.Call.{Call}
use Rattle.host_traits.specs.Told.{Told, Talked, Made, Exchanges, heard_of, failures_of}
use Rattle.host_traits.specs.Did.{Trace, trace_of, Each, reads, StopsAtFailure}
use Rattle.session_frames.specs.Frames.{Framed}
use Rattle.session_frames.specs.Replies.{Sent}
use Rattle.verity_path.specs.declared.device.Cause.{Cause}
use Rattle.verity_path.specs.declared.device.Device.{Device}
use Rattle.verity_path.specs.Range.{most_answers}
use Rattle.fuse_server.specs.Aims.{aim_of}
use Rattle.fuse_server.specs.Rows.{IsForFuse, most_for_fuse}
use Rattle.instance_image.specs.Sealings.{Sealing}
use Rattle.guest_rules.specs.Machine.{Setting, State, ItemRead, Request, message_of, read_of, get_of, put_of, request_of, Moment, moment, Turn, World, nowhere, size_of}
use Rattle.guest_rules.specs.ItemRow.{IsForItem, ItemRow}
use Rattle.guest_rules.specs.MessageRow.{Heard, MessageRow}
use Rattle.guest_rules.specs.RecordRow.{GetRow, PutRow, IsForGet, IsForPut, put_sealings}

-- the calls that a request may make, in this state, and what each hands over
abbrev pub IsFor : Setting → State → Request → Call → List ℕ → Type 0
IsFor g s (message_of m) call given = IsForFuse (aim_of s.fuse m) call given
IsFor g s (read_of r) call given = (it : Device) × (slice_get g.items r.item ≡ Some it) × reads (IsForItem it r) call given
IsFor g s (get_of uuid) call given = IsForGet g.image s.parts uuid call given
IsFor g s (put_of uuid text) call given = IsForPut g.image s uuid text call given

-- the most calls that a request makes, failed ones counted
abbrev pub answers_of : Option Device → ItemRead → ℕ
answers_of None r = 0
answers_of (Some it) r = most_answers it.measure (size_of it) r.offset r.size

abbrev pub most_for : Setting → State → Request → ℕ
most_for g s (message_of m) = most_for_fuse (aim_of s.fuse m)
most_for g s (read_of r) = answers_of (slice_get g.items r.item) r
most_for g s (get_of uuid) = 1
most_for g s (put_of uuid text) = 1

-- what a request seals: a put alone seals, and one text at most
abbrev pub seals : Setting → State → Request → List Sealing
seals g s (message_of m) = []
seals g s (read_of r) = []
seals g s (get_of uuid) = []
seals g s (put_of uuid text) = put_sealings g.image s uuid text

-- The reply, its cause and the new state of a request, in a world and behind what this run has sealed. A message takes no entropy
-- and changes no partition; a read or a get changes nothing; a put changes no name and no handle.
abbrev pub Row : Setting → World → List Sealing → Heard → Request → State → State → Sent → Option Cause → Type 0
Row g world run h (message_of m) old new sent cause = (new.entropy ≡ old.entropy) × (new.parts ≡ old.parts) × MessageRow world h m old.fuse new.fuse sent cause
Row g world run h (read_of r) old new sent cause = (new ≡ old) × ItemRow g.items world h.trace r sent cause
Row g world run h (get_of uuid) old new sent cause = (new ≡ old) × GetRow g.image old.parts world run h.trace uuid sent cause
Row g world run h (put_of uuid text) old new sent cause = PutRow g.image h.trace uuid text old new sent cause

-- the answers to a turn's own calls, and how many of its calls failed: what was heard before says nothing of its reply
abbrev pub trace : Moment → Turn → Moment → Trace
trace old turn new = trace_of (heard_of turn.own) (failures_of turn.own) old.told new.told

-- such answers, with what the host told that it holds
abbrev pub heard_around : Trace → Told → Told → Heard
heard_around t old new = record { trace = t; before = old.held; after = new.held }

abbrev pub heard_in : Moment → Turn → Moment → Heard
heard_in old turn new = heard_around (trace old turn new) old.told new.told

-- one request, from a moment to the next: these calls were made, and no other; each belongs to the request, and none follows one
-- that failed; and what came of them
pub record Step (g : Setting) (world : World) (old : Moment) (turn : Turn) (new : Moment) : Type 0 where
  pub talked : Talked old.told new.told turn.own
  pub heard : new.heard ≡ old.heard ++ heard_of turn.own
  pub sealings : new.sealings ≡ old.sealings ++ seals g old.state (request_of turn.frame)
  pub calls : Each (IsFor g old.state (request_of turn.frame)) turn.own
  pub few : length turn.own ≤ most_for g old.state (request_of turn.frame)
  pub stops : StopsAtFailure turn.own
  pub row : Row g world old.sealings (heard_in old turn new) (request_of turn.frame) old.state new.state turn.sent turn.cause

-- a request was answered by its own calls, whatever was heard and sealed before
pub record Stepped (g : Setting) (old_state new_state : State) (old new : Told) (frame : Framed) (sent : Sent) (cause : Option Cause) : Type 0 where
  pub own : List Made
  pub talked : Talked old new own
  pub step : (heard : Exchanges) (run : List Sealing)
      → Step g nowhere (moment old_state old heard run) (record { frame = frame; own = own; sent = sent; cause = cause })
      (moment new_state new (heard ++ heard_of own) (run ++ seals g old_state (request_of frame)))

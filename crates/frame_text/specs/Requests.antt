-- Requests: as lines of a text, and as frames of a stream.
use Rattle.std.specs.Prelude.{◌≡◌, ◌==◌, ℕ, List, length, take, drop, flat_map, if◌then◌else◌}
use Rattle.std.specs.List.{AllByRecursion}
use Rattle.hex.specs.Hex.{IsBytes}
use Rattle.text_lines.specs.Spelling.{ended}
use Rattle.session_frames.specs.Frames.{Framed, IsPayload, frame, bytes_of}
use Rattle.guest_rules.specs.Machine.{item_read}
use Rattle.frame_text.specs.Spelling.{message_line, read_line, get_line, put_line}

-- a frame of a request: bytes, as many as a payload of its channel has
pub record IsRequest (f : Framed) : Type 0 where
  pub suits : IsPayload f.channel (length f.payload)
  pub bytes : IsBytes f.payload

abbrev pub AreRequests : List Framed → Type 0
AreRequests frames = AllByRecursion IsRequest frames

abbrev pub frame_bytes : Framed → List ℕ
frame_bytes f = frame f.channel f.payload

-- the line of a frame: a message of FUSE, a read of an item, a get of a record, or a put of a text into one
abbrev pub line_on : ℕ → List ℕ → List ℕ
line_on channel payload =
    if channel == 0 then message_line payload
    else if channel == 1 then read_line (item_read payload)
    else if channel == 2 then get_line payload
    else put_line (take 16 payload) (drop 16 payload)

abbrev pub line_of : Framed → List ℕ
line_of f = line_on f.channel f.payload

-- a line for each frame, with its line feed
abbrev pub spelled : List Framed → List ℕ
spelled frames = flat_map (λ f. ended (line_of f)) frames

-- the text and the bytes are those of the same requests
pub record AreSame (text bytes : List ℕ) : Type 0 where
  pub frames : List Framed
  pub each : AreRequests frames
  pub text_is : text ≡ spelled frames
  pub bytes_is : bytes ≡ bytes_of frames

-- What a line says, and the first fault of a text and of a stream.
use Rattle.std.specs.Prelude.{◌≡◌, ◌<◌, ◌+◌, ◌^◌, ℕ, List, [], ◌++◌, length, codes, not, ◌&&◌, nat_lt, Option, Some, None, Result, Ok, Err, if◌then◌else◌}
use Rattle.std.specs.Int.{w32, w64, to_le_bytes}
use Rattle.std.specs.Str.{bytes_eq}
use Rattle.hex.specs.Hex.{decode_of}
use Rattle.text_lines.specs.declared.kinds.PlanKind.{PlanKind}
use Rattle.text_lines.specs.declared.kinds.PlanKind.TheVariants as kinds
use Rattle.text_lines.specs.declared.kinds.PlanFault.{PlanFault}
use Rattle.text_lines.specs.declared.kinds.PlanFault.TheVariants as faults
use Rattle.text_lines.specs.Fields.{◌>>=◌, cut, first_field, two_fields, three_fields, four_fields}
use Rattle.text_lines.specs.Values.{again_from, check, number_in}
use Rattle.session_frames.specs.Frames.{Framed, IsCutOff, BeginsNone, bytes_of}
use Rattle.guest_plan.specs.Items.{uuid_of}
use Rattle.guest_rules.specs.Machine.{ItemRead}
use Rattle.frame_text.specs.declared.faults.FrameKind.{FrameKind}
use Rattle.frame_text.specs.declared.faults.FrameKind.TheVariants as frame_kinds
use Rattle.frame_text.specs.declared.faults.FrameFault.{FrameFault}
use Rattle.frame_text.specs.declared.faults.FrameFault.TheVariants as frame_faults
use Rattle.frame_text.specs.declared.reading.RequestLine.{RequestLine}
use Rattle.frame_text.specs.declared.reading.RequestLine.TheVariants as lines
use Rattle.frame_text.specs.Requests.{AreRequests, spelled}

abbrev pub framed : ℕ → List ℕ → Framed
framed channel payload = record { channel = channel; payload = payload }

abbrev pub read_with : ℕ → ℕ → ℕ → ItemRead
read_with item offset size = record { item = item; offset = offset; size = size }

-- the payload of a read
abbrev pub payload_with : ℕ → ℕ → ℕ → List ℕ
payload_with item offset size = to_le_bytes w32 item ++ to_le_bytes w64 offset ++ to_le_bytes w32 size

-- bytes as HEX
unfoldable pub digits_of : List ℕ → Result (List ℕ) PlanKind
digits_of text =
    if bytes_eq text (codes "-") then Ok []
    else if nat_lt 0 (length text) then again_from text (decode_of text)
    else Err kinds.Hex

-- at least so many of them, and at most so many
unfoldable pub bytes_in : ℕ → ℕ → List ℕ → Result (List ℕ) PlanKind
bytes_in least most text = do
  bytes ← digits_of text
  check (not (nat_lt (length bytes) least) && not (nat_lt most (length bytes))) kinds.Range bytes

unfoldable pub message_of : List ℕ → Result Framed PlanKind
message_of line = do
  fields ← two_fields line
  bytes ← bytes_in 40 135168 fields.1
  Ok (framed 0 bytes)

unfoldable pub read_of : List ℕ → Result Framed PlanKind
read_of line = do
  fields ← four_fields line
  item ← number_in 0 (2 ^ 32) fields.1
  offset ← number_in 0 (2 ^ 64) fields.2
  size ← number_in 0 (2 ^ 32) fields.3
  Ok (framed 1 (payload_with item offset size))

unfoldable pub get_of : List ℕ → Result Framed PlanKind
get_of line = do
  fields ← two_fields line
  uuid ← uuid_of fields.1
  Ok (framed 2 uuid.0)

unfoldable pub put_of : List ℕ → Result Framed PlanKind
put_of line = do
  fields ← three_fields line
  uuid ← uuid_of fields.1
  text ← bytes_in 0 135152 fields.2
  Ok (framed 3 (uuid.0 ++ text))

-- the frame that a line says, or the first thing wrong with it
unfoldable pub frame_of : List ℕ → Result Framed PlanKind
frame_of line =
    if bytes_eq (first_field line) (codes "message") then message_of line
    else if bytes_eq (first_field line) (codes "read") then read_of line
    else if bytes_eq (first_field line) (codes "get") then get_of line
    else if bytes_eq (first_field line) (codes "put") then put_of line
    else Err kinds.Word

-- the frame of a line that is read
abbrev pub framed_by : RequestLine → Framed
framed_by (lines.Message bytes) = framed 0 bytes.items
framed_by (lines.Read item offset size) = framed 1 (payload_with item offset size)
framed_by (lines.Get uuid) = framed 2 uuid.0
framed_by (lines.Put uuid text) = framed 3 (uuid.0 ++ text.items)

-- the same of the first line of what is left: it ends in a line feed
abbrev pub first_of : Option (List ℕ × List ℕ) → Result Framed PlanKind
first_of None = Err kinds.End
first_of (Some x) = frame_of x.0

-- requests are spelled before this line, which is the first bad one, and the kind is the first thing wrong with it
pub record IsBadLine (text : List ℕ) (line : ℕ) (kind : PlanKind) : Type 0 where
  pub frames : List Framed
  pub rest : List ℕ
  pub each : AreRequests frames
  pub text_is : text ≡ spelled frames ++ rest
  pub line_is : line ≡ length frames + 1
  pub some : 0 < length rest
  pub fault : first_of (cut 10 rest) ≡ Err kind

abbrev pub BreaksText : List ℕ → PlanFault → Type 0
BreaksText text (faults.At line kind) = IsBadLine text line kind
BreaksText text faults.Memory = Unit {0}

-- no frame is in front: a part of one, or none
abbrev pub IsWrong : List ℕ → FrameKind → Type 0
IsWrong rest frame_kinds.End = IsCutOff rest
IsWrong rest frame_kinds.Frame = BeginsNone rest

-- frames of requests stand before this byte, and what begins there is no such frame
pub record IsBadFrame (bytes : List ℕ) (byte : ℕ) (kind : FrameKind) : Type 0 where
  pub frames : List Framed
  pub rest : List ℕ
  pub each : AreRequests frames
  pub bytes_is : bytes ≡ bytes_of frames ++ rest
  pub byte_is : byte ≡ length (bytes_of frames)
  pub some : 0 < length rest
  pub fault : IsWrong rest kind

abbrev pub BreaksFrames : List ℕ → FrameFault → Type 0
BreaksFrames bytes (frame_faults.At byte kind) = IsBadFrame bytes byte kind
BreaksFrames bytes frame_faults.Memory = Unit {0}

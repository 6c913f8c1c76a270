-- The frames of replies.
use Rattle.std.specs.Prelude.{◌≡◌, ℕ, List, [], ◌++◌, Option, Some, None}
use Rattle.std.specs.Int.{w32, to_le_bytes}
use Rattle.fuse_codec.specs.Reply.{Answer, silent, reply_bytes}
use Rattle.fuse_codec.specs.declared.reply.FuseReply.{FuseReply}
use Rattle.fuse_codec.specs.Sent.{unique_of, answer_of, sent}
use Rattle.session_frames.specs.Frames.{frame}
use Rattle.session_frames.specs.declared.reply.ReplyFrame.{ReplyFrame}
use Rattle.session_frames.specs.declared.reply.ReplyFrame.TheVariants.{Fuse, Bytes, Text, Code}

-- a reply: none, that to a message of FUSE, the bytes of a measured read, the text of a record, or a code on a channel
pub data Sent : Type 0 where
  sent_nothing : Sent
  sent_answer : (unique : ℕ) (answer : Answer) → Sent
  sent_bytes : List ℕ → Sent
  sent_text : List ℕ → Sent
  sent_code : ℕ → ℕ → Sent

-- the reply to the message of this number: none where its answer is silent
abbrev pub message_sent : ℕ → Answer → Sent
message_sent unique silent = sent_nothing
message_sent unique answer = sent_answer unique answer

-- the frame of the bytes of a reply to a message: none where there are none
abbrev pub frame_if : Option (List ℕ) → List ℕ
frame_if None = []
frame_if (Some bytes) = frame 0 bytes

-- its frame: the reply to a message alone, or a code of four bytes, and after code 0 of channel 1 the bytes, of channel 2 the text
abbrev pub reply_frame : Sent → List ℕ
reply_frame sent_nothing = []
reply_frame (sent_answer unique answer) = frame_if (reply_bytes unique answer)
reply_frame (sent_bytes bytes) = frame 1 (to_le_bytes w32 0 ++ bytes)
reply_frame (sent_text text) = frame 2 (to_le_bytes w32 0 ++ text)
reply_frame (sent_code channel code) = frame channel (to_le_bytes w32 code)

-- a reply, with the bytes that it sends
abbrev pub sent_of : ReplyFrame → List ℕ → Sent
sent_of (Fuse reply) served = sent_answer (unique_of reply) (answer_of reply served)
sent_of Bytes served = sent_bytes served
sent_of (Text text) served = sent_text text
sent_of (Code channel code) served = sent_code channel code

-- the same where there may be none
abbrev pub sent_if : Option ReplyFrame → List ℕ → Sent
sent_if None served = sent_nothing
sent_if (Some reply) served = sent_of reply served

-- A reply to a message is that of its answer, which is never silent, and its frame has the reply's bytes.
pub record RepliesAreSent : Type 0 where
  pub message : (r : FuseReply) (served : List ℕ) → sent_of (Fuse r) served ≡ message_sent (unique_of r) (answer_of r served)
  pub bytes : (r : FuseReply) (served : List ℕ) → reply_frame (sent_of (Fuse r) served) ≡ frame 0 (sent r served)

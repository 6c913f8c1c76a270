-- The reply to a message of FUSE, as the frame that is written.
use Rattle.std.proofs.Common.{◌≡◌, ℕ, List, [], ◌∷◌, ◌++◌, length, Option, refl, ap, subst}
use Rattle.std.specs.Int.{w32, to_le_bytes}
use Rattle.fuse_codec.specs.declared.reply.FuseReply.{FuseReply}
use Rattle.fuse_codec.specs.declared.reply.FuseReply.TheVariants as reply
use Rattle.fuse_codec.specs.Sent.{unique_of, answer_of, answered, sent}
use Rattle.fuse_codec.proofs.Replies.{never_silent}
use Rattle.session_frames.specs.Frames.{frame}
use Rattle.session_frames.specs.Replies.{sent_of, message_sent, reply_frame, frame_if}
use Rattle.session_frames.specs.declared.reply.ReplyFrame.TheVariants.{Fuse}

pub message_of : (r : FuseReply) (served : List ℕ) → sent_of (Fuse r) served ≡ message_sent (unique_of r) (answer_of r served)
message_of (reply.Error unique errno) served = refl
message_of other served = refl

-- what is sent is the reply to the message of its number: a reply is never silent
pub message_is : (r : FuseReply) (served : List ℕ) (u : ℕ) → unique_of r ≡ u → sent_of (Fuse r) served ≡ message_sent u (answer_of r served)
message_is r served u e = subst (λ (n : ℕ). sent_of (Fuse r) served ≡ message_sent n (answer_of r served)) e (message_of r served)

-- its frame has the reply's bytes
pub bytes_of_frame : (r : FuseReply) (served : List ℕ) → reply_frame (sent_of (Fuse r) served) ≡ frame 0 (sent r served)
bytes_of_frame r served = ap (λ (b : Option (List ℕ)). frame_if b) (never_silent r served)

-- the first eight bytes and then the reply are its frame
pub whole : (r : FuseReply) (served : List ℕ) (len : ℕ) (front : List ℕ) → front ≡ to_le_bytes w32 len ++ 0 ∷ 0 ∷ 0 ∷ 0 ∷ [] → len ≡ length (sent r served) → front ++ sent r served ≡ frame_if (answered r served)
whole r served len front e f = rw (never_silent r served, e, f) refl

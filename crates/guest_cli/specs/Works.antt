-- What contracts see of the engine, and the answer to a read.
use Rattle.std.specs.Prelude.{ℕ, List, [], Option, Result, Ok, Err, Some, None}
use Rattle.session_frames.specs.declared.reply.ReplyFrame.{ReplyFrame}
use Rattle.session_frames.specs.declared.reply.ReplyFrame.TheVariants.{Fuse, Bytes, Text, Code}
use Rattle.verity_path.specs.declared.device.Cause.TheVariants as cause
use Rattle.verity_path.specs.declared.walk.WalkFault.{WalkFault}
use Rattle.verity_path.specs.declared.walk.WalkFault.TheVariants as fault
use Rattle.fuse_codec.specs.declared.reply.FuseReply.{FuseReply}
use Rattle.instance_image.specs.declared.faults.GetFault.{GetFault}
use Rattle.instance_image.specs.declared.faults.GetFault.TheVariants as gets
use Rattle.instance_image.specs.declared.values.Part.{Part}
use Rattle.guest_rules.specs.Machine.{Instance, Setting, State}
use Rattle.guest_cli.specs.declared.engine.FrameAnswer.{FrameAnswer}
use Rattle.guest_cli.specs.declared.records.Records.{Records}

-- what no request changes, the machine's state, and the bytes that a reply sends
pub record Works : Type 0 where
  pub setting : Setting
  pub state : State
  pub served : List ℕ

-- where the image of some records lies, with its salt and its secret; and its partitions
abbrev pub instance_of : Option Records → Option Instance
instance_of None = None
instance_of (Some r) = Some (record { disk = r.image.disk; first = r.image.first; salt = r.image.salt; secret = r.secret })

abbrev pub parts_of : Option Records → List Part
parts_of None = []
parts_of (Some r) = r.image.parts

-- the answer to a read that ended so
abbrev pub answer_to_read : Result (Unit {0}) WalkFault → FrameAnswer
answer_to_read (Ok _) = record { reply = Some Bytes; cause = None }
answer_to_read (Err (fault.Mismatch x)) = record { reply = Some (Code 1 5); cause = Some (cause.Mismatch x) }
answer_to_read (Err (fault.Short asked got)) = record { reply = Some (Code 1 5); cause = Some (cause.Short asked got) }
answer_to_read (Err (fault.Failed faults)) = record { reply = Some (Code 1 5); cause = Some (cause.Failed faults) }
answer_to_read (Err fault.Memory) = record { reply = Some (Code 1 12); cause = None }

-- the frame of a reply to a message, where there is one
abbrev pub message_frame : Option FuseReply → Option ReplyFrame
message_frame None = None
message_frame (Some reply) = Some (Fuse reply)

-- the frame of the reply to a get that ended so
abbrev pub get_reply : Result (List ℕ) GetFault → ReplyFrame
get_reply (Ok text) = Text text
get_reply (Err gets.NoRecord) = Code 2 2
get_reply (Err (gets.Failed faults)) = Code 2 5
get_reply (Err (gets.Short asked got)) = Code 2 5
get_reply (Err (gets.Changed sector)) = Code 2 5
get_reply (Err (gets.Tag tag)) = Code 2 5
get_reply (Err gets.Memory) = Code 2 12

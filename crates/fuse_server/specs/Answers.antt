-- Answers that the server makes up from an end: of a read of a file, and of a message that breaks a rule.
use Rattle.std.specs.Prelude.{ℕ, Option, Result, Ok, Err, Some, None}
use Rattle.mg_base.specs.declared.errno.Errno.{Errno}
use Rattle.mg_base.specs.declared.errno.Errno.TheVariants.{Eio, Einval, Enomem, Enosys}
use Rattle.host_traits.specs.Told.{Told}
use Rattle.host_traits.specs.Did.{DidBy}
use Rattle.verity_path.specs.declared.device.Cause.{Cause}
use Rattle.verity_path.specs.declared.device.Cause.TheVariants as cause
use Rattle.verity_path.specs.declared.walk.WalkFault.{WalkFault}
use Rattle.verity_path.specs.declared.walk.WalkFault.TheVariants as fault
use Rattle.fuse_codec.specs.Reply.{Answer}
use Rattle.fuse_codec.specs.declared.reply.FuseReply.TheVariants as reply
use Rattle.fuse_codec.specs.declared.request.BadMessage.{BadMessage}
use Rattle.fuse_codec.specs.declared.request.BadMessage.TheVariants as bads
use Rattle.fuse_server.specs.State.{Writables}
use Rattle.fuse_server.specs.Aims.{Aim}
use Rattle.fuse_server.specs.FileRows.{around}
use Rattle.fuse_server.specs.Rows.{FuseRow, IsForFuse, most_for_fuse}
use Rattle.fuse_server.specs.declared.answer.FuseAnswer.{FuseAnswer}

-- Work that a message aims at, with these writable files before it and after it, and these answers of the host's.
abbrev pub Answered : Result Aim Errno → Writables → Writables → Told → Told → Answer → Option Cause → Type 0
Answered aim old new x y answer c = DidBy (IsForFuse aim) (most_for_fuse aim) x y (λ t. FuseRow aim (around old new x y t) answer c)

abbrev pub read_answer : ℕ → Result (Unit {0}) WalkFault → FuseAnswer
read_answer unique (Ok _) = record { reply = Some (reply.Bytes unique); cause = None }
read_answer unique (Err (fault.Mismatch x)) = record { reply = Some (reply.Error unique Eio); cause = Some (cause.Mismatch x) }
read_answer unique (Err (fault.Short asked got)) = record { reply = Some (reply.Error unique Eio); cause = Some (cause.Short asked got) }
read_answer unique (Err (fault.Failed faults)) = record { reply = Some (reply.Error unique Eio); cause = Some (cause.Failed faults) }
read_answer unique (Err fault.Memory) = record { reply = Some (reply.Error unique Enomem); cause = None }

abbrev pub bad_answer : BadMessage → FuseAnswer
bad_answer bads.Quiet = record { reply = None; cause = None }
bad_answer (bads.Length unique) = record { reply = Some (reply.Error unique Einval); cause = None }
bad_answer (bads.Opcode unique found) = record { reply = Some (reply.Error unique Enosys); cause = None }
bad_answer (bads.Sizes unique) = record { reply = Some (reply.Error unique Einval); cause = None }

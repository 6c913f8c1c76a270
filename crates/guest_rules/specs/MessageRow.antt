-- The row of a message of FUSE: its reply, its cause, and the state after it.
use Rattle.std.specs.Prelude.{◌≡◌, ℕ, List, take, drop, Option, Some, None, Result, Ok, Err}
use Rattle.mg_base.specs.declared.errno.Errno.{Errno}
use Rattle.host_traits.specs.Held.{Held}
use Rattle.host_traits.specs.Did.{Trace}
use Rattle.session_frames.specs.Replies.{Sent, message_sent}
use Rattle.verity_path.specs.declared.device.Cause.{Cause}
use Rattle.fuse_codec.specs.Message.{Message, Bad}
use Rattle.fuse_codec.specs.Reply.{Answer, refused, silent, empty, entry, attributes, opened, created, written, statfs_out, inited, bytes_out}
use Rattle.fuse_server.specs.State.{State as Fuse}
use Rattle.fuse_server.specs.Aims.{Aim, says, makes, reads, loads, writes, cuts, syncs, aim_of, number_of}
use Rattle.fuse_server.specs.Effects.{Next}
use Rattle.fuse_server.specs.FileRows.{Around}
use Rattle.fuse_server.specs.Rows.{FuseRow}
use Rattle.guest_rules.specs.Machine.{World, Salted}

-- what was heard for a request: the answers to its calls, and what the host told that it held before them and after
pub record Heard : Type 0 where
  pub trace : Trace
  pub before : Option Held
  pub after : Option Held

-- bytes that are answered are a content's, from offset on, cut at its end
abbrev pub IsCutFrom : List ℕ → ℕ → ℕ → Answer → Type 0
IsCutFrom content offset size (bytes_out bytes) = bytes ≡ take size (drop offset content)
IsCutFrom content offset size (refused errno) = Unit {0}
IsCutFrom content offset size silent = Unit {0}
IsCutFrom content offset size empty = Unit {0}
IsCutFrom content offset size (entry out) = Unit {0}
IsCutFrom content offset size (attributes attr) = Unit {0}
IsCutFrom content offset size (opened handle) = Unit {0}
IsCutFrom content offset size (created out handle) = Unit {0}
IsCutFrom content offset size (written count) = Unit {0}
IsCutFrom content offset size statfs_out = Unit {0}
IsCutFrom content offset size (inited out) = Unit {0}

-- the same where the content of a file is known
abbrev pub IsSliceOf : Option Salted → ℕ → ℕ → Answer → Type 0
IsSliceOf None offset size answer = Unit {0}
IsSliceOf (Some c) offset size answer = IsCutFrom c.content offset size answer

-- the same of what a message aims at: a READ of a read-only file
abbrev pub IsOfFile : World → Result Aim Errno → Answer → Type 0
IsOfFile world (Ok (reads f offset size)) answer = IsSliceOf (world.file f.file) offset size answer
IsOfFile world (Ok (says a)) answer = Unit {0}
IsOfFile world (Ok (makes a)) answer = Unit {0}
IsOfFile world (Ok (loads number f offset size)) answer = Unit {0}
IsOfFile world (Ok (writes number f offset bytes)) answer = Unit {0}
IsOfFile world (Ok (cuts number f node size)) answer = Unit {0}
IsOfFile world (Ok (syncs number f)) answer = Unit {0}
IsOfFile world (Err e) answer = Unit {0}

-- what is known around a message: its states' writable files, what the host told that it holds, and the answers to its calls
abbrev pub around_message : Heard → Fuse → Fuse → Around
around_message h old new = record { old = old.writables; new = new.writables; before = h.before; after = h.after; trace = h.trace }

-- A message is answered as its checks say, or by a read of a file or a request on a writable one, with the cause of what failed; in a
-- world with a read-only file's content by its bytes. The reply has the message's number, and this is the state after it.
pub record MessageRow (world : World) (h : Heard) (m : Result Message Bad) (old new : Fuse) (sent : Sent) (cause : Option Cause) : Type 0 where
  pub answer : Answer
  pub sent_is : sent ≡ message_sent (number_of m) answer
  pub row : FuseRow (aim_of old m) (around_message h old new) answer cause
  pub slice : IsOfFile world (aim_of old m) answer
  pub next : Next old m answer new

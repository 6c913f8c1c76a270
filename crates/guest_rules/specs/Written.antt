-- The bytes of the writable files in a run: what each request makes of them, and what is read.
use Rattle.std.specs.Prelude.{Bool, true, ◌≡◌, ℕ, ◌+◌, ◌%◌, ◌<◌, List, [], ◌∷◌, length, take, drop, Option, Some, None, Result, Ok, Err, ◌==◌, if◌then◌else◌}
use Rattle.mg_base.specs.declared.errno.Errno.{Errno}
use Rattle.mg_base.specs.declared.errno.Errno.TheVariants.{Enomem}
use Rattle.host_traits.specs.Held.{Held, resized}
use Rattle.host_traits.specs.Told.{Exchanges, heard_of}
use Rattle.sha_tree.specs.Path.{NoClash}
use Rattle.session_frames.specs.Replies.{Sent, sent_answer, message_sent}
use Rattle.verity_path.specs.declared.device.Cause.{Cause}
use Rattle.verity_path.specs.declared.device.Cause.TheVariants.{Memory}
use Rattle.rw_file.specs.Contents.{version, IsVersion, IsFileHashed, IsAtHost, Only}
use Rattle.fuse_codec.specs.Message.{Message, Bad}
use Rattle.fuse_codec.specs.Reply.{Answer, silent, refused, empty, attributes, written, bytes_out}
use Rattle.fuse_server.specs.State.{State as Fuse, WritableFile, Writables, writable_at, attr_of_size}
use Rattle.fuse_server.specs.Aims.{Aim, says, makes, reads, loads, writes, cuts, syncs, aim_of, number_of}
use Rattle.fuse_server.specs.FileRows.{meaning_of}
use Rattle.fuse_server.specs.Serving.{AreNumbered}
use Rattle.guest_rules.specs.Machine.{Setting, World, State, Moment, Turn, Request, message_of, read_of, get_of, put_of, request_of}
use Rattle.guest_rules.specs.MessageRow.{IsCutFrom}
use Rattle.guest_rules.specs.Step.{Step}
use Rattle.guest_rules.specs.Run.{Run}
use Rattle.guest_rules.specs.Faithful.{IsCalm}

-- the bytes of each writable file, by its number
abbrev pub FileBytes : Type 0
FileBytes = ℕ → List ℕ

-- each writable file stands for its bytes: it has their size, and the digests of their blocks
abbrev pub StandFor : Writables → FileBytes → Type 0
StandFor files bytes = (number : ℕ) (f : WritableFile) → writable_at files number ≡ Some f → (meaning_of f).is (bytes number)

-- with these in the place of the bytes of one
abbrev pub put_at : FileBytes → ℕ → List ℕ → FileBytes
put_at bytes number b n = if n == number then b else bytes n

-- how many bytes were written, by the answer
abbrev pub count_of : Answer → ℕ
count_of (written count) = count
count_of other = 0

abbrev pub cut_to : FileBytes → ℕ → ℕ → Answer → FileBytes
cut_to bytes number size (attributes attr) = put_at bytes number (resized (bytes number) size)
cut_to bytes number size other = bytes

-- What a message makes of the bytes, by its answer: a WRITE puts as many in place as it is answered, with zeros between the old end
-- and them; another size cuts them or adds zeros.
abbrev pub bytes_by : Result Aim Errno → Answer → FileBytes → FileBytes
bytes_by (Ok (writes number f offset new)) answer bytes = put_at bytes number (version (bytes number) offset new (count_of answer))
bytes_by (Ok (cuts number f node size)) answer bytes = cut_to bytes number size answer
bytes_by (Ok (says x)) answer bytes = bytes
bytes_by (Ok (makes x)) answer bytes = bytes
bytes_by (Ok (reads f offset size)) answer bytes = bytes
bytes_by (Ok (loads number f offset size)) answer bytes = bytes
bytes_by (Ok (syncs number f)) answer bytes = bytes
bytes_by (Err e) answer bytes = bytes

-- the answer of a reply to a message
abbrev pub answer_in : Sent → Answer
answer_in (sent_answer unique answer) = answer
answer_in other = silent

-- what a turn makes of the bytes
abbrev pub request_bytes : Fuse → Request → Sent → FileBytes → FileBytes
request_bytes s (message_of m) sent bytes = bytes_by (aim_of s m) (answer_in sent) bytes
request_bytes s (read_of r) sent bytes = bytes
request_bytes s (get_of uuid) sent bytes = bytes
request_bytes s (put_of uuid text) sent bytes = bytes

abbrev pub bytes_after : State → Turn → FileBytes → FileBytes
bytes_after s turn bytes = request_bytes s.fuse (request_of turn.frame) turn.sent bytes

-- ---- what is hashed

-- Where a message is a request on a writable file, no two different ones of what is hashed for it share a digest: the pages of the
-- file's versions, which are its bytes, and of a WRITE those after each block that was done; those of files of zeros; and the pieces
-- that were heard for it, without a salt.
abbrev pub IsClearBy : Result Aim Errno → Answer → FileBytes → Exchanges → Type 0
IsClearBy (Ok (loads number f offset size)) answer bytes own = NoClash (IsFileHashed (Only (bytes number)) own)
IsClearBy (Ok (writes number f offset new)) answer bytes own = NoClash (IsFileHashed (IsVersion (bytes number) offset new (count_of answer)) own)
IsClearBy (Ok (cuts number f node size)) answer bytes own = NoClash (IsFileHashed (Only (bytes number)) own)
IsClearBy (Ok (syncs number f)) answer bytes own = NoClash (IsFileHashed (Only (bytes number)) own)
IsClearBy (Ok (says x)) answer bytes own = Unit {0}
IsClearBy (Ok (makes x)) answer bytes own = Unit {0}
IsClearBy (Ok (reads f offset size)) answer bytes own = Unit {0}
IsClearBy (Err e) answer bytes own = Unit {0}

abbrev pub IsRequestClear : Fuse → Request → Sent → FileBytes → Exchanges → Type 0
IsRequestClear s (message_of m) sent bytes own = IsClearBy (aim_of s m) (answer_in sent) bytes own
IsRequestClear s (read_of r) sent bytes own = Unit {0}
IsRequestClear s (get_of uuid) sent bytes own = Unit {0}
IsRequestClear s (put_of uuid text) sent bytes own = Unit {0}

abbrev pub IsClear : State → Turn → FileBytes → Type 0
IsClear s turn bytes = IsRequestClear s.fuse (request_of turn.frame) turn.sent bytes (heard_of turn.own)

-- the premise on digests: it is so of each turn
abbrev pub AreClear : (g : Setting) (world : World) (old : Moment) (turns : List Turn) (new : Moment) → Run g world old turns new → FileBytes → Type 0
AreClear g world old [] new run bytes = Unit {0}
AreClear g world old (turn ∷ turns) new run bytes = IsClear old.state turn bytes × AreClear g world run.0 turns new run.3 (bytes_after old.state turn bytes)

-- ---- what is read

-- bytes that are answered to a READ of a writable file are its own, from offset on, cut at their end
abbrev pub IsSliceBy : Result Aim Errno → Answer → FileBytes → Type 0
IsSliceBy (Ok (loads number f offset size)) answer bytes = IsCutFrom (bytes number) offset size answer
IsSliceBy (Ok (writes number f offset new)) answer bytes = Unit {0}
IsSliceBy (Ok (cuts number f node size)) answer bytes = Unit {0}
IsSliceBy (Ok (syncs number f)) answer bytes = Unit {0}
IsSliceBy (Ok (says x)) answer bytes = Unit {0}
IsSliceBy (Ok (makes x)) answer bytes = Unit {0}
IsSliceBy (Ok (reads f offset size)) answer bytes = Unit {0}
IsSliceBy (Err e) answer bytes = Unit {0}

abbrev pub IsRequestRead : Fuse → Request → Sent → FileBytes → Type 0
IsRequestRead s (message_of m) sent bytes = IsSliceBy (aim_of s m) (answer_in sent) bytes
IsRequestRead s (read_of r) sent bytes = Unit {0}
IsRequestRead s (get_of uuid) sent bytes = Unit {0}
IsRequestRead s (put_of uuid text) sent bytes = Unit {0}

abbrev pub IsRead : State → Turn → FileBytes → Type 0
IsRead s turn bytes = IsRequestRead s.fuse (request_of turn.frame) turn.sent bytes

-- each READ of a writable file has its bytes, as the requests before it left them; and each file stands for its bytes at the end
abbrev pub AreRead : (g : Setting) (world : World) (old : Moment) (turns : List Turn) (new : Moment) → Run g world old turns new → FileBytes → Type 0
AreRead g world old [] new run bytes = StandFor new.state.fuse.writables bytes
AreRead g world old (turn ∷ turns) new run bytes = IsRead old.state turn bytes × AreRead g world run.0 turns new run.3 (bytes_after old.state turn bytes)

-- Law: what is read of a writable file in a run, whatever the host answered, is what was last written with success: its bytes at
-- first, changed by the counts and the sizes that were answered since.
abbrev pub WritesAreRead : Type 0
WritesAreRead = (g : Setting) (world : World) (old : Moment) (turns : List Turn) (new : Moment) (run : Run g world old turns new) (bytes : FileBytes)
    → StandFor old.state.fuse.writables bytes → AreClear g world old turns new run bytes → AreRead g world old turns new run bytes

-- ---- over a host that holds them

-- there is a writable file at a number, and the host holds its bytes
abbrev pub Agrees : Option Held → Writables → FileBytes → ℕ → Type 0
Agrees held files bytes number = (f : WritableFile) × (writable_at files number ≡ Some f) × IsAtHost held f.file (bytes number)

-- Law: where the host holds the bytes of a writable file, each request leaves it so, whatever fails: what the host holds of the file
-- is what was written with success.
abbrev pub HostsAgree : Type 0
HostsAgree = (g : Setting) (world : World) (old : Moment) (turn : Turn) (new : Moment) (bytes : FileBytes) (number : ℕ)
    → Step g world old turn new → AreNumbered old.state.fuse.writables → StandFor old.state.fuse.writables bytes → IsClear old.state turn bytes
    → Agrees old.told.held old.state.fuse.writables bytes number → Agrees new.told.held new.state.fuse.writables (bytes_after old.state turn bytes) number

-- the bytes after some turns
abbrev pub bytes_through : (g : Setting) (world : World) (old : Moment) (turns : List Turn) (new : Moment) → Run g world old turns new → FileBytes → FileBytes
bytes_through g world old [] new run bytes = bytes
bytes_through g world old (turn ∷ turns) new run bytes = bytes_through g world run.0 turns new run.3 (bytes_after old.state turn bytes)

-- Law: so does each run.
abbrev pub RunsAgree : Type 0
RunsAgree = (g : Setting) (world : World) (old : Moment) (turns : List Turn) (new : Moment) (run : Run g world old turns new) (bytes : FileBytes) (number : ℕ)
    → AreNumbered old.state.fuse.writables → StandFor old.state.fuse.writables bytes → AreClear g world old turns new run bytes
    → Agrees old.told.held old.state.fuse.writables bytes number → Agrees new.told.held new.state.fuse.writables (bytes_through g world old turns new run bytes) number

-- The defined answer to a request on a writable file, with its cause. Want of memory alone may stand in its place, or cut a WRITE
-- short: that of the host, or that of the room which a WRITE and another size take first.
pub data IsWriteDefined (bytes : FileBytes) (scarce : Bool) : Result Aim Errno → Answer → Option Cause → Type 0 where
  loaded : (number : ℕ) (f : WritableFile) (offset size : ℕ) → IsWriteDefined bytes scarce (Ok (loads number f offset size)) (bytes_out (take size (drop offset (bytes number)))) None
  wrote : (number : ℕ) (f : WritableFile) (offset : ℕ) (new : List ℕ) → IsWriteDefined bytes scarce (Ok (writes number f offset new)) (written (length new)) None
  ended_early : (number : ℕ) (f : WritableFile) (offset : ℕ) (new : List ℕ) (count : ℕ) → 0 < count → count < length new → (offset + count) % 4096 ≡ 0 → scarce ≡ true
      → IsWriteDefined bytes scarce (Ok (writes number f offset new)) (written count) (Some Memory)
  cut : (number : ℕ) (f : WritableFile) (node size : ℕ) → IsWriteDefined bytes scarce (Ok (cuts number f node size)) (attributes (attr_of_size node size)) None
  synced : (number : ℕ) (f : WritableFile) → IsWriteDefined bytes scarce (Ok (syncs number f)) empty None
  no_memory : (aim : Result Aim Errno) → scarce ≡ true → IsWriteDefined bytes scarce aim (refused Enomem) None
  no_room : (number : ℕ) (f : WritableFile) (offset : ℕ) (new : List ℕ) → IsWriteDefined bytes scarce (Ok (writes number f offset new)) (refused Enomem) None
  no_cut_room : (number : ℕ) (f : WritableFile) (node size : ℕ) → IsWriteDefined bytes scarce (Ok (cuts number f node size)) (refused Enomem) None

-- a request on a writable file of which the host holds the bytes
abbrev pub IsHeldBy : Result Aim Errno → Option Held → FileBytes → Type 0
IsHeldBy (Ok (loads number f offset size)) held bytes = IsAtHost held f.file (bytes number)
IsHeldBy (Ok (writes number f offset new)) held bytes = IsAtHost held f.file (bytes number)
IsHeldBy (Ok (cuts number f node size)) held bytes = IsAtHost held f.file (bytes number)
IsHeldBy (Ok (syncs number f)) held bytes = IsAtHost held f.file (bytes number)
IsHeldBy (Ok (says x)) held bytes = ⊥
IsHeldBy (Ok (makes x)) held bytes = ⊥
IsHeldBy (Ok (reads f offset size)) held bytes = ⊥
IsHeldBy (Err e) held bytes = ⊥

-- Law: over a host that holds a file's bytes, where no call failed or it is honest, a request on the file has its defined answer.
abbrev pub WritesAreServed : Type 0
WritesAreServed = (g : Setting) (world : World) (old : Moment) (turn : Turn) (new : Moment) (bytes : FileBytes) (m : Result Message Bad)
    → Step g world old turn new → request_of turn.frame ≡ message_of m → IsHeldBy (aim_of old.state.fuse m) old.told.held bytes
    → StandFor old.state.fuse.writables bytes → IsClear old.state turn bytes → IsCalm old turn
    → (answer : Answer) × (turn.sent ≡ message_sent (number_of m) answer) × IsWriteDefined bytes new.told.scarce (aim_of old.state.fuse m) answer turn.cause

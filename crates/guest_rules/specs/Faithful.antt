-- What a read of an item or of a file is answered where the host holds it and no call fails.
use Rattle.std.specs.Prelude.{Bool, true, ◌≡◌, ◌⊎◌, ℕ, ◌<◌, ◌≤◌, List, take, drop, length, slice_get, Option, Some, None, Result, Ok, Err}
use Rattle.mg_base.specs.declared.errno.Errno.{Errno}
use Rattle.mg_base.specs.declared.errno.Errno.TheVariants.{Enomem}
use Rattle.host_traits.specs.Held.{Held}
use Rattle.host_traits.specs.Told.{Told, failures_of}
use Rattle.session_frames.specs.Replies.{Sent, sent_bytes, sent_code, sent_answer}
use Rattle.verity_path.specs.declared.device.Cause.{Cause}
use Rattle.verity_path.specs.declared.device.Device.{Device}
use Rattle.verity_path.specs.Holding.{HoldsAt, WhereHeld}
use Rattle.ro_file.specs.Files.{MeasuredFile, layout_of}
use Rattle.fuse_codec.specs.Message.{Message, Bad}
use Rattle.fuse_codec.specs.Reply.{refused, bytes_out}
use Rattle.fuse_server.specs.Aims.{Aim, says, makes, reads, loads, writes, cuts, syncs, aim_of, number_of}
use Rattle.instance_image.specs.declared.faults.GetFault.{GetFault}
use Rattle.instance_image.specs.declared.faults.PutFault.{PutFault}
use Rattle.instance_image.specs.declared.values.Part.{Part}
use Rattle.instance_image.specs.Records.{fits_in}
use Rattle.instance_image.specs.Promised.{RecordIsGot, PutIsKept}
use Rattle.guest_rules.specs.Machine.{Instance, Setting, State, World, Salted, Moment, Turn, ItemRead, Request, message_of, request_of, read_of, get_of, put_of, IsItem, size_of, image_with}
use Rattle.guest_rules.specs.RecordRow.{get_sent, get_cause, put_code, put_cause, nonce_of}
use Rattle.guest_rules.specs.Step.{Step}
use Rattle.guest_rules.specs.Run.{IsWorld, AreOpened, IsFile}

-- what is held has a content and the pages of its tree at a device's places
abbrev pub HoldsDevice : Held → Device → List ℕ → Type 0
HoldsDevice h it content = HoldsAt h it.layout it.measure content

-- what is held has a content and the pages of its tree as those of a file
abbrev pub HoldsContent : Held → MeasuredFile → List ℕ → Type 0
HoldsContent h f content = HoldsAt h (layout_of f) f.measure content

-- The defined reply to a read of an item that is there: 22 where the size is above 131,072, and else the content's bytes, cut
-- at its end. Want of memory alone may stand in place of the bytes. None of these has a cause.
pub data IsDefined (r : ItemRead) (content : List ℕ) (scarce : Bool) : Sent → Option Cause → Type 0 where
  over_limit : 131072 < r.size → IsDefined r content scarce (sent_code 1 22) None
  whole : r.size ≤ 131072 → IsDefined r content scarce (sent_bytes (take r.size (drop r.offset content))) None
  no_room : r.size ≤ 131072 → scarce ≡ true → IsDefined r content scarce (sent_code 1 12) None

-- The defined reply to a READ that its checks let through: the content's bytes, cut at its end, or want of memory. Neither has a
-- cause.
pub data IsReadDefined (unique offset size : ℕ) (content : List ℕ) (scarce : Bool) : Sent → Option Cause → Type 0 where
  slice : IsReadDefined unique offset size content scarce (sent_answer unique (bytes_out (take size (drop offset content)))) None
  no_memory : scarce ≡ true → IsReadDefined unique offset size content scarce (sent_answer unique (refused Enomem)) None

-- no call of a turn failed, or the host is honest
abbrev pub IsCalm : Moment → Turn → Type 0
IsCalm old turn = (failures_of turn.own ≡ 0) ⊎ (old.told.honest ≡ true)

-- Over a faithful host that holds an item as the world has it, a read of the item in which no call fails has its defined reply,
-- and over an honest one each read of it has; and what is held stays.
abbrev pub ReadsAreServed : Type 0
ReadsAreServed = (g : Setting) (world : World) (old : Moment) (turn : Turn) (new : Moment) (h : Held) (r : ItemRead) (it : Device) (content : List ℕ)
    → Step g world old turn new → request_of turn.frame ≡ read_of r → slice_get g.items r.item ≡ Some it → IsItem it → world.item r.item ≡ Some content
    → IsWorld g old.state world new.heard → old.told.held ≡ Some h → HoldsDevice h it content
    → IsCalm old turn → IsDefined r content new.told.scarce turn.sent turn.cause × (new.told.held ≡ Some h)

-- The same of a READ of a read-only file, which its checks let through.
abbrev pub FileReadsAreServed : Type 0
FileReadsAreServed = (g : Setting) (world : World) (old : Moment) (turn : Turn) (new : Moment) (h : Held) (m : Result Message Bad)
    (n : ℕ) (f : MeasuredFile) (offset size : ℕ) (c : Salted)
    → Step g world old turn new → request_of turn.frame ≡ message_of m → aim_of old.state.fuse m ≡ Ok (reads f offset size)
    → IsFile old.state n f → world.file f.file ≡ Some c → AreOpened old.state old.heard
    → IsWorld g old.state world new.heard → old.told.held ≡ Some h → HoldsContent h f c.content
    → IsCalm old turn → IsReadDefined (number_of m) offset size c.content new.told.scarce turn.sent turn.cause × (new.told.held ≡ Some h)

-- ---- by what a host tells before a request and after it

-- Where the host held the content of an item and its tree, and no call failed or it is honest, a read of the item has its defined
-- reply, and what is held stays. No premise says that digests don't clash.
abbrev pub ItemIsServed : Setting → Told → Told → ItemRead → Sent → Option Cause → Type 0
ItemIsServed g old new r sent cause = (it : Device) → slice_get g.items r.item ≡ Some it
    → WhereHeld it.layout it.measure old new (λ content. size_of it ≡ length content → IsDefined r content new.scarce sent cause)

-- the same of a READ of a read-only file that its checks let through; of a request on a writable file the laws of its bytes speak
abbrev pub MessageIsServed : Result Aim Errno → ℕ → Told → Told → Sent → Option Cause → Type 0
MessageIsServed (Ok (reads f offset size)) unique old new sent cause =
    WhereHeld (layout_of f) f.measure old new (λ content. IsReadDefined unique offset size content new.scarce sent cause)
MessageIsServed (Ok (says a)) unique old new sent cause = Unit {0}
MessageIsServed (Ok (makes a)) unique old new sent cause = Unit {0}
MessageIsServed (Ok (loads number f offset size)) unique old new sent cause = Unit {0}
MessageIsServed (Ok (writes number f offset bytes)) unique old new sent cause = Unit {0}
MessageIsServed (Ok (cuts number f node size)) unique old new sent cause = Unit {0}
MessageIsServed (Ok (syncs number f)) unique old new sent cause = Unit {0}
MessageIsServed (Err e) unique old new sent cause = Unit {0}

-- A get came to what `RecordIsGot` says: where the host held the record of the UUID, and no call failed or it is honest, to its
-- text, or to want of memory.
pub record IsGot (i : Instance) (parts : List Part) (uuid : List ℕ) (old new : Told) (sent : Sent) (cause : Option Cause) : Type 0 where
  pub result : Result (List ℕ) GetFault
  pub sent_is : sent ≡ get_sent result
  pub cause_is : cause ≡ get_cause result
  pub got : RecordIsGot (image_with i parts) i.secret uuid old new result

abbrev pub GetIsServed : Option Instance → List Part → List ℕ → Told → Told → Sent → Option Cause → Type 0
GetIsServed None parts uuid old new sent cause = Unit {0}
GetIsServed (Some i) parts uuid old new sent cause = IsGot i parts uuid old new sent cause

-- A put of a text that fits, while entropy is left, came to what `PutIsKept` says: what the host holds after it; and where it held
-- the partition's sectors, which may be written, and no call failed or it is honest, the text was put, or memory was wanting.
pub record IsKept (i : Instance) (s : State) (uuid text : List ℕ) (old new : Told) (sent : Sent) (cause : Option Cause) : Type 0 where
  pub result : Result (Unit {0}) PutFault
  pub sent_is : sent ≡ sent_code 3 (put_code result)
  pub cause_is : cause ≡ put_cause result
  pub kept : PutIsKept (image_with i s.parts) i.secret uuid (nonce_of s) text old new result

abbrev pub PutIsServed : Option Instance → State → List ℕ → List ℕ → Told → Told → Sent → Option Cause → Type 0
PutIsServed None s uuid text old new sent cause = Unit {0}
PutIsServed (Some i) s uuid text old new sent cause =
    (part : Part) → fits_in s.parts uuid (length text) ≡ Ok part → 12 ≤ length s.entropy → IsKept i s uuid text old new sent cause

abbrev pub RequestIsServed : Setting → State → Request → Told → Told → Sent → Option Cause → Type 0
RequestIsServed g s (message_of m) old new sent cause = MessageIsServed (aim_of s.fuse m) (number_of m) old new sent cause
RequestIsServed g s (read_of r) old new sent cause = ItemIsServed g old new r sent cause
RequestIsServed g s (get_of uuid) old new sent cause = GetIsServed g.image s.parts uuid old new sent cause
RequestIsServed g s (put_of uuid text) old new sent cause = PutIsServed g.image s uuid text old new sent cause

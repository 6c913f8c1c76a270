-- When each answer to a message comes, and its cause.
use Rattle.std.specs.Prelude.{◌≡◌, ℕ, ◌+◌, ◌⊎◌, List, [], length, take, drop, Option, Some, None, Result, Ok, Err}
use Rattle.mg_base.specs.declared.errno.Errno.{Errno}
use Rattle.mg_base.specs.declared.errno.Errno.TheVariants.{Eio, Enomem}
use Rattle.host_traits.specs.declared.calls.Call.{Call}
use Rattle.host_traits.specs.Told.{Told}
use Rattle.host_traits.specs.Did.{Trace, IsScarce, reads as hands_nothing}
use Rattle.verity_path.specs.Range.{IsCut, IsReadBlame, IsForRead, most_answers, read_calls, end_of, touched}
use Rattle.verity_path.specs.Judged.{AreRight, AreRightBefore, judged_by}
use Rattle.verity_path.specs.Order.{IsInOrder, asked_in}
use Rattle.verity_path.specs.Holding.{WhereHeld}
use Rattle.verity_path.specs.declared.device.Cause.{Cause}
use Rattle.ro_file.specs.Files.{MeasuredFile, layout_of}
use Rattle.sha_tree.specs.Tree.{block_count}
use Rattle.leaf_tree.specs.Outcomes.{IsTreeCall}
use Rattle.leaf_tree.specs.Worked.{HandsPage}
use Rattle.rw_file.specs.Calls.{IsForFileRead, IsForFileWrite, IsForCut, Hands, most_read, most_write, most_cut}
use Rattle.fuse_codec.specs.declared.reply.FuseReply.{FuseReply}
use Rattle.fuse_codec.specs.Reply.{Answer, refused, silent, bytes_out}
use Rattle.fuse_codec.specs.Sent.{answer_of}
use Rattle.fuse_server.specs.Aims.{Aim, says, makes, reads, loads, writes, cuts, syncs}
use Rattle.fuse_server.specs.FileRows.{Around, IsLocal, LoadRow, WriteRow, CutRow, SyncRow}

-- the calls of a read of a read-only file
abbrev pub IsFileRead : MeasuredFile → ℕ → ℕ → Call → Type 0
IsFileRead f offset size call = IsForRead (layout_of f) f.measure f.size offset size call

abbrev pub file_calls : MeasuredFile → ℕ → ℕ → List Call
file_calls f offset size = read_calls (layout_of f) f.measure f.size offset size

-- no call was made, and this is the answer
pub record IsPlain (t : Trace) (expected answer : Answer) (c : Option Cause) : Type 0 where
  pub own : t.own ≡ []
  pub failed : t.failed ≡ 0
  pub answer_is : answer ≡ expected
  pub no_cause : c ≡ None

-- READ of a read-only file: bytes that were cut from pages of the file which were heard in this call, where each call of the read
-- was made, in its order, and each answer is right; or EIO, with the cause in what was heard; or want of memory of the host's; in
-- both the first calls of the read were made, and each answer but the one that is the cause is right
pub data ReadRow (f : MeasuredFile) (offset size : ℕ) (t : Trace) : Answer → Option Cause → Type 0 where
  read_bytes : (bytes : List ℕ) → t.failed ≡ 0 → IsCut t.own f.measure offset (end_of f.size offset size) bytes → asked_in t.own ≡ file_calls f offset size
      → AreRight (layout_of f) f.measure t.own t.own → ReadRow f offset size t (bytes_out bytes) None
  read_blamed : (c : Cause) → IsReadBlame (layout_of f) f.measure (IsFileRead f offset size) t c → IsInOrder (file_calls f offset size) t
      → AreRightBefore (layout_of f) f.measure t.own (judged_by c) → ReadRow f offset size t (refused Eio) (Some c)
  read_no_room : IsScarce t → IsInOrder (file_calls f offset size) t → AreRightBefore (layout_of f) f.measure t.own 0 → ReadRow f offset size t (refused Enomem) None

-- the writable files stay
abbrev pub Stay : Around → Type 0 → Type 0
Stay a Row = (a.new ≡ a.old) × Row

-- when each answer comes
abbrev pub AimRow : Aim → Around → Answer → Option Cause → Type 0
AimRow (says x) a answer c = Stay a (IsPlain a.trace x answer c)
AimRow (makes x) a answer c = Stay a (IsPlain a.trace x answer c ⊎ IsPlain a.trace (refused Enomem) answer c)
AimRow (reads f offset size) a answer c = Stay a (ReadRow f offset size a.trace answer c)
AimRow (loads number f offset size) a answer c = LoadRow number f offset size a answer c
AimRow (writes number f offset bytes) a answer c = WriteRow number f offset bytes a answer c
AimRow (cuts number f node size) a answer c = CutRow number f node size a answer c
AimRow (syncs number f) a answer c = SyncRow number f a answer c

-- the row of a message: refused by its checks, and then no call is made; or what it aims at
abbrev pub FuseRow : Result Aim Errno → Around → Answer → Option Cause → Type 0
FuseRow (Err e) a answer c = Stay a (IsPlain a.trace (refused e) answer c)
FuseRow (Ok aim) a answer c = AimRow aim a answer c

-- The calls that a message may make, with what each hands over: a write those of its bytes that stand at the call's place. A tree
-- that is kept in memory makes none.
abbrev pub IsForAim : Aim → Call → List ℕ → Type 0
IsForAim (says x) call given = ⊥
IsForAim (makes x) call given = ⊥
IsForAim (reads f offset size) call given = hands_nothing (IsFileRead f offset size) call given
IsForAim (loads number f offset size) call given = IsForFileRead IsLocal f.file f.size offset size call × HandsPage call given
IsForAim (writes number f offset bytes) call given = IsForFileWrite IsLocal f.file f.size offset (length bytes) call × Hands offset bytes call given
IsForAim (cuts number f node size) call given = IsForCut IsLocal f.file f.size size call × HandsPage call given
IsForAim (syncs number f) call given = IsTreeCall IsLocal f.file (block_count f.size) (block_count f.size) call × HandsPage call given

abbrev pub IsForFuse : Result Aim Errno → Call → List ℕ → Type 0
IsForFuse (Err e) call given = ⊥
IsForFuse (Ok aim) call given = IsForAim aim call given

-- the most calls that it makes: those that ask for bytes, and a write for each block, or one for a new size
abbrev pub most_for_aim : Aim → ℕ
most_for_aim (says x) = 0
most_for_aim (makes x) = 0
most_for_aim (reads f offset size) = most_answers f.measure f.size offset size
most_for_aim (loads number f offset size) = most_read f.size offset size
most_for_aim (writes number f offset bytes) = most_write f.size offset (length bytes) + touched offset (offset + length bytes)
most_for_aim (cuts number f node size) = most_cut f.size size + 1
most_for_aim (syncs number f) = 0

abbrev pub most_for_fuse : Result Aim Errno → ℕ
most_for_fuse (Err e) = 0
most_for_fuse (Ok aim) = most_for_aim aim

-- Where a host held a read-only file's content and its tree, and no call failed or the host is honest, a read of it is answered
-- with the content's bytes, cut at its end, or with want of memory.
abbrev pub FuseIsRight : Result Aim Errno → Told → Told → Answer → Type 0
FuseIsRight (Ok (reads f offset size)) old new answer =
    WhereHeld (layout_of f) f.measure old new (λ content. (answer ≡ bytes_out (take size (drop offset content))) ⊎ (answer ≡ refused Enomem))
FuseIsRight (Ok (says x)) old new answer = Unit {0}
FuseIsRight (Ok (makes x)) old new answer = Unit {0}
FuseIsRight (Ok (loads number f offset size)) old new answer = Unit {0}
FuseIsRight (Ok (writes number f offset bytes)) old new answer = Unit {0}
FuseIsRight (Ok (cuts number f node size)) old new answer = Unit {0}
FuseIsRight (Ok (syncs number f)) old new answer = Unit {0}
FuseIsRight (Err e) old new answer = Unit {0}

-- what a reply answers, where these bytes are served; without one nothing is answered
abbrev pub answer_by : Option FuseReply → List ℕ → Answer
answer_by None served = silent
answer_by (Some reply) served = answer_of reply served

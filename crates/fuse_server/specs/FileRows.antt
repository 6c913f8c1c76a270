-- The rows of requests on a writable file: when each answer comes, its cause, and what becomes of the file.
use Rattle.std.specs.Prelude.{◌≡◌, ℕ, List, Option, Some, None, Result, Ok, Err}
use Rattle.mg_base.specs.declared.errno.Errno.{Errno}
use Rattle.mg_base.specs.declared.errno.Errno.TheVariants.{Efbig, Eio, Enomem}
use Rattle.host_traits.specs.Held.{Held}
use Rattle.host_traits.specs.Told.{Told}
use Rattle.host_traits.specs.Did.{Trace}
use Rattle.verity_path.specs.declared.device.Cause.{Cause}
use Rattle.verity_path.specs.declared.device.Cause.TheVariants as cause
use Rattle.sha_tree.specs.Tree.{block_count}
use Rattle.leaf_tree.specs.Outcomes.{standing, IsTreeCall}
use Rattle.rw_file.specs.declared.faults.RwFault.{RwFault}
use Rattle.rw_file.specs.declared.faults.RwFault.TheVariants as fault
use Rattle.rw_file.specs.declared.faults.Written.{Written}
use Rattle.rw_file.specs.Contents.{Meaning, meaning}
use Rattle.rw_file.specs.Rows.{ReadOutcome, WriteOutcome, CutOutcome, SyncOutcome, size_after}
use Rattle.fuse_codec.specs.Reply as reply
use Rattle.fuse_codec.specs.Reply.{Answer, refused, bytes_out, empty, attributes}
use Rattle.fuse_server.specs.State.{WritableFile, Writables, replaced, attr_of_size}

-- What is known around a message: the writable files before it and after it, what the host told that it holds before and after, and
-- the answers to the message's calls.
pub record Around : Type 0 where
  pub old : Writables
  pub new : Writables
  pub before : Option Held
  pub after : Option Held
  pub trace : Trace

abbrev pub around : Writables → Writables → Told → Told → Trace → Around
around old new x y t = record { old = old; new = new; before = x.held; after = y.held; trace = t }

-- The tree of a writable file is kept in memory, and makes no call.
abbrev pub IsLocal : Type 0
IsLocal = Unit {0}

-- what a writable file stands for: the contents whose blocks have its digests; nothing of its tree is asked for
abbrev pub meaning_of : WritableFile → Meaning
meaning_of f = meaning f.size (standing (λ ds. ds ≡ f.tree.digests) (λ held ds. Unit {0}))

-- the file at this number, and no other, is now another one of the same number at the host, with this size
pub record IsReplaced (number : ℕ) (file new : WritableFile) (size : ℕ) (a : Around) : Type 0 where
  pub files : a.new ≡ replaced number new a.old
  pub file_is : new.file ≡ file.file
  pub size_is : new.size ≡ size

-- ---- answers

-- want of memory is ENOMEM, a question that ends past the limit EFBIG, all else EIO
abbrev pub errno_of : RwFault → Errno
errno_of (fault.TooLarge end) = Efbig
errno_of fault.Memory = Enomem
errno_of (fault.Mismatch x) = Eio
errno_of (fault.Short asked got) = Eio
errno_of (fault.Failed faults) = Eio

-- why an answer is EIO; other refusals have no cause
abbrev pub cause_of : RwFault → Option Cause
cause_of (fault.TooLarge end) = None
cause_of fault.Memory = None
cause_of (fault.Mismatch x) = Some (cause.Mismatch x)
cause_of (fault.Short asked got) = Some (cause.Short asked got)
cause_of (fault.Failed faults) = Some (cause.Failed faults)

-- why a write ended early: want of memory is a cause too
abbrev pub short_cause : Option RwFault → Option Cause
short_cause None = None
short_cause (Some (fault.TooLarge end)) = None
short_cause (Some fault.Memory) = Some cause.Memory
short_cause (Some (fault.Mismatch x)) = Some (cause.Mismatch x)
short_cause (Some (fault.Short asked got)) = Some (cause.Short asked got)
short_cause (Some (fault.Failed faults)) = Some (cause.Failed faults)

abbrev pub answer_if : Answer → Result (Unit {0}) RwFault → Answer
answer_if answer (Ok u) = answer
answer_if answer (Err e) = refused (errno_of e)

abbrev pub cause_if : Result (Unit {0}) RwFault → Option Cause
cause_if (Ok u) = None
cause_if (Err e) = cause_of e

abbrev pub written_answer : Result Written RwFault → Answer
written_answer (Ok w) = reply.written w.count
written_answer (Err e) = refused (errno_of e)

abbrev pub written_cause : Result Written RwFault → Option Cause
written_cause (Ok w) = short_cause w.why
written_cause (Err e) = cause_of e

abbrev pub size_if : ℕ → ℕ → Result (Unit {0}) RwFault → ℕ
size_if old new (Ok u) = new
size_if old new (Err e) = old

-- ---- rows

-- READ: the bytes, cut at the end, or a refusal; the file's bytes stay
pub record LoadRow (number : ℕ) (file : WritableFile) (offset size : ℕ) (a : Around) (answer : Answer) (c : Option Cause) : Type 0 where
  pub new : WritableFile
  pub replaced : IsReplaced number file new file.size a
  pub bytes : List ℕ
  pub result : Result (Unit {0}) RwFault
  pub outcome : ReadOutcome IsLocal file.file file.size offset size (meaning_of file) (meaning_of new) a.before a.after bytes result a.trace
  pub answer_is : answer ≡ answer_if (bytes_out bytes) result
  pub cause_is : c ≡ cause_if result

-- WRITE: the count of bytes that are in place, with the cause why there are no more, or a refusal
pub record WriteRow (number : ℕ) (file : WritableFile) (offset : ℕ) (bytes : List ℕ) (a : Around) (answer : Answer) (c : Option Cause) : Type 0 where
  pub new : WritableFile
  pub result : Result Written RwFault
  pub replaced : IsReplaced number file new (size_after file.size offset result) a
  pub outcome : WriteOutcome IsLocal file.file file.size offset bytes (meaning_of file) (meaning_of new) a.before a.after result a.trace
  pub answer_is : answer ≡ written_answer result
  pub cause_is : c ≡ written_cause result

-- SETATTR of a size: the attributes with it, or a refusal
pub record CutRow (number : ℕ) (file : WritableFile) (node size : ℕ) (a : Around) (answer : Answer) (c : Option Cause) : Type 0 where
  pub new : WritableFile
  pub result : Result (Unit {0}) RwFault
  pub replaced : IsReplaced number file new (size_if file.size size result) a
  pub outcome : CutOutcome IsLocal file.file file.size size (meaning_of file) (meaning_of new) a.before a.after result a.trace
  pub answer_is : answer ≡ answer_if (attributes (attr_of_size node size)) result
  pub cause_is : c ≡ cause_if result

-- FSYNC: the tree is written out, or a refusal; the file's bytes stay
pub record SyncRow (number : ℕ) (file : WritableFile) (a : Around) (answer : Answer) (c : Option Cause) : Type 0 where
  pub new : WritableFile
  pub result : Result (Unit {0}) RwFault
  pub replaced : IsReplaced number file new file.size a
  pub outcome : SyncOutcome IsLocal file.file file.size (IsTreeCall IsLocal file.file (block_count file.size) (block_count file.size)) (meaning_of file) (meaning_of new) a.before a.after result a.trace
  pub answer_is : answer ≡ answer_if empty result
  pub cause_is : c ≡ cause_if result

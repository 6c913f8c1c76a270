-- What the server keeps: whether it is initialised, names and nodes, open handles, the read-only files and the writable ones.
use Rattle.std.specs.Prelude.{Bool, ℕ, List, [], Option, Result, Ok, Err}
use Rattle.std.specs.Ordering.{nat_cmp}
use Rattle.std.specs.Map.{lookup}
use Rattle.std.specs.BTreeMap.{is_at}
use Rattle.mg_base.specs.declared.errno.Errno.{Errno}
use Rattle.mg_base.specs.declared.errno.Errno.TheVariants.{Enoent, Enotdir, Eisdir, Ebadf, Enosys}
use Rattle.std.specs.Map.{set_value}
use Rattle.ro_file.specs.Files.{MeasuredFile}
use Rattle.rw_leaves.specs.Kept.{Kept}
use Rattle.rw_file.specs.Contents.{Writable as WritableOf}
use Rattle.authfs_dirs.specs.declared.kind.Kind.{Kind}
use Rattle.authfs_dirs.specs.declared.kind.Kind.TheVariants.{Dir, ReadOnly, Writable}
use Rattle.authfs_dirs.specs.Names.{Names, ◌>>=◌, needs, found, is_dir, kind_at}
use Rattle.authfs_files.specs.Open.{holds}
use Rattle.fuse_codec.specs.declared.reply.Attr.{Attr}

-- the read-only files by their numbers
abbrev pub Files : Type 0
Files = List (ℕ × MeasuredFile)

abbrev pub file_at : Files → ℕ → Option MeasuredFile
file_at files number = lookup (is_at (nat_cmp number)) files

-- a writable file: its number at the host, its size, and its tree, which keeps all digests in memory
abbrev pub WritableFile : Type 0
WritableFile = WritableOf Kept

-- an empty one
abbrev pub empty_file : ℕ → WritableFile
empty_file number = record { file = number; size = 0; tree = record { digests = []; room = 0 } }

-- the writable files by their numbers
abbrev pub Writables : Type 0
Writables = List (ℕ × WritableFile)

abbrev pub writable_at : Writables → ℕ → Option WritableFile
writable_at files number = lookup (is_at (nat_cmp number)) files

-- with this file in the place of the one at a number
abbrev pub replaced : ℕ → WritableFile → Writables → Writables
replaced number file files = set_value (is_at (nat_cmp number)) files file

-- Is it initialised; names and nodes; the open handles with their nodes, and the largest number that was given; the read-only
-- files, and the writable ones.
pub record State : Type 0 where
  pub ready : Bool
  pub names : Names
  pub open_handles : List (ℕ × ℕ)
  pub given : ℕ
  pub files : Files
  pub writables : Writables

-- the file of a node: a read-only one, or a writable one with its number
pub data Behind : Type 0 where
  measured : (file : MeasuredFile) → Behind
  written : (number : ℕ) (file : WritableFile) → Behind

abbrev pub measured_at : Files → ℕ → Result Behind Errno
measured_at files number = found (file_at files number) Enosys >>= λ f. Ok (measured f)

abbrev pub written_at : Writables → ℕ → Result Behind Errno
written_at files number = found (writable_at files number) Enosys >>= λ f. Ok (written number f)

-- the file of a node; one that isn't there is not served
abbrev pub as_file : State → Kind → Result Behind Errno
as_file s (Dir host) = Err Eisdir
as_file s (ReadOnly file) = measured_at s.files file
as_file s (Writable file) = written_at s.writables file

abbrev pub attr_of_file : ℕ → MeasuredFile → Attr
attr_of_file node f = record { ino = node; size = f.size; mode = 33060 }

-- 0o100644, and this size
abbrev pub attr_of_size : ℕ → ℕ → Attr
attr_of_size node size = record { ino = node; size = size; mode = 33188 }

-- 0o40755 of a directory, 0o100444 of a read-only file, 0o100644 of a writable one
abbrev pub attr_of : State → ℕ → Kind → Result Attr Errno
attr_of s node (Dir host) = Ok (record { ino = node; size = 0; mode = 16877 })
attr_of s node (ReadOnly file) = found (file_at s.files file) Enosys >>= λ f. Ok (attr_of_file node f)
attr_of s node (Writable file) = found (writable_at s.writables file) Enosys >>= λ f. Ok (attr_of_size node f.size)

-- live
abbrev pub live : State → ℕ → Result Kind Errno
live s node = found (kind_at s.names node) Enoent

-- live; directory EISDIR
abbrev pub live_file : State → ℕ → Result Behind Errno
live_file s node = live s node >>= λ kind. as_file s kind

-- live; not a directory ENOTDIR
abbrev pub live_dir : State → ℕ → Result (Unit {0}) Errno
live_dir s node = live s node >>= λ kind. needs (is_dir kind) Enotdir

-- handle: open, and of this node
abbrev pub held : State → ℕ → ℕ → Result (Unit {0}) Errno
held s fh node = needs (holds s.open_handles fh node) Ebadf

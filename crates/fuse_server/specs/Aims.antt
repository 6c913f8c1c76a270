-- What a message aims at, by the state: each check in order, and the first refusal; or what is answered.
use Rattle.std.specs.Prelude.{Bool, true, false, ℕ, ◌+◌, ◌%◌, ◌==◌, ◌&&◌, ◌||◌, not, nat_lt, nat_le, bit_and, List, [], ◌∷◌, length, Result, Ok, Err, if◌then◌else◌}
use Rattle.mg_base.specs.declared.errno.Errno.{Errno}
use Rattle.mg_base.specs.declared.errno.Errno.TheVariants.{Eacces, Efbig, Einval, Eisdir, Enospc, Enosys, Eproto}
use Rattle.ro_file.specs.Files.{MeasuredFile}
use Rattle.authfs_dirs.specs.declared.kind.Kind.{Kind}
use Rattle.authfs_dirs.specs.declared.kind.Kind.TheVariants.{Dir, ReadOnly, Writable}
use Rattle.authfs_dirs.specs.Names.{◌>>=◌, needs, found, lookup_check, may_add, may_remove}
use Rattle.authfs_dirs.specs.Dirents.{listing}
use Rattle.authfs_files.specs.Open.{may_open}
use Rattle.fuse_codec.specs.Message.{Asked, init, lookup, forget, batch_forget, interrupt, getattr, setattr, opening, opendir, read, write, flush, fsync, release, releasedir, readdir, create, mkdir, unlink, rmdir, statfs, destroy, Message, Bad, quiet, bad_length, bad_opcode, bad_sizes}
use Rattle.fuse_codec.specs.declared.reply.InitOut.{InitOut}
use Rattle.fuse_codec.specs.Reply.{Answer, silent, empty, entry, attributes, opened, statfs_out, inited, bytes_out}
use Rattle.fuse_codec.specs.Reply as reply
use Rattle.fuse_server.specs.State.{State, WritableFile, Behind, measured, written, live, live_file, live_dir, attr_of, held, writable_at}

-- What a message that isn't refused aims at: an answer that the state gives; the same, where memory is taken for a handle or a
-- listing; a read of a read-only file; and of the writable file at a number a read, a write of bytes, another size, which is that
-- of a node, or writing out its tree.
pub data Aim : Type 0 where
  says : (answer : Answer) → Aim
  makes : (answer : Answer) → Aim
  reads : (file : MeasuredFile) (offset size : ℕ) → Aim
  loads : (number : ℕ) (file : WritableFile) (offset size : ℕ) → Aim
  writes : (number : ℕ) (file : WritableFile) (offset : ℕ) (bytes : List ℕ) → Aim
  cuts : (number : ℕ) (file : WritableFile) (node size : ℕ) → Aim
  syncs : (number : ℕ) (file : WritableFile) → Aim

-- 7, 31 and zeros
abbrev pub our_version : InitOut
our_version = record { major = 7; minor = 31; max_readahead = 0; flags = 0; max_background = 0; congestion_threshold = 0; max_write = 0; time_gran = 0 }

abbrev pub agreed : ℕ → ℕ → InitOut
agreed readahead flags = record { major = 7; minor = 31; max_readahead = readahead; flags = bit_and flags 32; max_background = 16; congestion_threshold = 12; max_write = 131072; time_gran = 1 }

abbrev pub init_out : ℕ → ℕ → ℕ → InitOut
init_out major readahead flags = if nat_lt 7 major then our_version else agreed readahead flags

-- before 7.31
abbrev pub is_old : ℕ → ℕ → Bool
is_old major minor = nat_lt major 7 || ((major == 7) && nat_lt minor 31)

unfoldable pub init_aim : State → ℕ → ℕ → ℕ → ℕ → Result Aim Errno
init_aim s major minor readahead flags = do
  _ ← needs (not s.ready) Eproto
  _ ← needs (not (is_old major minor)) Eproto
  Ok (says (inited (init_out major readahead flags)))

unfoldable pub lookup_aim : State → ℕ → List ℕ → Result Aim Errno
lookup_aim s parent name = do
  node ← lookup_check s.names.nodes parent name
  kind ← live s node
  attr ← attr_of s node kind
  Ok (says (entry (record { node = node; attr = attr })))

unfoldable pub getattr_aim : State → ℕ → Result Aim Errno
getattr_aim s node = do
  kind ← live s node
  attr ← attr_of s node kind
  Ok (says (attributes attr))

-- the bit of value 8
abbrev pub asks_size : ℕ → Bool
asks_size valid = not (bit_and valid 8 == 0)

-- 2 ^ 32 bytes are the most of a writable file
abbrev pub may_reach : ℕ → Bool
may_reach size = nat_le size 4294967296

abbrev pub cut_of : ℕ → ℕ → ℕ → WritableFile → Result Aim Errno
cut_of number node size f = needs (may_reach size) Efbig >>= λ _. Ok (cuts number f node size)

-- another size: that of a writable file alone
abbrev pub size_aim : State → ℕ → ℕ → Kind → Result Aim Errno
size_aim s node size (Dir host) = Err Eisdir
size_aim s node size (ReadOnly file) = Err Eacces
size_aim s node size (Writable file) = found (writable_at s.writables file) Enosys >>= λ f. cut_of file node size f

-- without that bit nothing is changed, and the attributes are told
abbrev pub set_attr : State → ℕ → ℕ → ℕ → Kind → Result Aim Errno
set_attr s node valid size kind = if asks_size valid then size_aim s node size kind else getattr_aim s node

unfoldable pub setattr_aim : State → ℕ → ℕ → ℕ → Result Aim Errno
setattr_aim s node valid size = live s node >>= λ kind. set_attr s node valid size kind

-- one handle more
abbrev pub handle_aim : State → Result Aim Errno
handle_aim s = needs (may_open s.open_handles s.given) Enospc >>= λ _. Ok (makes (opened (s.given + 1)))

-- a read-only file is opened to be read
abbrev pub may_be_opened : Behind → ℕ → Bool
may_be_opened (measured f) flags = flags % 4 == 0
may_be_opened (written number f) flags = true

unfoldable pub open_aim : State → ℕ → ℕ → Result Aim Errno
open_aim s node flags = do
  behind ← live_file s node
  _ ← needs (may_be_opened behind flags) Eacces
  handle_aim s

unfoldable pub opendir_aim : State → ℕ → Result Aim Errno
opendir_aim s node = live_dir s node >>= λ _. handle_aim s

abbrev pub read_of : Behind → ℕ → ℕ → Aim
read_of (measured f) offset size = reads f offset size
read_of (written number f) offset size = loads number f offset size

unfoldable pub read_aim : State → ℕ → ℕ → ℕ → ℕ → Result Aim Errno
read_aim s node fh offset size = do
  behind ← live_file s node
  _ ← held s fh node
  Ok (read_of behind offset size)

-- without bytes nothing is written, wherever; else they may end at 2 ^ 32
abbrev pub write_at : ℕ → WritableFile → ℕ → List ℕ → Result Aim Errno
write_at number f offset [] = Ok (says (reply.written 0))
write_at number f offset (b ∷ bytes) = needs (may_reach (offset + length (b ∷ bytes))) Efbig >>= λ _. Ok (writes number f offset (b ∷ bytes))

-- a read-only file isn't written
abbrev pub write_of : Behind → ℕ → List ℕ → Result Aim Errno
write_of (measured f) offset bytes = Err Eacces
write_of (written number f) offset bytes = write_at number f offset bytes

unfoldable pub write_aim : State → ℕ → ℕ → ℕ → List ℕ → Result Aim Errno
write_aim s node fh offset bytes = do
  behind ← live_file s node
  _ ← held s fh node
  write_of behind offset bytes

-- a handle that is held
abbrev pub held_aim : State → ℕ → ℕ → Result Aim Errno
held_aim s node fh = held s fh node >>= λ _. Ok (says empty)

-- FLUSH and RELEASE
unfoldable pub handled_aim : State → ℕ → ℕ → Result Aim Errno
handled_aim s node fh = live_file s node >>= λ _. held_aim s node fh

-- of a read-only file nothing is to be written out
abbrev pub sync_of : Behind → Aim
sync_of (measured f) = says empty
sync_of (written number f) = syncs number f

unfoldable pub fsync_aim : State → ℕ → ℕ → Result Aim Errno
fsync_aim s node fh = do
  behind ← live_file s node
  _ ← held s fh node
  Ok (sync_of behind)

unfoldable pub releasedir_aim : State → ℕ → ℕ → Result Aim Errno
releasedir_aim s node fh = live_dir s node >>= λ _. held_aim s node fh

-- the entries with a cookie above the offset, as many as are whole in so many bytes
unfoldable pub readdir_aim : State → ℕ → ℕ → ℕ → ℕ → Result Aim Errno
readdir_aim s node fh offset size = do
  _ ← live_dir s node
  _ ← held s fh node
  Ok (makes (bytes_out (listing s.names.nodes node offset size)))

-- CREATE and MKDIR: no directory that the host has is served
unfoldable pub add_aim : State → ℕ → List ℕ → Result Aim Errno
add_aim s parent name = may_add s.names parent name >>= λ _. Err Enosys

-- UNLINK, and RMDIR
unfoldable pub remove_aim : State → ℕ → List ℕ → Bool → Result Aim Errno
remove_aim s parent name dir = may_remove s.names.nodes parent name dir >>= λ _. Err Enosys

unfoldable pub statfs_aim : State → ℕ → Result Aim Errno
statfs_aim s node = live s node >>= λ _. Ok (says statfs_out)

-- once initialised
unfoldable pub ready_aim : State → ℕ → Asked → Result Aim Errno
ready_aim s node (init major minor readahead flags) = init_aim s major minor readahead flags
ready_aim s node (lookup name) = lookup_aim s node name
ready_aim s node (forget n) = Ok (says silent)
ready_aim s node (batch_forget pairs) = Ok (says silent)
ready_aim s node interrupt = Ok (says silent)
ready_aim s node getattr = getattr_aim s node
ready_aim s node (setattr valid size) = setattr_aim s node valid size
ready_aim s node (opening flags) = open_aim s node flags
ready_aim s node opendir = opendir_aim s node
ready_aim s node (read fh offset size) = read_aim s node fh offset size
ready_aim s node (write fh offset bytes) = write_aim s node fh offset bytes
ready_aim s node (flush fh) = handled_aim s node fh
ready_aim s node (fsync fh) = fsync_aim s node fh
ready_aim s node (release fh) = handled_aim s node fh
ready_aim s node (releasedir fh) = releasedir_aim s node fh
ready_aim s node (readdir fh offset size) = readdir_aim s node fh offset size
ready_aim s node (create name) = add_aim s node name
ready_aim s node (mkdir name) = add_aim s node name
ready_aim s node (unlink name) = remove_aim s node name false
ready_aim s node (rmdir name) = remove_aim s node name true
ready_aim s node statfs = statfs_aim s node
ready_aim s node destroy = Ok (says empty)

-- Messages that never have a reply have none before INIT too; INIT is the first of all others.
unfoldable pub message_aim : State → ℕ → Asked → Result Aim Errno
message_aim s node (init major minor readahead flags) = init_aim s major minor readahead flags
message_aim s node (forget n) = Ok (says silent)
message_aim s node (batch_forget pairs) = Ok (says silent)
message_aim s node interrupt = Ok (says silent)
message_aim s node other = needs s.ready Eproto >>= λ _. ready_aim s node other

-- what a message aims at, or why it is refused
abbrev pub aim_of : State → Result Message Bad → Result Aim Errno
aim_of s (Ok m) = message_aim s m.node m.asked
aim_of s (Err quiet) = Ok (says silent)
aim_of s (Err (bad_length unique)) = Err Einval
aim_of s (Err (bad_opcode unique op)) = Err Enosys
aim_of s (Err (bad_sizes unique)) = Err Einval

-- the number of the message; one that is malformed and never has a reply has none
abbrev pub number_of : Result Message Bad → ℕ
number_of (Ok m) = m.unique
number_of (Err quiet) = 0
number_of (Err (bad_length unique)) = unique
number_of (Err (bad_opcode unique op)) = unique
number_of (Err (bad_sizes unique)) = unique

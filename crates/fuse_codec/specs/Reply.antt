-- Replies of FUSE (`linux/fuse.h`, protocol 7.31): what a message is answered, and the bytes of its reply.
use Rattle.std.specs.Prelude.{ℕ, ◌+◌, ◌-◌, ◌/◌, ◌^◌, List, [], ◌++◌, length, Option, Some, None}
use Rattle.mg_base.specs.declared.errno.Errno.{Errno}
use Rattle.mg_base.specs.Errnos.{errno_number}
use Rattle.fuse_codec.specs.declared.reply.Attr.{Attr}
use Rattle.fuse_codec.specs.declared.reply.EntryOut.{EntryOut}
use Rattle.fuse_codec.specs.declared.reply.InitOut.{InitOut}
use Rattle.fuse_codec.specs.Words.{le16, le32, le64, zeros}

-- an answer: refused, or what its opcode is answered; a silent one has no reply
pub data Answer : Type 0 where
  refused : (errno : Errno) → Answer
  silent : Answer
  empty : Answer
  entry : (out : EntryOut) → Answer
  attributes : (attr : Attr) → Answer
  opened : (handle : ℕ) → Answer
  created : (out : EntryOut) (handle : ℕ) → Answer
  written : (count : ℕ) → Answer
  statfs_out : Answer
  inited : (out : InitOut) → Answer
  bytes_out : (bytes : List ℕ) → Answer

-- fuse_attr: ino, size, blocks of 512 bytes; three times and their nanoseconds; mode, nlink; uid, gid, rdev; blksize;
-- padding
unfoldable pub attr_bytes : Attr → List ℕ
attr_bytes a =
    le64 a.ino ++ le64 a.size ++ le64 ((a.size + 511) / 512) ++ zeros 36
    ++ le32 a.mode ++ le32 1 ++ zeros 12 ++ le32 4096 ++ zeros 4

-- fuse_attr_out: how long they are valid, and padding; the attributes
abbrev pub attr_out_bytes : Attr → List ℕ
attr_out_bytes a = zeros 16 ++ attr_bytes a

-- fuse_entry_out: nodeid; generation, and how long the entry and the attributes are valid; the attributes
abbrev pub entry_bytes : EntryOut → List ℕ
entry_bytes out = le64 out.node ++ zeros 32 ++ attr_bytes out.attr

-- fuse_open_out: fh; open_flags and padding
abbrev pub opened_bytes : ℕ → List ℕ
opened_bytes handle = le64 handle ++ zeros 8

-- fuse_write_out: size; padding
abbrev pub written_bytes : ℕ → List ℕ
written_bytes count = le32 count ++ zeros 4

-- fuse_init_out: its fields in order, and zeros from max_pages on
unfoldable pub init_bytes : InitOut → List ℕ
init_bytes o =
    le32 o.major ++ le32 o.minor ++ le32 o.max_readahead ++ le32 o.flags
    ++ le16 o.max_background ++ le16 o.congestion_threshold
    ++ le32 o.max_write ++ le32 o.time_gran ++ zeros 36

-- fuse_kstatfs: blocks, bfree, bavail, files, ffree, bsize, namelen, frsize; padding and spare
unfoldable pub statfs_bytes : List ℕ
statfs_bytes =
    le64 1048576 ++ le64 1048576 ++ le64 1048576 ++ le64 65536 ++ le64 65536
    ++ le32 4096 ++ le32 255 ++ le32 4096 ++ zeros 28

-- what stands behind the header of a reply: None where there is no reply
abbrev pub body_of : Answer → Option (List ℕ)
body_of (refused errno) = Some []
body_of silent = None
body_of empty = Some []
body_of (entry out) = Some (entry_bytes out)
body_of (attributes attr) = Some (attr_out_bytes attr)
body_of (opened handle) = Some (opened_bytes handle)
body_of (created out handle) = Some (entry_bytes out ++ opened_bytes handle)
body_of (written count) = Some (written_bytes count)
body_of statfs_out = Some statfs_bytes
body_of (inited out) = Some (init_bytes out)
body_of (bytes_out bytes) = Some bytes

-- the negative error number in 32 bits, or 0
abbrev pub error_of : Answer → ℕ
error_of (refused errno) = 2 ^ 32 - errno_number errno
error_of silent = 0
error_of empty = 0
error_of (entry out) = 0
error_of (attributes attr) = 0
error_of (opened handle) = 0
error_of (created out handle) = 0
error_of (written count) = 0
error_of statfs_out = 0
error_of (inited out) = 0
error_of (bytes_out bytes) = 0

-- fuse_out_header: the whole length, the error, the message's number; and then the body
abbrev pub headed : ℕ → ℕ → List ℕ → List ℕ
headed unique error body = le32 (16 + length body) ++ le32 error ++ le64 unique ++ body

abbrev pub headed_if : ℕ → ℕ → Option (List ℕ) → Option (List ℕ)
headed_if unique error None = None
headed_if unique error (Some body) = Some (headed unique error body)

-- the bytes of the reply to the message of this number: None where there is no reply
abbrev pub reply_bytes : ℕ → Answer → Option (List ℕ)
reply_bytes unique a = headed_if unique (error_of a) (body_of a)

-- The grammar: which bytes are which message (`linux/fuse.h`, protocol 7.31). It says nothing of how they are read.
use Rattle.std.specs.Prelude.{◌≡◌, ◌≢◌, ◌≤◌, ◌<◌, ◌^◌, ℕ, List, [], ◌∷◌, ◌++◌, length}
use Rattle.std.specs.List.{AllByRecursion}
use Rattle.fuse_codec.specs.Message.{Asked, init, lookup, forget, batch_forget, interrupt, getattr, setattr, opening, opendir, read, write, flush, fsync, release, releasedir, readdir, create, mkdir, unlink, rmdir, statfs, destroy, Message}
use Rattle.fuse_codec.specs.Words.{le32, le64}

-- bytes that aren't looked at, so many of them
pub record Free (n : ℕ) (bytes : List ℕ) : Type 0 where
  pub len : length bytes ≡ n

-- a number in 4 bytes, and what follows
pub record Word (n : ℕ) (rest body : List ℕ) : Type 0 where
  pub fits : n < 2 ^ 32
  pub whole : body ≡ le32 n ++ rest

-- a number in 8 bytes, and what follows
pub record Long (n : ℕ) (rest body : List ℕ) : Type 0 where
  pub fits : n < 2 ^ 64
  pub whole : body ≡ le64 n ++ rest

-- a number, and behind it so many free bytes
abbrev pub WordAndFree : ℕ → ℕ → List ℕ → Type 0
WordAndFree n free body = (rest : List ℕ) × Free free rest × Word n rest body

abbrev pub LongAndFree : ℕ → ℕ → List ℕ → Type 0
LongAndFree n free body = (rest : List ℕ) × Free free rest × Long n rest body

-- the handle, the offset, the size, and what follows
pub record Part (fh offset size : ℕ) (rest body : List ℕ) : Type 0 where
  pub behind : List ℕ
  pub tail : List ℕ
  pub handle : Long fh behind body
  pub start : Long offset tail behind
  pub count : Word size rest tail
  pub few : size ≤ 131072

-- a name: 1 to 255 bytes, no zero and no slash, and neither `.` nor `..`
pub record IsName (name : List ℕ) : Type 0 where
  pub some : 0 < length name
  pub most : length name ≤ 255
  pub bytes : AllByRecursion (λ b. (b ≢ 0) × (b ≢ 47)) name
  pub not_dot : name ≢ 46 ∷ []
  pub not_dots : name ≢ 46 ∷ 46 ∷ []

-- a name, and one zero byte
pub record Named (name body : List ℕ) : Type 0 where
  pub name_is : IsName name
  pub whole : body ≡ name ++ 0 ∷ []

-- pairs of a node and a count, 16 bytes each
abbrev pub ArePairs : List (ℕ × ℕ) → List ℕ → Type 0
ArePairs [] bytes = bytes ≡ []
ArePairs (p ∷ ps) bytes = (behind : List ℕ) × (tail : List ℕ) × Long p.0 behind bytes × Long p.1 tail behind × ArePairs ps tail

-- The bytes behind the header, by what is asked: the fields of its structure in order, and the bytes that aren't looked at.
abbrev pub IsBody : Asked → List ℕ → Type 0
-- fuse_init_in: major, minor, max_readahead, flags, and whatever later protocols add
IsBody (init major minor max_readahead flags) body =
    (a b c rest : List ℕ) × Word major a body × Word minor b a × Word max_readahead c b × Word flags rest c
IsBody (lookup name) body = Named name body
-- fuse_forget_in: nlookup
IsBody (forget nlookup) body = LongAndFree nlookup 0 body
-- fuse_batch_forget_in: count, dummy; then the pairs
IsBody (batch_forget pairs) body =
    (rest dummy bytes : List ℕ) × Word (length pairs) rest body × Free 4 dummy × (rest ≡ dummy ++ bytes) × ArePairs pairs bytes
-- fuse_interrupt_in and fuse_getattr_in
IsBody interrupt body = Free 8 body
IsBody getattr body = Free 16 body
-- fuse_setattr_in: valid; padding and fh; size; from lock_owner to the end
IsBody (setattr valid size) body =
    (rest padding bytes : List ℕ) × Word valid rest body × Free 12 padding × (rest ≡ padding ++ bytes) × LongAndFree size 64 bytes
-- fuse_open_in: flags; one more word
IsBody (opening flags) body = WordAndFree flags 4 body
IsBody opendir body = Free 8 body
-- fuse_read_in: fh, offset, size; read_flags, lock_owner, flags, padding
IsBody (read fh offset size) body = (rest : List ℕ) × Free 20 rest × Part fh offset size rest body
-- fuse_write_in: fh, offset, size; write_flags, lock_owner, flags, padding; then so many bytes
IsBody (write fh offset bytes) body =
    (rest more : List ℕ) × Free 20 more × (rest ≡ more ++ bytes) × Part fh offset (length bytes) rest body
-- fuse_flush_in, fuse_fsync_in and fuse_release_in: fh, and what else they have
IsBody (flush fh) body = LongAndFree fh 16 body
IsBody (fsync fh) body = LongAndFree fh 8 body
IsBody (release fh) body = LongAndFree fh 16 body
IsBody (releasedir fh) body = LongAndFree fh 16 body
IsBody (readdir fh offset size) body = (rest : List ℕ) × Free 20 rest × Part fh offset size rest body
-- fuse_create_in and fuse_mkdir_in, and then the name
IsBody (create name) body = (more bytes : List ℕ) × Free 16 more × (body ≡ more ++ bytes) × Named name bytes
IsBody (mkdir name) body = (more bytes : List ℕ) × Free 8 more × (body ≡ more ++ bytes) × Named name bytes
IsBody (unlink name) body = Named name body
IsBody (rmdir name) body = Named name body
IsBody statfs body = Free 0 body
IsBody destroy body = Free 0 body

-- the opcode of what is asked
abbrev pub opcode_number : Asked → ℕ
opcode_number (init a b c d) = 26
opcode_number (lookup name) = 1
opcode_number (forget n) = 2
opcode_number (batch_forget pairs) = 42
opcode_number interrupt = 36
opcode_number getattr = 3
opcode_number (setattr valid size) = 4
opcode_number (opening flags) = 14
opcode_number opendir = 27
opcode_number (read fh offset size) = 15
opcode_number (write fh offset bytes) = 16
opcode_number (flush fh) = 25
opcode_number (fsync fh) = 20
opcode_number (release fh) = 18
opcode_number (releasedir fh) = 29
opcode_number (readdir fh offset size) = 28
opcode_number (create name) = 35
opcode_number (mkdir name) = 9
opcode_number (unlink name) = 10
opcode_number (rmdir name) = 11
opcode_number statfs = 17
opcode_number destroy = 38

-- fuse_in_header: len, opcode, unique, nodeid; and uid, gid, pid and padding, which aren't looked at
pub record HasHead (len opcode unique node : ℕ) (body message : List ℕ) : Type 0 where
  pub a : List ℕ
  pub b : List ℕ
  pub c : List ℕ
  pub d : List ℕ
  pub more : List ℕ
  pub length_first : Word len a message
  pub then_opcode : Word opcode b a
  pub then_unique : Long unique c b
  pub then_node : Long node d c
  pub free : Free 16 more
  pub then_body : d ≡ more ++ body

-- these bytes are the message
pub record Spells (bytes : List ℕ) (m : Message) : Type 0 where
  pub body : List ℕ
  pub head : HasHead (length bytes) (opcode_number m.asked) m.unique m.node body bytes
  pub asked : IsBody m.asked body

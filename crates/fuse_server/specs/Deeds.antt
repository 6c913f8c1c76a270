-- What a message comes to before any call of the host.
use Rattle.std.specs.Prelude.{◌≡◌, ◌≤◌, ℕ, [], length, Some, Result, Ok, Err}
use Rattle.mg_base.specs.declared.errno.Errno.{Errno}
use Rattle.mg_base.specs.declared.errno.Errno.TheVariants.{Enomem}
use Rattle.fuse_codec.specs.Message.{Asked, setattr, read, write, fsync, readdir}
use Rattle.fuse_codec.specs.Reply.{Answer, refused, silent, empty, entry, attributes, opened, written, statfs_out, inited, bytes_out}
use Rattle.fuse_server.specs.State as state
use Rattle.fuse_server.specs.State.{WritableFile, Writables, writable_at}
use Rattle.fuse_server.specs.Aims.{Aim, says, makes, reads, loads, writes, cuts, syncs}
use Rattle.fuse_server.specs.declared.deed.Behind.{Behind}
use Rattle.fuse_server.specs.declared.deed.Behind.TheVariants as behind
use Rattle.fuse_server.specs.declared.deed.Deed.{Deed}
use Rattle.fuse_server.specs.declared.deed.Deed.TheVariants as deed

-- the file at a number, and this by it
abbrev pub ByFile : {A : Type 0} → Writables → ℕ → A → (WritableFile → A) → Type 0
ByFile files number x made = (f : WritableFile) × (writable_at files number ≡ Some f) × (x ≡ made f)

-- it is the file of a node
abbrev pub IsBehind : Writables → Result state.Behind Errno → Result Behind Errno → Type 0
IsBehind files found (Err e) = found ≡ Err e
IsBehind files found (Ok (behind.Measured f)) = found ≡ Ok (state.measured f)
IsBehind files found (Ok (behind.Written number)) = ByFile files number found (λ f. Ok (state.written number f))

-- refused by its checks, or for want of memory for a handle
abbrev pub Refuses : Result Aim Errno → Errno → Type 0
Refuses (Err f) e = e ≡ f
Refuses (Ok (makes a)) e = e ≡ Enomem
Refuses (Ok other) e = ⊥

-- it is what the message aims at
abbrev pub IsDeed : Writables → Result Aim Errno → Result Deed Errno → Type 0
IsDeed files aim (Err e) = Refuses aim e
IsDeed files aim (Ok deed.Silent) = aim ≡ Ok (says silent)
IsDeed files aim (Ok deed.Empty) = aim ≡ Ok (says empty)
IsDeed files aim (Ok (deed.Entry x)) = aim ≡ Ok (says (entry x))
IsDeed files aim (Ok (deed.Attr x)) = aim ≡ Ok (says (attributes x))
IsDeed files aim (Ok (deed.Opened handle)) = aim ≡ Ok (makes (opened handle))
IsDeed files aim (Ok deed.Statfs) = aim ≡ Ok (says statfs_out)
IsDeed files aim (Ok (deed.Init x)) = aim ≡ Ok (says (inited x))
IsDeed files aim (Ok (deed.Names listing)) = aim ≡ Ok (makes (bytes_out listing))
IsDeed files aim (Ok deed.NoneWritten) = aim ≡ Ok (says (written 0))
IsDeed files aim (Ok (deed.Read r)) = aim ≡ Ok (reads r.file r.offset r.size)
IsDeed files aim (Ok (deed.Load r)) = ByFile files r.number aim (λ f. Ok (loads r.number f r.offset r.size))
IsDeed files aim (Ok (deed.Store w)) = ByFile files w.number aim (λ f. Ok (writes w.number f w.offset w.bytes.now))
IsDeed files aim (Ok (deed.Cut c)) = ByFile files c.number aim (λ f. Ok (cuts c.number f c.node c.size))
IsDeed files aim (Ok (deed.Sync number)) = ByFile files number aim (λ f. Ok (syncs number f))

-- a read of what is behind a node
abbrev pub reading_of : Behind → ℕ → ℕ → Deed
reading_of (behind.Measured f) offset size = deed.Read (record { file = f; offset = offset; size = size })
reading_of (behind.Written number) offset size = deed.Load (record { number = number; offset = offset; size = size })

-- what it is answered; work on a file is answered later
abbrev pub answer_to : Result Deed Errno → Answer
answer_to (Err e) = refused e
answer_to (Ok deed.Silent) = silent
answer_to (Ok deed.Empty) = empty
answer_to (Ok (deed.Entry x)) = entry x
answer_to (Ok (deed.Attr x)) = attributes x
answer_to (Ok (deed.Opened handle)) = opened handle
answer_to (Ok deed.Statfs) = statfs_out
answer_to (Ok (deed.Init x)) = inited x
answer_to (Ok (deed.Names listing)) = bytes_out listing
answer_to (Ok deed.NoneWritten) = written 0
answer_to (Ok other) = bytes_out []

-- a READ and a READDIR ask for at most 131,072 bytes, and a WRITE has no more
abbrev pub IsFew : Asked → Type 0
IsFew (read fh offset size) = size ≤ 131072
IsFew (write fh offset bytes) = length bytes ≤ 131072
IsFew (readdir fh offset size) = size ≤ 131072
IsFew other = Unit {0}

abbrev pub AreFew : Result Deed Errno → Type 0
AreFew (Ok (deed.Read r)) = r.size ≤ 131072
AreFew (Ok (deed.Load r)) = r.size ≤ 131072
AreFew (Ok (deed.Store w)) = length w.bytes.now ≤ 131072
AreFew other = Unit {0}

-- it is no work on a file
abbrev pub NoCall : Result Deed Errno → Type 0
NoCall (Ok (deed.Read r)) = ⊥
NoCall (Ok (deed.Load r)) = ⊥
NoCall (Ok (deed.Store w)) = ⊥
NoCall (Ok (deed.Cut c)) = ⊥
NoCall (Ok (deed.Sync number)) = ⊥
NoCall other = Unit {0}

-- only these come to work on a file
abbrev pub CallsBy : Asked → Result Deed Errno → Type 0
CallsBy (setattr valid size) d = AreFew d
CallsBy (read fh offset size) d = AreFew d
CallsBy (write fh offset bytes) d = AreFew d
CallsBy (fsync fh) d = AreFew d
CallsBy other d = NoCall d

-- this is what it is answered, if it is no work on a file
abbrev pub Answers : Result Deed Errno → Answer → Type 0
Answers (Ok (deed.Read r)) a = Unit {0}
Answers (Ok (deed.Load r)) a = Unit {0}
Answers (Ok (deed.Store w)) a = Unit {0}
Answers (Ok (deed.Cut c)) a = Unit {0}
Answers (Ok (deed.Sync number)) a = Unit {0}
Answers d a = a ≡ answer_to d

-- the writable files stay, but for what such work makes of one
abbrev pub StaysBy : Result Deed Errno → Writables → Writables → Type 0
StaysBy (Ok (deed.Load r)) old new = Unit {0}
StaysBy (Ok (deed.Store w)) old new = Unit {0}
StaysBy (Ok (deed.Cut c)) old new = Unit {0}
StaysBy (Ok (deed.Sync number)) old new = Unit {0}
StaysBy d old new = new ≡ old

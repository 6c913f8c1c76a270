-- No message changes the read-only files, and what aims at a file aims at one of the state.
use Rattle.std.proofs.Common.{◌≡◌, ◌+◌, ◌≤◌, if◌then◌else◌, ℕ, Bool, true, false, not, List, [], ◌∷◌, length, Option, Some, None, Result, Ok, Err, refl, ap, subst}
use Rattle.std.specs.Prelude.{nat_le}
use Rattle.std.proofs.lemmas.Bool.{leb-true}
use Rattle.mg_base.specs.declared.errno.Errno.{Errno}
use Rattle.mg_base.specs.declared.errno.Errno.TheVariants.{Eacces, Efbig, Enospc, Enosys, Eproto}
use Rattle.ro_file.specs.Files.{MeasuredFile}
use Rattle.authfs_dirs.specs.declared.kind.Kind.{Kind}
use Rattle.authfs_dirs.specs.declared.kind.Kind.TheVariants.{Dir, ReadOnly, Writable}
use Rattle.authfs_dirs.specs.Names.{◌>>=◌, needs, found, lookup_check, may_add, may_remove}
use Rattle.authfs_files.specs.Open.{may_open}
use Rattle.fuse_codec.specs.Message.{Asked, init, lookup, forget, batch_forget, interrupt, getattr, setattr, opening, opendir, read, write, flush, fsync, release, releasedir, readdir, create, mkdir, unlink, rmdir, statfs, destroy, Message, Bad, quiet, bad_length, bad_opcode, bad_sizes}
use Rattle.fuse_codec.specs.Reply as reply
use Rattle.fuse_codec.specs.Reply.{Answer}
use Rattle.fuse_server.specs.State.{State, WritableFile, Behind, measured, written, file_at, writable_at, as_file, attr_of, live, live_file, live_dir, held}
use Rattle.fuse_server.specs.Aims.{Aim, says, makes, reads, loads, writes, cuts, syncs, is_old, init_aim, lookup_aim, getattr_aim, setattr_aim, set_attr, size_aim, cut_of, may_reach, asks_size, open_aim, may_be_opened, opendir_aim, read_aim, read_of, write_aim, write_at, write_of, handled_aim, fsync_aim, sync_of, releasedir_aim, readdir_aim, add_aim, remove_aim, statfs_aim, ready_aim, message_aim, aim_of}
use Rattle.fuse_server.specs.Effects.{Change, nothing, rewrites, initialises, counts, forgets, forgets_all, opens, closes, destroys, change_of, Changed, UnlessRefused, counted}
use Rattle.fuse_server.specs.Serving.{FilesStay}

-- ---- the read-only files stay

same_if : (s new t : State) (b : Bool) → new ≡ (if b then t else s) → t.files ≡ s.files → new.files ≡ s.files
same_if s new t true e f = rw e f
same_if s new t false e f = rw e refl

looked : (s new : State) (r : Result ℕ Errno) → new ≡ counted s r → new.files ≡ s.files
looked s new (Ok node) e = rw e refl
looked s new (Err x) e = rw e refl

module _ (s new : State) where
  unless : (E : Type 0) (a : Answer) → UnlessRefused s new E a → (E → new.files ≡ s.files) → new.files ≡ s.files
  unless E (reply.refused e) u f = rw u refl
  unless E reply.silent u f = f u
  unless E reply.empty u f = f u
  unless E (reply.entry x) u f = f u
  unless E (reply.attributes x) u f = f u
  unless E (reply.opened h) u f = f u
  unless E (reply.created x h) u f = f u
  unless E (reply.written n) u f = f u
  unless E reply.statfs_out u f = f u
  unless E (reply.inited x) u f = f u
  unless E (reply.bytes_out bytes) u f = f u

  changed : (node : ℕ) (change : Change) (a : Answer) → Changed s node change a new → new.files ≡ s.files
  changed node nothing a u = rw u refl
  changed node rewrites a u = ap (λ (z : State). z.files) u
  changed node (initialises major) a u = unless _ a u (λ e. rw e refl)
  changed node (counts name) a u = unless _ a u (looked s new (lookup_check s.names.nodes node name))
  changed node (forgets n) a u = unless _ a u (λ e. same_if s new _ s.ready e refl)
  changed node (forgets_all pairs) a u = unless _ a u (λ e. same_if s new _ s.ready e refl)
  changed node opens a u = unless _ a u (λ e. rw e refl)
  changed node (closes fh) a u = unless _ a u (λ e. rw e refl)
  changed node destroys a u = unless _ a u (λ d. d.files)

pub files_stay : FilesStay
files_stay s (Ok m) a new u = changed s new m.node (change_of m.asked) a u
files_stay s (Err bad) a new u = rw u refl

-- ---- what is aimed at stands in the state

-- the file is one of the state; bytes and sizes end at the most that a file may have
abbrev pub OfFiles : State → Result Aim Errno → Type 0
OfFiles s (Ok (reads f offset size)) = (n : ℕ) × (file_at s.files n ≡ Some f)
OfFiles s (Ok (loads number f offset size)) = writable_at s.writables number ≡ Some f
OfFiles s (Ok (writes number f offset bytes)) = (writable_at s.writables number ≡ Some f) × (offset + length bytes ≤ 4294967296)
OfFiles s (Ok (cuts number f node size)) = (writable_at s.writables number ≡ Some f) × (size ≤ 4294967296)
OfFiles s (Ok (syncs number f)) = writable_at s.writables number ≡ Some f
OfFiles s (Ok (says a)) = Unit {0}
OfFiles s (Ok (makes a)) = Unit {0}
OfFiles s (Err e) = Unit {0}

abbrev IsBehind : State → Behind → Type 0
IsBehind s (measured f) = (n : ℕ) × (file_at s.files n ≡ Some f)
IsBehind s (written number f) = writable_at s.writables number ≡ Some f

bind_of : {A : Type 0} (s : State) (r : Result A Errno) (f : A → Result Aim Errno) → ((x : A) → r ≡ Ok x → OfFiles s (f x)) → OfFiles s (r >>= f)
bind_of s (Ok x) f g = g x refl
bind_of s (Err e) f g = tt

ok_is : {A : Type 0} (x y : A) → ◌≡◌ {A = Result A Errno} (Ok x) (Ok y) → x ≡ y
ok_is x y same = cc

module _ (s : State) where
  measured_is : (n : ℕ) (b : Behind) (o : Option MeasuredFile) → file_at s.files n ≡ o → (found o Enosys >>= λ f. Ok (measured f)) ≡ Ok b → IsBehind s b
  measured_is n b (Some f) at e = subst (IsBehind s) (ok_is (measured f) b e) (n, at)
  measured_is n b None at e = absurd cc

  written_is : (n : ℕ) (b : Behind) (o : Option WritableFile) → writable_at s.writables n ≡ o → (found o Enosys >>= λ f. Ok (written n f)) ≡ Ok b → IsBehind s b
  written_is n b (Some f) at e = subst (IsBehind s) (ok_is (written n f) b e) at
  written_is n b None at e = absurd cc

  as_is : (kind : Kind) (b : Behind) → as_file s kind ≡ Ok b → IsBehind s b
  as_is (Dir host) b e = absurd cc
  as_is (ReadOnly n) b e = measured_is n b (file_at s.files n) refl e
  as_is (Writable n) b e = written_is n b (writable_at s.writables n) refl e

  live_is : (b : Behind) (r : Result Kind Errno) → (r >>= λ kind. as_file s kind) ≡ Ok b → IsBehind s b
  live_is b (Ok kind) e = as_is kind b e
  live_is b (Err x) e = absurd cc

  getattr_of : (n : ℕ) → OfFiles s (getattr_aim s n)
  unfolding getattr_aim
  getattr_of n = bind_of s (live s n) _ (λ kind e. bind_of s (attr_of s n kind) _ (λ attr g. tt))

  cut_is : (n node size : ℕ) (f : WritableFile) (b : Bool) → may_reach size ≡ b → writable_at s.writables n ≡ Some f → OfFiles s (needs b Efbig >>= λ u. Ok (cuts n f node size))
  cut_is n node size f true low at = (at, leb-true size 4294967296 low)
  cut_is n node size f false low at = tt

  size_is : (n node size : ℕ) (o : Option WritableFile) → writable_at s.writables n ≡ o → OfFiles s (found o Enosys >>= λ f. cut_of n node size f)
  size_is n node size (Some f) at = cut_is n node size f (may_reach size) refl at
  size_is n node size None at = tt

  size_of : (node size : ℕ) (kind : Kind) → OfFiles s (size_aim s node size kind)
  size_of node size (Dir host) = tt
  size_of node size (ReadOnly file) = tt
  size_of node size (Writable file) = size_is file node size (writable_at s.writables file) refl

  set_of : (n size : ℕ) (kind : Kind) (b : Bool) → OfFiles s (if b then size_aim s n size kind else getattr_aim s n)
  set_of n size kind true = size_of n size kind
  set_of n size kind false = getattr_of n

  put_is : (n offset : ℕ) (f : WritableFile) (bytes : List ℕ) (b : Bool) → may_reach (offset + length bytes) ≡ b → writable_at s.writables n ≡ Some f
      → OfFiles s (needs b Efbig >>= λ u. Ok (writes n f offset bytes))
  put_is n offset f bytes true low at = (at, leb-true (offset + length bytes) 4294967296 low)
  put_is n offset f bytes false low at = tt

  put_of : (n offset : ℕ) (f : WritableFile) (bytes : List ℕ) → writable_at s.writables n ≡ Some f → OfFiles s (write_at n f offset bytes)
  put_of n offset f [] at = tt
  put_of n offset f (b ∷ bytes) at = put_is n offset f (b ∷ bytes) (may_reach (offset + length (b ∷ bytes))) refl at

  write_to : (b : Behind) (offset : ℕ) (bytes : List ℕ) → IsBehind s b → OfFiles s (write_of b offset bytes)
  write_to (measured f) offset bytes is = tt
  write_to (written n f) offset bytes is = put_of n offset f bytes is

  read_to : (b : Behind) (offset size : ℕ) → IsBehind s b → OfFiles s (Ok (read_of b offset size))
  read_to (measured f) offset size is = is
  read_to (written n f) offset size is = is

  sync_to : (b : Behind) → IsBehind s b → OfFiles s (Ok (sync_of b))
  sync_to (measured f) is = tt
  sync_to (written n f) is = is

  -- behind the checks of a file and of a handle
  held_of : (n fh : ℕ) (rest : Behind → Result Aim Errno) → ((b : Behind) → IsBehind s b → OfFiles s (rest b)) → OfFiles s (live_file s n >>= λ b. held s fh n >>= λ u. rest b)
  held_of n fh rest so = bind_of s (live_file s n) _ (λ b e. bind_of s (held s fh n) _ (λ u g. so b (live_is b (live s n) e)))

  init_of : (a b c e : ℕ) → OfFiles s (init_aim s a b c e)
  unfolding init_aim
  init_of a b c e = bind_of s (needs (not s.ready) Eproto) _ (λ u f. bind_of s (needs (not (is_old a b)) Eproto) _ (λ v g. tt))

  ready_of : (n : ℕ) (asked : Asked) → OfFiles s (ready_aim s n asked)
  unfolding ready_aim lookup_aim setattr_aim open_aim opendir_aim read_aim write_aim handled_aim fsync_aim releasedir_aim readdir_aim add_aim remove_aim statfs_aim
  ready_of n (init a b c e) = init_of a b c e
  ready_of n (forget k) = tt
  ready_of n (batch_forget pairs) = tt
  ready_of n interrupt = tt
  ready_of n opendir = bind_of s (live_dir s n) _ (λ u e. bind_of s (needs (may_open s.open_handles s.given) Enospc) _ (λ v g. tt))
  ready_of n (releasedir fh) = bind_of s (live_dir s n) _ (λ u e. bind_of s (held s fh n) _ (λ v g. tt))
  ready_of n (readdir fh offset size) = bind_of s (live_dir s n) _ (λ u e. bind_of s (held s fh n) _ (λ v g. tt))
  ready_of n (lookup name) = bind_of s (lookup_check s.names.nodes n name) _
      (λ node e. bind_of s (live s node) _ (λ kind f. bind_of s (attr_of s node kind) _ (λ attr g. tt)))
  ready_of n getattr = getattr_of n
  ready_of n (setattr valid size) = bind_of s (live s n) _ (λ kind e. set_of n size kind (asks_size valid))
  ready_of n (opening flags) = bind_of s (live_file s n) _
      (λ b e. bind_of s (needs (may_be_opened b flags) Eacces) _ (λ u g. bind_of s (needs (may_open s.open_handles s.given) Enospc) _ (λ v h. tt)))
  ready_of n (read fh offset size) = held_of n fh (λ b. Ok (read_of b offset size)) (λ b is. read_to b offset size is)
  ready_of n (write fh offset bytes) = held_of n fh (λ b. write_of b offset bytes) (λ b is. write_to b offset bytes is)
  ready_of n (flush fh) = held_of n fh (λ b. Ok (says reply.empty)) (λ b is. tt)
  ready_of n (fsync fh) = held_of n fh (λ b. Ok (sync_of b)) sync_to
  ready_of n (release fh) = held_of n fh (λ b. Ok (says reply.empty)) (λ b is. tt)
  ready_of n (create name) = bind_of s (may_add s.names n name) _ (λ host e. tt)
  ready_of n (mkdir name) = bind_of s (may_add s.names n name) _ (λ host e. tt)
  ready_of n (unlink name) = bind_of s (may_remove s.names.nodes n name false) _ (λ host e. tt)
  ready_of n (rmdir name) = bind_of s (may_remove s.names.nodes n name true) _ (λ host e. tt)
  ready_of n statfs = bind_of s (live s n) _ (λ kind e. tt)
  ready_of n destroy = tt

  -- once initialised
  then_ready : (n : ℕ) (asked : Asked) → OfFiles s (needs s.ready Eproto >>= λ u. ready_aim s n asked)
  then_ready n asked = bind_of s (needs s.ready Eproto) _ (λ u e. ready_of n asked)

  asked_of : (n : ℕ) (asked : Asked) → OfFiles s (message_aim s n asked)
  unfolding message_aim
  asked_of n (init a b c e) = init_of a b c e
  asked_of n (forget k) = tt
  asked_of n (batch_forget pairs) = tt
  asked_of n interrupt = tt
  asked_of n (lookup name) = then_ready n (lookup name)
  asked_of n getattr = then_ready n getattr
  asked_of n (setattr valid size) = then_ready n (setattr valid size)
  asked_of n (opening flags) = then_ready n (opening flags)
  asked_of n opendir = then_ready n opendir
  asked_of n (read fh offset size) = then_ready n (read fh offset size)
  asked_of n (write fh offset bytes) = then_ready n (write fh offset bytes)
  asked_of n (flush fh) = then_ready n (flush fh)
  asked_of n (fsync fh) = then_ready n (fsync fh)
  asked_of n (release fh) = then_ready n (release fh)
  asked_of n (releasedir fh) = then_ready n (releasedir fh)
  asked_of n (readdir fh offset size) = then_ready n (readdir fh offset size)
  asked_of n (create name) = then_ready n (create name)
  asked_of n (mkdir name) = then_ready n (mkdir name)
  asked_of n (unlink name) = then_ready n (unlink name)
  asked_of n (rmdir name) = then_ready n (rmdir name)
  asked_of n statfs = then_ready n statfs
  asked_of n destroy = then_ready n destroy

  pub all_of : (m : Result Message Bad) → OfFiles s (aim_of s m)
  all_of (Ok m) = asked_of m.node m.asked
  all_of (Err quiet) = tt
  all_of (Err (bad_length unique)) = tt
  all_of (Err (bad_opcode unique op)) = tt
  all_of (Err (bad_sizes unique)) = tt

  pub aim_file : (m : Result Message Bad) (f : MeasuredFile) (offset size : ℕ) → aim_of s m ≡ Ok (reads f offset size) → (n : ℕ) × (file_at s.files n ≡ Some f)
  aim_file m f offset size is = rw is at (all_of m)

-- What is answered over names that are served.
use Rattle.std.proofs.Common.{◌≡◌, ◌+◌, if◌then◌else◌, ℕ, Bool, not, true, false, List, [], ◌∷◌, length, Option, Some, None, IsSome, Result, Ok, Err, refl, ap, subst}
use Rattle.std.specs.Option.{option_map}
use Rattle.std.specs.FinMap as map
use Rattle.mg_base.specs.declared.errno.Errno.{Errno}
use Rattle.mg_base.specs.declared.errno.Errno.TheVariants.{Enoent, Enotdir, Eisdir, Eacces, Ebadf, Efbig, Einval, Enospc, Enosys, Eproto}
use Rattle.authfs_dirs.specs.declared.kind.Kind.{Kind}
use Rattle.authfs_dirs.specs.declared.kind.Kind.TheVariants.{Dir, ReadOnly, Writable}
use Rattle.authfs_dirs.specs.Names.{Node, NodeMap, ◌>>=◌, needs, found, node_at, directory, lookup_check, is_dir, host_of, may_add, may_remove}
use Rattle.authfs_files.specs.Open.{may_open}
use Rattle.fuse_codec.specs.Message.{Asked, init, lookup, forget, batch_forget, interrupt, getattr, setattr, opening, opendir, read, write, flush, fsync, release, releasedir, readdir, create, mkdir, unlink, rmdir, statfs, destroy, Message, Bad, quiet, bad_length, bad_opcode, bad_sizes}
use Rattle.fuse_server.specs.State.{State, WritableFile, Behind, measured, written, file_at, writable_at, as_file, attr_of, attr_of_file, attr_of_size, live, live_file, live_dir, held}
use Rattle.fuse_server.specs.Aims.{Aim, is_old, init_aim, lookup_aim, getattr_aim, setattr_aim, cut_of, size_aim, asks_size, may_reach, may_be_opened, write_at, write_of, open_aim, opendir_aim, read_aim, write_aim, handled_aim, fsync_aim, releasedir_aim, readdir_aim, add_aim, remove_aim, statfs_aim, ready_aim, message_aim, aim_of}
use Rattle.fuse_server.specs.Serving.{IsServedKind, AreServed, IsUnknown}

abbrev NotNosys : {A : Type 0} → Result A Errno → Type 0
NotNosys r = r ≡ Err Enosys → ⊥

err_is : {A : Type 0} (e : Errno) → ◌≡◌ {A = Result A Errno} (Err e) (Err Enosys) → e ≡ Enosys
err_is e same = cc

ok_is : {A : Type 0} (x y : A) → ◌≡◌ {A = Result A Errno} (Ok x) (Ok y) → x ≡ y
ok_is x y same = cc

no_err : {A : Type 0} (x : A) → ◌≡◌ {A = Result A Errno} (Ok x) (Err Enosys) → ⊥
no_err x same = absurd cc

bind_not : {A B : Type 0} (r : Result A Errno) (f : A → Result B Errno) → NotNosys r → ((x : A) → r ≡ Ok x → NotNosys (f x)) → NotNosys (r >>= f)
bind_not (Ok x) f n g e = g x refl e
bind_not (Err e) f n g same = n (ap Err (err_is e same))

needs_not : (b : Bool) (e : Errno) → (e ≡ Enosys → ⊥) → NotNosys (needs b e)
needs_not true e n same = no_err tt same
needs_not false e n same = n (err_is e same)

found_not : {A : Type 0} (o : Option A) (e : Errno) → (e ≡ Enosys → ⊥) → NotNosys (found o e)
found_not (Some x) e n same = no_err x same
found_not None e n same = n (err_is e same)

some_not : {A : Type 0} (o : Option A) → IsSome o → NotNosys (found o Enosys)
some_not (Some x) there same = no_err x same
some_not None there same = absurd cc

proto_not : Eproto ≡ Enosys → ⊥
proto_not e = absurd cc

noent_not : Enoent ≡ Enosys → ⊥
noent_not e = absurd cc

notdir_not : Enotdir ≡ Enosys → ⊥
notdir_not e = absurd cc

isdir_not : Eisdir ≡ Enosys → ⊥
isdir_not e = absurd cc

fbig_not : Efbig ≡ Enosys → ⊥
fbig_not e = absurd cc

acces_not : Eacces ≡ Enosys → ⊥
acces_not e = absurd cc

badf_not : Ebadf ≡ Enosys → ⊥
badf_not e = absurd cc

nospc_not : Enospc ≡ Enosys → ⊥
nospc_not e = absurd cc

inval_not : Einval ≡ Enosys → ⊥
inval_not e = absurd cc

file_not : (s : State) (kind : Kind) → IsServedKind s kind → NotNosys (as_file s kind)
file_not s (Dir host) w same = isdir_not (err_is Eisdir same)
file_not s (ReadOnly file) w same = bind_not (found (file_at s.files file) Enosys) (λ f. Ok (measured f)) (some_not (file_at s.files file) w) (λ f e. no_err _) same
file_not s (Writable file) w same = bind_not (found (writable_at s.writables file) Enosys) (λ f. Ok (written file f)) (some_not (writable_at s.writables file) w) (λ f e. no_err _) same

attr_not : (s : State) (node : ℕ) (kind : Kind) → IsServedKind s kind → NotNosys (attr_of s node kind)
attr_not s node (Dir host) w same = no_err _ same
attr_not s node (ReadOnly file) w same = bind_not (found (file_at s.files file) Enosys) (λ f. Ok (attr_of_file node f)) (some_not (file_at s.files file) w) (λ f e. no_err _) same
attr_not s node (Writable file) w same = bind_not (found (writable_at s.writables file) Enosys) (λ f. Ok (attr_of_size node f.size)) (some_not (writable_at s.writables file) w) (λ f e. no_err _) same

cut_not : (number node size : ℕ) (f : WritableFile) → NotNosys (cut_of number node size f)
cut_not number node size f = bind_not (needs (may_reach size) Efbig) _ (needs_not (may_reach size) Efbig fbig_not) (λ u e. no_err _)

size_not : (s : State) (node size : ℕ) (kind : Kind) → IsServedKind s kind → NotNosys (size_aim s node size kind)
size_not s node size (Dir host) w same = isdir_not (err_is Eisdir same)
size_not s node size (ReadOnly file) w same = acces_not (err_is Eacces same)
size_not s node size (Writable file) w same = bind_not (found (writable_at s.writables file) Enosys) (λ f. cut_of file node size f) (some_not (writable_at s.writables file) w) (λ f e. cut_not file node size f) same

put_not : (number : ℕ) (f : WritableFile) (offset : ℕ) (bytes : List ℕ) → NotNosys (write_at number f offset bytes)
put_not number f offset [] = no_err _
put_not number f offset (b ∷ bytes) = bind_not (needs (may_reach (offset + length (b ∷ bytes))) Efbig) _ (needs_not (may_reach (offset + length (b ∷ bytes))) Efbig fbig_not) (λ u e. no_err _)

bytes_not : (b : Behind) (offset : ℕ) (bytes : List ℕ) → NotNosys (write_of b offset bytes)
bytes_not (measured f) offset bytes same = acces_not (err_is Eacces same)
bytes_not (written number f) offset bytes same = put_not number f offset bytes same

dir_not : (m : NodeMap) (n : ℕ) → NotNosys (directory m n)
unfolding directory
dir_not m n = bind_not (found (map.get m n) Enoent) _ (found_not _ Enoent noent_not) (λ x e. bind_not (needs (is_dir x.kind) Enotdir) _ (needs_not _ Enotdir notdir_not) (λ u f. no_err x))

dir_some : (y x : Node) (b : Bool) → (needs b Enotdir >>= λ _. Ok y) ≡ Ok x → ◌≡◌ {A = Option Node} (Some y) (Some x)
dir_some y x true e = ap Some (ok_is y x e)
dir_some y x false e = absurd cc

dir_by : (x : Node) (o : Option Node) → (found o Enoent >>= λ y. needs (is_dir y.kind) Enotdir >>= λ _. Ok y) ≡ Ok x → o ≡ Some x
dir_by x None e = absurd cc
dir_by x (Some y) e = dir_some y x (is_dir y.kind) e

dir_at : (m : NodeMap) (n : ℕ) (x : Node) → directory m n ≡ Ok x → map.get m n ≡ Some x
unfolding directory
dir_at m n x e = dir_by x (map.get m n) e

host_none : (s : State) (kind : Kind) → IsServedKind s kind → host_of kind ≡ None
host_none s (Dir None) w = refl
host_none s (Dir (Some host)) w = absurd w
host_none s (ReadOnly file) w = refl
host_none s (Writable file) w = refl

no_host : (o : Option ℕ) (rest : ℕ → Result ℕ Errno) → o ≡ None → NotNosys {A = Aim} ((found o Eacces >>= rest) >>= λ _. Err Enosys)
no_host o rest none = rw none (λ same. acces_not (err_is Eacces same))

changed_by : (s : State) → AreServed s → (n : ℕ) (rest : Node → ℕ → Result ℕ Errno) (d : Result Node Errno) → directory s.names.nodes n ≡ d
    → NotNosys {A = Aim} ((d >>= λ x. found (host_of x.kind) Eacces >>= rest x) >>= λ _. Err Enosys)
changed_by s w n rest (Err e) there same = dir_not s.names.nodes n (rw there (ap Err (err_is e same)))
changed_by s w n rest (Ok x) there same = no_host (host_of x.kind) (rest x) (host_none s x.kind (w n x (dir_at s.names.nodes n x there))) same

module _ (s : State) (w : AreServed s) where
  live_not : (n : ℕ) → NotNosys (live s n)
  live_not n = found_not _ Enoent noent_not

  kind_by : (n : ℕ) (kind : Kind) (o : Option Node) → node_at s.names n ≡ o → found (option_map (λ (x : Node). x.kind) o) Enoent ≡ Ok kind → IsServedKind s kind
  kind_by n kind None there e = absurd cc
  kind_by n kind (Some x) there e = subst (IsServedKind s) (ok_is x.kind kind e) (w n x there)

  kind_at : (n : ℕ) (kind : Kind) → live s n ≡ Ok kind → IsServedKind s kind
  kind_at n kind e = kind_by n kind (node_at s.names n) refl e

  live_file_not : (n : ℕ) → NotNosys (live_file s n)
  live_file_not n = bind_not (live s n) _ (live_not n) (λ kind e. file_not s kind (kind_at n kind e))

  held_not : (fh n : ℕ) → NotNosys (held s fh n)
  held_not fh n = needs_not _ Ebadf badf_not

  lookup_not : (n : ℕ) (name : List ℕ) → NotNosys (lookup_aim s n name)
  unfolding lookup_aim lookup_check
  lookup_not n name = bind_not (lookup_check s.names.nodes n name) _ (bind_not (directory s.names.nodes n) _ (dir_not _ n) (λ x e. found_not _ Enoent noent_not))
      (λ node e. bind_not (live s node) _ (live_not node) (λ kind f. bind_not (attr_of s node kind) _ (attr_not s node kind (kind_at node kind f)) (λ attr g. no_err _)))

  getattr_not : (n : ℕ) → NotNosys (getattr_aim s n)
  unfolding getattr_aim
  getattr_not n = bind_not (live s n) _ (live_not n) (λ kind f. bind_not (attr_of s n kind) _ (attr_not s n kind (kind_at n kind f)) (λ attr g. no_err _))

  set_not : (n size : ℕ) (kind : Kind) (b : Bool) → IsServedKind s kind → NotNosys (if b then size_aim s n size kind else getattr_aim s n)
  set_not n size kind true k = size_not s n size kind k
  set_not n size kind false k = getattr_not n

  setattr_not : (n valid size : ℕ) → NotNosys (setattr_aim s n valid size)
  unfolding setattr_aim
  setattr_not n valid size = bind_not (live s n) _ (live_not n) (λ kind f. set_not n size kind (asks_size valid) (kind_at n kind f))

  open_not : (n flags : ℕ) → NotNosys (open_aim s n flags)
  unfolding open_aim
  open_not n flags = bind_not (live_file s n) _ (live_file_not n) (λ f e. bind_not (needs (may_be_opened f flags) Eacces) _ (needs_not (may_be_opened f flags) Eacces acces_not) (λ u g. bind_not (needs (may_open s.open_handles s.given) Enospc) _ (needs_not (may_open s.open_handles s.given) Enospc nospc_not) (λ v h. no_err _)))

  read_not : (n fh offset size : ℕ) → NotNosys (read_aim s n fh offset size)
  unfolding read_aim
  read_not n fh offset size = bind_not (live_file s n) _ (live_file_not n) (λ f e. bind_not (held s fh n) _ (held_not fh n) (λ u g. no_err _))

  write_not : (n fh offset : ℕ) (bytes : List ℕ) → NotNosys (write_aim s n fh offset bytes)
  unfolding write_aim
  write_not n fh offset bytes = bind_not (live_file s n) _ (live_file_not n) (λ b e. bind_not (held s fh n) _ (held_not fh n) (λ u g. bytes_not b offset bytes))

  fsync_not : (n fh : ℕ) → NotNosys (fsync_aim s n fh)
  unfolding fsync_aim
  fsync_not n fh = bind_not (live_file s n) _ (live_file_not n) (λ f e. bind_not (held s fh n) _ (held_not fh n) (λ u g. no_err _))

  live_dir_not : (n : ℕ) → NotNosys (live_dir s n)
  live_dir_not n = bind_not (live s n) _ (live_not n) (λ kind e. needs_not (is_dir kind) Enotdir notdir_not)

  opendir_not : (n : ℕ) → NotNosys (opendir_aim s n)
  unfolding opendir_aim
  opendir_not n = bind_not (live_dir s n) _ (live_dir_not n) (λ u e. bind_not (needs (may_open s.open_handles s.given) Enospc) _ (needs_not (may_open s.open_handles s.given) Enospc nospc_not) (λ v g. no_err _))

  releasedir_not : (n fh : ℕ) → NotNosys (releasedir_aim s n fh)
  unfolding releasedir_aim
  releasedir_not n fh = bind_not (live_dir s n) _ (live_dir_not n) (λ u e. bind_not (held s fh n) _ (held_not fh n) (λ v g. no_err _))

  readdir_not : (n fh offset size : ℕ) → NotNosys (readdir_aim s n fh offset size)
  unfolding readdir_aim
  readdir_not n fh offset size = bind_not (live_dir s n) _ (live_dir_not n) (λ u e. bind_not (held s fh n) _ (held_not fh n) (λ v g. no_err _))

  handled_not : (n fh : ℕ) → NotNosys (handled_aim s n fh)
  unfolding handled_aim
  handled_not n fh = bind_not (live_file s n) _ (live_file_not n) (λ f e. bind_not (held s fh n) _ (held_not fh n) (λ u g. no_err _))

  add_not : (n : ℕ) (name : List ℕ) → NotNosys (add_aim s n name)
  unfolding add_aim may_add
  add_not n name = changed_by s w n _ (directory s.names.nodes n) refl

  remove_not : (n : ℕ) (name : List ℕ) (dir : Bool) → NotNosys (remove_aim s n name dir)
  unfolding remove_aim may_remove
  remove_not n name dir = changed_by s w n _ (directory s.names.nodes n) refl

  statfs_not : (n : ℕ) → NotNosys (statfs_aim s n)
  unfolding statfs_aim
  statfs_not n = bind_not (live s n) _ (live_not n) (λ kind f. no_err _)

  init_not : (a b c e : ℕ) → NotNosys (init_aim s a b c e)
  unfolding init_aim
  init_not a b c e = bind_not (needs (not s.ready) Eproto) _ (needs_not (not s.ready) Eproto proto_not) (λ u f. bind_not (needs (not (is_old a b)) Eproto) _ (needs_not (not (is_old a b)) Eproto proto_not) (λ v g. no_err _))

  asked_not : (n : ℕ) (asked : Asked) → message_aim s n asked ≡ Err Enosys → ⊥
  unfolding message_aim ready_aim
  asked_not n (init a b c e) same = init_not a b c e same
  asked_not n (forget k) same = no_err _ same
  asked_not n (batch_forget pairs) same = no_err _ same
  asked_not n interrupt same = no_err _ same
  asked_not n opendir same = bind_not (needs s.ready Eproto) _ (needs_not s.ready Eproto proto_not) (λ u e. opendir_not n) same
  asked_not n (releasedir fh) same = bind_not (needs s.ready Eproto) _ (needs_not s.ready Eproto proto_not) (λ u e. releasedir_not n fh) same
  asked_not n (readdir fh offset size) same = bind_not (needs s.ready Eproto) _ (needs_not s.ready Eproto proto_not) (λ u e. readdir_not n fh offset size) same
  asked_not n (lookup name) same = bind_not (needs s.ready Eproto) _ (needs_not s.ready Eproto proto_not) (λ u e. lookup_not n name) same
  asked_not n getattr same = bind_not (needs s.ready Eproto) _ (needs_not s.ready Eproto proto_not) (λ u e. getattr_not n) same
  asked_not n (setattr valid size) same = bind_not (needs s.ready Eproto) _ (needs_not s.ready Eproto proto_not) (λ u e. setattr_not n valid size) same
  asked_not n (opening flags) same = bind_not (needs s.ready Eproto) _ (needs_not s.ready Eproto proto_not) (λ u e. open_not n flags) same
  asked_not n (read fh offset size) same = bind_not (needs s.ready Eproto) _ (needs_not s.ready Eproto proto_not) (λ u e. read_not n fh offset size) same
  asked_not n (write fh offset bytes) same = bind_not (needs s.ready Eproto) _ (needs_not s.ready Eproto proto_not) (λ u e. write_not n fh offset bytes) same
  asked_not n (flush fh) same = bind_not (needs s.ready Eproto) _ (needs_not s.ready Eproto proto_not) (λ u e. handled_not n fh) same
  asked_not n (fsync fh) same = bind_not (needs s.ready Eproto) _ (needs_not s.ready Eproto proto_not) (λ u e. fsync_not n fh) same
  asked_not n (release fh) same = bind_not (needs s.ready Eproto) _ (needs_not s.ready Eproto proto_not) (λ u e. handled_not n fh) same
  asked_not n (create name) same = bind_not (needs s.ready Eproto) _ (needs_not s.ready Eproto proto_not) (λ u e. add_not n name) same
  asked_not n (mkdir name) same = bind_not (needs s.ready Eproto) _ (needs_not s.ready Eproto proto_not) (λ u e. add_not n name) same
  asked_not n (unlink name) same = bind_not (needs s.ready Eproto) _ (needs_not s.ready Eproto proto_not) (λ u e. remove_not n name false) same
  asked_not n (rmdir name) same = bind_not (needs s.ready Eproto) _ (needs_not s.ready Eproto proto_not) (λ u e. remove_not n name true) same
  asked_not n statfs same = bind_not (needs s.ready Eproto) _ (needs_not s.ready Eproto proto_not) (λ u e. statfs_not n) same
  asked_not n destroy same = bind_not (needs s.ready Eproto) _ (needs_not s.ready Eproto proto_not) (λ u e. no_err _) same

  pub all_served : (m : Result Message Bad) → aim_of s m ≡ Err Enosys → IsUnknown m
  all_served (Ok m) same = asked_not m.node m.asked same
  all_served (Err quiet) same = absurd (no_err _ same)
  all_served (Err (bad_length unique)) same = absurd (inval_not (err_is Einval same))
  all_served (Err (bad_opcode unique op)) same = tt
  all_served (Err (bad_sizes unique)) same = absurd (inval_not (err_is Einval same))

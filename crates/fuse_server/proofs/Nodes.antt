-- A handle that is held, a live directory, and a writable file behind a node.
use Rattle.std.proofs.Common.{◌≡◌, ℕ, Bool, true, false, List, Option, Some, None, Result, Ok, refl, IsSome, IsTrue}
use Rattle.authfs_files.specs.Open.{node_of, is_of, holds}
use Rattle.mg_base.specs.declared.errno.Errno.{Errno}
use Rattle.mg_base.specs.declared.errno.Errno.TheVariants.{Enoent, Enotdir, Ebadf}
use Rattle.authfs_dirs.specs.declared.kind.Kind.{Kind}
use Rattle.authfs_dirs.specs.Names.{◌>>=◌, needs, found, is_dir, kind_at, is_live_dir}
use Rattle.fuse_server.specs.State.{State, WritableFile, written, writable_at, live_file, live_dir, held}
use Rattle.fuse_server.specs.Aims.{write_at, write_aim}
use Rattle.fuse_server.specs.Deeds.{ByFile, IsDeed}
use Rattle.fuse_server.specs.declared.deed.Deed.{Deed}

some_of : (o : Option ℕ) (node : ℕ) → is_of o node ≡ true → IsSome o
some_of None node e = absurd cc
some_of (Some n) node e = refl

-- a handle that is held is open
pub held_open : (s : State) (fh node : ℕ) → held s fh node ≡ Ok tt → IsSome (node_of fh s.open_handles)
unfolding holds
held_open s fh node e = some_of (node_of fh s.open_handles) node (by (is_of (node_of fh s.open_handles) node) e) where
  by : (b : Bool) → needs b Ebadf ≡ Ok tt → b ≡ true
  by true e = refl
  by false e = absurd cc

dir_if : (kind : Kind) (b : Bool) → is_dir kind ≡ b → needs b Enotdir ≡ Ok tt → IsTrue (is_dir kind)
dir_if kind true is e = is
dir_if kind false is e = absurd cc

dir_by : (o : Option Kind) → (found o Enoent >>= λ kind. needs (is_dir kind) Enotdir) ≡ Ok tt → IsTrue (is_live_dir o)
dir_by None e = absurd cc
dir_by (Some kind) e = dir_if kind (is_dir kind) refl e

-- what passes the check of a directory is a live one
pub dir_live : (s : State) (node : ℕ) → live_dir s node ≡ Ok tt → IsTrue (is_live_dir (kind_at s.names node))
dir_live s node e = dir_by (kind_at s.names node) e

-- behind the checks of a file and of a handle
pub write_row : (s : State) (node fh offset number : ℕ) (bytes : List ℕ) (d : Result Deed Errno) → ByFile s.writables number (live_file s node) (λ f. Ok (written number f)) → held s fh node ≡ Ok tt
    → ((f : WritableFile) → writable_at s.writables number ≡ Some f → IsDeed s.writables (write_at number f offset bytes) d) → IsDeed s.writables (write_aim s node fh offset bytes) d
unfolding write_aim
write_row s node fh offset number bytes d b h so = rw b.2 (rw h (so b.0 b.1))

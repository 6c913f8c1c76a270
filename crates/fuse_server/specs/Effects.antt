-- What a message makes of the state, by its answer.
use Rattle.std.specs.Prelude.{◌≡◌, true, false, ℕ, ◌+◌, nat_lt, List, [], ◌∷◌, ◌++◌, Result, Ok, Err, if◌then◌else◌}
use Rattle.mg_base.specs.declared.errno.Errno.{Errno}
use Rattle.authfs_dirs.specs.Names.{Names, lookup_check, looked_up, forgotten, pinned, unpinned, IsReset}
use Rattle.authfs_files.specs.Open.{closed}
use Rattle.fuse_codec.specs.Message.{Asked, init, lookup, forget, batch_forget, interrupt, getattr, setattr, opening, opendir, read, write, flush, fsync, release, releasedir, readdir, create, mkdir, unlink, rmdir, statfs, destroy, Message, Bad}
use Rattle.fuse_codec.specs.Reply.{Answer, refused, silent, empty, entry, attributes, opened, created, written, statfs_out, inited, bytes_out}
use Rattle.fuse_server.specs.State.{State, Writables}

abbrev pub with_names : State → Names → State
with_names s names = record s { names = names }

-- other files that the guest writes
abbrev pub with_writables : State → Writables → State
with_writables s files = record s { writables = files }

-- one lookup more of the node that the name names
abbrev pub counted : State → Result ℕ Errno → State
counted s (Ok node) = with_names s (looked_up s.names node)
counted s (Err e) = s

-- pair by pair
abbrev pub all_forgotten : Names → List (ℕ × ℕ) → Names
all_forgotten names [] = names
all_forgotten names (p ∷ pairs) = all_forgotten (forgotten names p.0 p.1) pairs

-- one handle more, of a node
abbrev pub with_handle : State → ℕ → State
with_handle s node = record s { names = pinned s.names node; open_handles = s.open_handles ++ (s.given + 1, node) ∷ []; given = s.given + 1 }

abbrev pub without_handle : State → ℕ → ℕ → State
without_handle s node fh = record s { names = unpinned s.names node; open_handles = closed fh s.open_handles }

-- a major above 7 is told ours, and isn't initialised
abbrev pub initialised : State → ℕ → State
initialised s major = record s { ready = (if nat_lt 7 major then s.ready else true) }

-- not initialised, no handle, no lookup; numbers go on
pub record IsDestroyed (s new : State) : Type 0 where
  pub names : IsReset s.names new.names
  pub ready : new.ready ≡ false
  pub handles : new.open_handles ≡ []
  pub given : new.given ≡ s.given
  pub files : new.files ≡ s.files
  pub writables : new.writables ≡ s.writables

-- What an operation changes, where its answer is no refusal. What a request on a writable file makes of it is said by its row.
pub data Change : Type 0 where
  nothing : Change
  rewrites : Change
  initialises : (major : ℕ) → Change
  counts : (name : List ℕ) → Change
  forgets : (nlookup : ℕ) → Change
  forgets_all : (pairs : List (ℕ × ℕ)) → Change
  opens : Change
  closes : (fh : ℕ) → Change
  destroys : Change

abbrev pub change_of : Asked → Change
change_of (init major minor readahead flags) = initialises major
change_of (lookup name) = counts name
change_of (forget n) = forgets n
change_of (batch_forget pairs) = forgets_all pairs
change_of interrupt = nothing
change_of getattr = nothing
change_of (setattr valid size) = rewrites
change_of (opening flags) = opens
change_of opendir = opens
change_of (read fh offset size) = rewrites
change_of (write fh offset bytes) = rewrites
change_of (flush fh) = nothing
change_of (fsync fh) = rewrites
change_of (release fh) = closes fh
change_of (releasedir fh) = closes fh
change_of (readdir fh offset size) = nothing
change_of (create name) = nothing
change_of (mkdir name) = nothing
change_of (unlink name) = nothing
change_of (rmdir name) = nothing
change_of statfs = nothing
change_of destroy = destroys

-- this, or where it is refused the old state
abbrev pub UnlessRefused : State → State → Type 0 → Answer → Type 0
UnlessRefused old new E (refused e) = new ≡ old
UnlessRefused old new E silent = E
UnlessRefused old new E empty = E
UnlessRefused old new E (entry out) = E
UnlessRefused old new E (attributes attr) = E
UnlessRefused old new E (opened handle) = E
UnlessRefused old new E (created out handle) = E
UnlessRefused old new E (written count) = E
UnlessRefused old new E statfs_out = E
UnlessRefused old new E (inited out) = E
UnlessRefused old new E (bytes_out bytes) = E

-- what a change makes of the state
abbrev pub Changed : State → ℕ → Change → Answer → State → Type 0
Changed s node nothing answer new = new ≡ s
Changed s node rewrites answer new = new ≡ with_writables s new.writables
Changed s node (initialises major) answer new = UnlessRefused s new (new ≡ initialised s major) answer
Changed s node (counts name) answer new = UnlessRefused s new (new ≡ counted s (lookup_check s.names.nodes node name)) answer
Changed s node (forgets n) answer new = UnlessRefused s new (new ≡ (if s.ready then with_names s (forgotten s.names node n) else s)) answer
Changed s node (forgets_all pairs) answer new = UnlessRefused s new (new ≡ (if s.ready then with_names s (all_forgotten s.names pairs) else s)) answer
Changed s node opens answer new = UnlessRefused s new (new ≡ with_handle s node) answer
Changed s node (closes fh) answer new = UnlessRefused s new (new ≡ without_handle s node fh) answer
Changed s node destroys answer new = UnlessRefused s new (IsDestroyed s new) answer

-- the state after an operation that was answered so
abbrev pub Becomes : State → ℕ → Asked → Answer → State → Type 0
Becomes s node asked answer new = Changed s node (change_of asked) answer new

-- the state after a message that was answered so
abbrev pub Next : State → Result Message Bad → Answer → State → Type 0
Next s (Ok m) answer new = Becomes s m.node m.asked answer new
Next s (Err bad) answer new = new ≡ s

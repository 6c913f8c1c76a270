-- The nodes and names of a session, and each call as a function on them.
use Rattle.std.specs.Prelude.{◌≡◌, ℕ, ◌+◌, ◌-◌, ◌^◌, min, Bool, true, false, not, ◌==◌, ◌||◌, ◌&&◌, nat_lt, nat_eq, List, [], ◌∷◌, ◌++◌, Option, Some, None, is_some, Result, Ok, Err, length, if◌then◌else◌}
use Rattle.std.specs.Option.{option_map}
use Rattle.std.specs.Ordering.{nat_cmp}
use Rattle.std.specs.FinMap as map
use Rattle.std.specs.Cmp.Lexicographic.{pointwise}
use Rattle.mg_base.specs.declared.errno.Errno.{Errno}
use Rattle.mg_base.specs.declared.errno.Errno.TheVariants as errno
use Rattle.authfs_dirs.specs.declared.kind.Kind.{Kind}
use Rattle.authfs_dirs.specs.declared.kind.Kind.TheVariants.{Dir, ReadOnly, Writable}

-- a name of a directory: its cookie, its bytes, and the node that it names
pub record Entry : Type 0 where
  pub cookie : ℕ
  pub name : List ℕ
  pub node : ℕ

abbrev pub entry : ℕ → List ℕ → ℕ → Entry
entry cookie name node = record { cookie = cookie; name = name; node = node }

-- A live node: its count of lookups, how many open handles it has, and the directory in which it has a name. Of a
-- directory also its names, in the order of their making, and the cookie of the next one.
pub record Node : Type 0 where
  pub kind : Kind
  pub lookups : ℕ
  pub pins : ℕ
  pub parent : Option ℕ
  pub entries : List Entry
  pub cookie : ℕ

-- The live nodes by number, the largest number ever given, how many nodes were added, and the directory in which there
-- is room for one more.
pub record Names : Type 0 where
  pub nodes : map.FinMap nat_cmp Node
  pub last : ℕ
  pub made : ℕ
  pub room : Option ℕ

-- ---- nodes

abbrev pub NodeMap : Type 0
NodeMap = map.FinMap nat_cmp Node

abbrev pub node_at : Names → ℕ → Option Node
node_at s n = map.get s.nodes n

-- other nodes, and no room any more
abbrev pub with_nodes : Names → NodeMap → Names
with_nodes s m = record { nodes = m; last = s.last; made = s.made; room = None }

-- a node lives while it is the root, has a name, has an open handle, or has lookups
abbrev pub lives : ℕ → Node → Bool
lives n x = (n == 1) || is_some x.parent || nat_lt 0 x.pins || nat_lt 0 x.lookups

-- a live node is changed
abbrev pub put_if : NodeMap → ℕ → Option Node → NodeMap
put_if m n None = m
put_if m n (Some x) = map.insert m n x

abbrev pub changed : NodeMap → ℕ → (Node → Node) → NodeMap
changed m n f = put_if m n (option_map f (map.get m n))

-- a node that doesn't live any more is gone
abbrev pub settle_if : NodeMap → ℕ → Option Node → NodeMap
settle_if m n None = m
settle_if m n (Some x) = if lives n x then m else map.remove m n

abbrev pub settled : NodeMap → ℕ → NodeMap
settled m n = settle_if m n (map.get m n)

-- ---- names

abbrev pub is_named : List ℕ → Entry → Bool
is_named name e = pointwise nat_eq name e.name

abbrev pub named : List ℕ → List Entry → Option Entry
named name [] = None
named name (e ∷ es) = if is_named name e then Some e else named name es

abbrev pub unnamed : List ℕ → List Entry → List Entry
unnamed name [] = []
unnamed name (e ∷ es) = if is_named name e then es else e ∷ unnamed name es

-- no two names are the same
abbrev pub AreAlone : List Entry → Type 0
AreAlone [] = Unit {0}
AreAlone (e ∷ es) = (named e.name es ≡ None) × AreAlone es

-- ---- checks, one after another: the first that fails is the answer

infixl 10 ◌>>=◌
abbrev pub ◌>>=◌ : {A B : Type 0} → Result A Errno → (A → Result B Errno) → Result B Errno
(Ok x) >>= f = f x
(Err e) >>= f = Err e

abbrev pub needs : Bool → Errno → Result (Unit {0}) Errno
needs true e = Ok tt
needs false e = Err e

abbrev pub found : {A : Type 0} → Option A → Errno → Result A Errno
found (Some x) e = Ok x
found None e = Err e

abbrev pub is_dir : Kind → Bool
is_dir (Dir host) = true
is_dir (ReadOnly file) = false
is_dir (Writable file) = false

-- a directory's number at the host
abbrev pub host_of : Kind → Option ℕ
host_of (Dir host) = host
host_of (ReadOnly file) = None
host_of (Writable file) = None

-- what a node is, where it lives
abbrev pub kind_at : Names → ℕ → Option Kind
kind_at s n = option_map (λ (x : Node). x.kind) (node_at s n)

abbrev pub is_live_dir : Option Kind → Bool
is_live_dir None = false
is_live_dir (Some kind) = is_dir kind

-- live; a directory
unfoldable pub directory : NodeMap → ℕ → Result Node Errno
directory m n = do
  x ← found (map.get m n) errno.Enoent
  _ ← needs (is_dir x.kind) errno.Enotdir
  Ok x

-- the node that a name names
abbrev pub node_named : List ℕ → List Entry → Option ℕ
node_named name es = option_map (λ (e : Entry). e.node) (named name es)

unfoldable pub lookup_check : NodeMap → ℕ → List ℕ → Result ℕ Errno
lookup_check m parent name = do
  dir ← directory m parent
  found (node_named name dir.entries) errno.Enoent

-- The host's number of a directory in which this name may be added. A directory that the host doesn't have, as the root,
-- takes no name; nor does one that was removed. At most 65,536 nodes live, and at most 2^31 are added in all.
unfoldable pub may_add : Names → ℕ → List ℕ → Result ℕ Errno
may_add s parent name = do
  dir ← directory s.nodes parent
  host ← found (host_of dir.kind) errno.Eacces
  _ ← needs (is_some dir.parent) errno.Enoent
  _ ← needs (not (is_some (node_named name dir.entries))) errno.Eexist
  _ ← needs (nat_lt (map.len s.nodes) 65536) errno.Enospc
  _ ← needs (nat_lt s.made 2147483648) errno.Enospc
  Ok host

-- an empty directory where one is asked for, else a file
unfoldable pub fits : Bool → Node → Result (Unit {0}) Errno
fits true x = do
  _ ← needs (is_dir x.kind) errno.Enotdir
  needs (length x.entries == 0) errno.Enotempty
fits false x = needs (not (is_dir x.kind)) errno.Eisdir

-- the host's number of a directory from which this name may be removed
unfoldable pub may_remove : NodeMap → ℕ → List ℕ → Bool → Result ℕ Errno
may_remove m parent name dir = do
  d ← directory m parent
  host ← found (host_of d.kind) errno.Eacces
  n ← found (node_named name d.entries) errno.Enoent
  x ← found (map.get m n) errno.Enoent
  _ ← fits dir x
  Ok host

abbrev pub named_in : List ℕ → Option Node → Option ℕ
named_in name None = None
named_in name (Some x) = node_named name x.entries

-- a name that the root doesn't have may be planted, while fewer than 65,536 nodes were made
unfoldable pub may_plant : Names → List ℕ → Bool
may_plant s name = not (is_some (named_in name (node_at s 1))) && nat_lt s.last 65536

-- ---- changes of a node

-- a count stands still at its type's last value
abbrev pub one_more : ℕ → ℕ
one_more n = min (n + 1) (2 ^ 64 - 1)

abbrev pub with_lookups : ℕ → Node → Node
with_lookups n x = record { kind = x.kind; lookups = n; pins = x.pins; parent = x.parent; entries = x.entries; cookie = x.cookie }

abbrev pub with_pins : ℕ → Node → Node
with_pins n x = record { kind = x.kind; lookups = x.lookups; pins = n; parent = x.parent; entries = x.entries; cookie = x.cookie }

-- without its name
abbrev pub orphan : Node → Node
orphan x = record { kind = x.kind; lookups = x.lookups; pins = x.pins; parent = None; entries = x.entries; cookie = x.cookie }

-- one name more, behind the others
abbrev pub with_name : List ℕ → ℕ → Node → Node
with_name name n x = record { kind = x.kind; lookups = x.lookups; pins = x.pins; parent = x.parent; entries = x.entries ++ record { cookie = x.cookie; name = name; node = n } ∷ []; cookie = x.cookie + 1 }

abbrev pub without_name : List ℕ → Node → Node
without_name name x = record { kind = x.kind; lookups = x.lookups; pins = x.pins; parent = x.parent; entries = unnamed name x.entries; cookie = x.cookie }

-- a node that is made in a directory: cookies 1 and 2 are those of `.` and `..`
abbrev pub new_node : Option ℕ → Kind → ℕ → Node
new_node parent kind lookups = record { kind = kind; lookups = lookups; pins = 0; parent = parent; entries = []; cookie = 3 }

-- ---- the calls

-- the root alone
unfoldable pub at_first : Names
at_first = record { nodes = map.insert map.empty 1 (new_node None (Dir None) 0); last = 1; made = 0; room = None }

-- one lookup more
unfoldable pub looked_up : Names → ℕ → Names
looked_up s n = with_nodes s (changed s.nodes n (λ x. with_lookups (one_more x.lookups) x))

-- so many lookups less
unfoldable pub forgotten : Names → ℕ → ℕ → Names
forgotten s n count = with_nodes s (settled (changed s.nodes n (λ x. with_lookups (x.lookups - count) x)) n)

unfoldable pub pinned : Names → ℕ → Names
pinned s n = with_nodes s (changed s.nodes n (λ x. with_pins (one_more x.pins) x))

unfoldable pub unpinned : Names → ℕ → Names
unpinned s n = with_nodes s (settled (changed s.nodes n (λ x. with_pins (x.pins - 1) x)) n)

-- there is room for one more name in a directory
unfoldable pub with_room : Names → Option ℕ → Names
with_room s room = record { nodes = s.nodes; last = s.last; made = s.made; room = room }

-- the next number is given to a new node, and the name to that number
abbrev pub made_in : NodeMap → ℕ → List ℕ → ℕ → Node → NodeMap
made_in m parent name n x = map.insert (changed m parent (with_name name n)) n x

unfoldable pub planted : Names → List ℕ → Kind → Names
planted s name kind = record { nodes = made_in s.nodes 1 name (s.last + 1) (new_node (Some 1) kind 0); last = s.last + 1; made = s.made; room = None }

-- The reply that tells of a new node counts as its first lookup.
unfoldable pub added : Names → ℕ → List ℕ → Kind → Names
added s parent name kind = record { nodes = made_in s.nodes parent name (s.last + 1) (new_node (Some parent) kind 1); last = s.last + 1; made = s.made + 1; room = None }

abbrev pub removed_of : NodeMap → ℕ → List ℕ → Option ℕ → NodeMap
removed_of m parent name None = m
removed_of m parent name (Some n) = settled (changed (changed m parent (without_name name)) n orphan) n

abbrev pub removed_from : NodeMap → ℕ → List ℕ → NodeMap
removed_from m parent name = removed_of m parent name (named_in name (map.get m parent))

unfoldable pub removed : Names → ℕ → List ℕ → Names
removed s parent name = with_nodes s (removed_from s.nodes parent name)

-- without lookups and open handles
abbrev pub cleared : Node → Node
cleared x = record { kind = x.kind; lookups = 0; pins = 0; parent = x.parent; entries = x.entries; cookie = x.cookie }

abbrev pub reset_node : ℕ → Option Node → Option Node
reset_node n None = None
reset_node n (Some x) = if lives n (cleared x) then Some (cleared x) else None

-- each node without lookups and open handles, and gone if it doesn't live any more
pub record IsReset (old new : Names) : Type 0 where
  pub nodes : (n : ℕ) → node_at new n ≡ reset_node n (node_at old n)
  pub last : new.last ≡ old.last
  pub made : new.made ≡ old.made
  pub room : new.room ≡ None

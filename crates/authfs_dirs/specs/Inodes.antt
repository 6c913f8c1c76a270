-- The nodes, as their table holds them.
use Rattle.std.specs.Prelude.{◌≡◌, ℕ, ◌+◌, ◌-◌, ◌≤◌, ◌<◌, Bool, List, map, nat_eq, Option, Some, None, IfSome, Result, Ok, Err}
use Rattle.std.specs.FinMap as table
use Rattle.std.specs.Map.{lookup}
use Rattle.mg_base.specs.declared.errno.Errno.{Errno}
use Rattle.authfs_dirs.specs.declared.inode.Inode.{Inode}
use Rattle.authfs_dirs.specs.declared.inode.Change.{Change}
use Rattle.authfs_dirs.specs.declared.inode.Change.TheVariants.{LookedUp, Forgotten, Pinned, Unpinned, Unnamed}
use Rattle.authfs_dirs.specs.Names.{Node, NodeMap, Names, one_more, with_lookups, with_pins, orphan, changed, named, named_in, lives, cleared, reset_node, removed_from}

abbrev pub node_of : Inode → Node
node_of x = record { kind = x.kind; lookups = x.lookups; pins = x.pins; parent = x.parent; entries = x.names.entries; cookie = x.names.next }

abbrev pub cleared_inode : Inode → Inode
cleared_inode x = record { kind = x.kind; lookups = 0; pins = 0; parent = x.parent; names = x.names }

abbrev pub Inodes : Type 0
Inodes = List (ℕ × Inode)

abbrev pub numbered : ℕ × Inode → ℕ × Node
numbered e = (e.0, node_of e.1)

abbrev pub seen : Inodes → NodeMap
seen es = table.from_entries (map numbered es)

abbrev pub inode_at : Inodes → ℕ → Option Inode
inode_at es q = lookup (nat_eq q) es

abbrev pub names_of : Inodes → ℕ → ℕ → Option ℕ → Names
names_of es last made room = record { nodes = seen es; last = last; made = made; room = room }

-- a node is changed
abbrev pub Changes : Inodes → Inodes → ℕ → (Node → Node) → Type 0
Changes es fs n f = seen fs ≡ changed (seen es) n f

-- a node is put there
abbrev pub Inserts : Inodes → Inodes → ℕ → Inode → Type 0
Inserts es fs n x = seen fs ≡ table.insert (seen es) n (node_of x)

abbrev pub removed_in : Inodes → ℕ → List ℕ → NodeMap
removed_in es parent name = removed_from (seen es) parent name

abbrev pub found_in : Inodes → ℕ → List ℕ → Option ℕ
found_in es parent name = named_in name (table.get (seen es) parent)

-- a directory hasn't this name
abbrev pub IsNewIn : Inodes → ℕ → List ℕ → Type 0
IsNewIn es parent name = IfSome (inode_at es parent) (λ x. named name x.names.entries ≡ None)

-- what a node is made by a reset, and whether it stays
abbrev pub IsCleared : ℕ → Inode → Inode → Bool → Type 0
IsCleared n old new stays = (new ≡ cleared_inode old) × (stays ≡ lives n (cleared (node_of old)))

abbrev pub AreReset : Inodes → Inodes → Type 0
AreReset es fs = (n : ℕ) → table.get (seen fs) n ≡ reset_node n (table.get (seen es) n)

-- no directory's next cookie is above this
pub record CookiesTo (es : Inodes) (bound : ℕ) : Type 0 where
  pub below : (q : ℕ) (x : Inode) → inode_at es q ≡ Some x → x.names.next ≤ bound

abbrev pub KeepsCookies : Inodes → Inodes → Type 0
KeepsCookies es fs = (bound : ℕ) → CookiesTo es bound → CookiesTo fs bound

abbrev pub KeepsCookiesFrom : ℕ → Inodes → Inodes → Type 0
KeepsCookiesFrom next es fs = (bound : ℕ) → next ≤ bound → CookiesTo es bound → CookiesTo fs bound

-- a directory has room for one more name
pub record HasRoom (es : Inodes) (parent : ℕ) : Type 0 where
  pub dir : Inode
  pub there : inode_at es parent ≡ Some dir
  pub spare : 0 < dir.names.spare

-- what a map's nodes, the numbers given and the room promise
pub record IsSound (es : Inodes) (free given added : ℕ) (promised : Option ℕ) : Type 0 where
  pub last : given ≤ 65536 + added
  pub made : added ≤ 2147483648
  pub cookies : CookiesTo es (given + 2)
  pub space : (parent : ℕ) → promised ≡ Some parent → 0 < free
  pub room : (parent : ℕ) → promised ≡ Some parent → HasRoom es parent

-- what changes of a node
abbrev pub done : Change → Node → Node
done LookedUp x = with_lookups (one_more x.lookups) x
done (Forgotten count) x = with_lookups (x.lookups - count) x
done Pinned x = with_pins (one_more x.pins) x
done Unpinned x = with_pins (x.pins - 1) x
done Unnamed x = orphan x

-- a call's answer, as a function of what it holds
abbrev pub Gives : {A B : Type 0} → (A → B) → Result A Errno → Result B Errno → Type 0
Gives f (Ok x) r = r ≡ Ok (f x)
Gives f (Err e) r = r ≡ Err e

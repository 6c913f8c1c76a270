-- The tree of names: what each change of the nodes and names keeps.
use Rattle.std.specs.Prelude.{◌≡◌, ◌≢◌, ◌<◌, ◌≤◌, ◌+◌, ℕ, Bool, true, false, List, [], ◌∷◌, Option, Some, None, IsOk, IsTrue, Ok}
use Rattle.std.specs.FinMap as map
use Rattle.authfs_dirs.specs.declared.kind.Kind.{Kind}
use Rattle.authfs_dirs.specs.Names.{Entry, Node, Names, node_at, lives, is_dir, named, AreAlone, at_first, may_plant, planted, lookup_check, looked_up, with_room, may_add, added, may_remove, removed, forgotten, pinned, unpinned, IsReset}

-- a live directory without a name
pub record IsRoot (at : ℕ → Option Node) : Type 0 where
  pub node : Node
  pub there : at 1 ≡ Some node
  pub dir : is_dir node.kind ≡ true
  pub top : node.parent ≡ None

-- a node lives, and has its name in this directory
pub record IsChild (at : ℕ → Option Node) (child parent : ℕ) : Type 0 where
  pub node : Node
  pub there : at child ≡ Some node
  pub within : node.parent ≡ Some parent

-- a directory with a smaller number lives, and one of its names is that of a node
pub record NamesIt (at : ℕ → Option Node) (parent child : ℕ) : Type 0 where
  pub dir : Node
  pub there : at parent ≡ Some dir
  pub is_directory : is_dir dir.kind ≡ true
  pub name : List ℕ
  pub entry : Entry
  pub found : named name dir.entries ≡ Some entry
  pub node_is : entry.node ≡ child
  pub below : parent < child

-- The nodes are a tree below the root: each name is that of a live node which has its name there and nowhere else, each
-- node with a name has it in a live directory with a smaller number, and no number is above the last. A node without a
-- name has no names below it, but for the root; nor has a file.
pub record AreTree (at : ℕ → Option Node) (last : ℕ) : Type 0 where
  pub root : IsRoot at
  pub numbers : (n : ℕ) (x : Node) → at n ≡ Some x → (1 ≤ n) × (n ≤ last)
  pub children : (n : ℕ) (x : Node) (name : List ℕ) (e : Entry) → at n ≡ Some x → named name x.entries ≡ Some e → IsChild at e.node n
  pub alone : (n : ℕ) (x : Node) → at n ≡ Some x → AreAlone x.entries
  pub once : (n : ℕ) (x : Node) (a b : List ℕ) (e f : Entry) → at n ≡ Some x → named a x.entries ≡ Some e → named b x.entries ≡ Some f → e.node ≡ f.node → a ≡ b
  pub parents : (n : ℕ) (x : Node) (p : ℕ) → at n ≡ Some x → x.parent ≡ Some p → NamesIt at p n
  pub files : (n : ℕ) (x : Node) → at n ≡ Some x → is_dir x.kind ≡ false → x.entries ≡ []
  pub nameless : (n : ℕ) (x : Node) → at n ≡ Some x → x.parent ≡ None → n ≢ 1 → x.entries ≡ []

abbrev pub IsTree : Names → Type 0
IsTree s = AreTree (node_at s) s.last

-- no node is kept that has no reason to live
abbrev pub AllLive : Names → Type 0
AllLive s = (n : ℕ) (x : Node) → node_at s n ≡ Some x → lives n x ≡ true

-- the cookies rise from low on, so that each stands once, and the next one is above them all
abbrev pub AreRising : ℕ → List Entry → ℕ → Type 0
AreRising low [] next = low ≤ next
AreRising low (e ∷ es) next = (low ≤ e.cookie) × AreRising (e.cookie + 1) es next

-- in each directory the cookies rise from 3 on in the order of its names
abbrev pub CookiesRise : Names → Type 0
CookiesRise s = (n : ℕ) (x : Node) → node_at s n ≡ Some x → AreRising 3 x.entries x.cookie

-- at most 65,536 nodes live
pub record IsSoundTree (s : Names) : Type 0 where
  pub tree : IsTree s
  pub live : AllLive s
  pub cookies : CookiesRise s
  pub few : map.len s.nodes ≤ 65536

-- the tree is sound at first, and each call keeps it so
pub record StaysSound : Type 0 where
  pub first : IsSoundTree at_first
  pub plant : (s : Names) (name : List ℕ) (kind : Kind) → IsSoundTree s → IsTrue (may_plant s name) → IsSoundTree (planted s name kind)
  pub lookup : (s : Names) (node : ℕ) → IsSoundTree s → IsSoundTree (looked_up s node)
  pub room : (s : Names) (room : Option ℕ) → IsSoundTree s → IsSoundTree (with_room s room)
  pub add : (s : Names) (parent : ℕ) (name : List ℕ) (kind : Kind) → IsSoundTree s → IsOk (may_add s parent name) → IsSoundTree (added s parent name kind)
  pub remove : (s : Names) (parent : ℕ) (name : List ℕ) (dir : Bool) → IsSoundTree s → IsOk (may_remove s.nodes parent name dir) → IsSoundTree (removed s parent name)
  pub forget : (s : Names) (node count : ℕ) → IsSoundTree s → IsSoundTree (forgotten s node count)
  pub pin : (s : Names) (node : ℕ) → IsSoundTree s → IsSoundTree (pinned s node)
  pub unpin : (s : Names) (node : ℕ) → IsSoundTree s → IsSoundTree (unpinned s node)
  pub reset : (s t : Names) → IsSoundTree s → IsReset s t → IsSoundTree t

-- the node that a look-up finds lives, and has its name there
abbrev pub FindsChildren : Type 0
FindsChildren = (s : Names) (parent node : ℕ) (name : List ℕ) → IsSoundTree s → lookup_check s.nodes parent name ≡ Ok node → IsChild (node_at s) node parent

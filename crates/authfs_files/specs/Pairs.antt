-- The open handles as the pairs and the slab hold them.
use Rattle.std.specs.Prelude.{◌≡◌, ◌≢◌, ℕ, ◌+◌, ◌-◌, ◌≤◌, ◌==◌, min, vec_capacity, List, [], ◌∷◌, map, length, Option, Some, None, IsSome, unwrap_or, slice_get, slice_index_or, if◌then◌else◌}
use Rattle.std.specs.Global.{Vec}
use Rattle.slab.specs.Slab.{Slab, slab_len}
use Rattle.authfs_files.specs.Open.{Open}
use Rattle.authfs_files.specs.declared.handles.Pair.{Pair}
use Rattle.authfs_files.specs.declared.handles.Found.{Found}

-- the nodes by their keys
abbrev pub Slots : Type 0
Slots = List (Option ℕ)

abbrev pub at : Slots → ℕ → Option ℕ
at s key = slice_index_or s key None

-- a handle with its node
abbrev pub shown : Slots → Pair → ℕ × ℕ
shown s p = (p.number, unwrap_or (at s p.key) 0)

abbrev pub open_of : Slab ℕ → Vec Pair → ℕ → Open
open_of nodes pairs given = record {
  open_handles = map (shown nodes.slots) pairs.items;
  given = given;
  spare_handles = min (nodes.capacity - slab_len nodes) (vec_capacity pairs - length pairs.items);
}

-- the key of a handle
abbrev pub key_of : ℕ → List Pair → Option ℕ
key_of number [] = None
key_of number (p ∷ ps) = if number == p.number then Some p.key else key_of number ps

-- no later pair has this key
abbrev pub AllApart : ℕ → List Pair → Type 0
AllApart key [] = Unit {0}
AllApart key (p ∷ ps) = (key ≢ p.key) × AllApart key ps

-- the numbers rise from low on and none is above given; each key has a node, and no two pairs have one key
abbrev pub IsOpen : Slots → ℕ → List Pair → ℕ → Type 0
IsOpen s low [] given = low ≤ given + 1
IsOpen s low (p ∷ ps) given = (low ≤ p.number) × IsSome (at s p.key) × AllApart p.key ps × IsOpen s (p.number + 1) ps given

-- the numbers alone
abbrev pub IsRising : ℕ → List Pair → Type 0
IsRising low [] = Unit {0}
IsRising low (p ∷ ps) = (low ≤ p.number) × IsRising (p.number + 1) ps

-- a pair with this number, at its place
pub record StandsAt (ps : List Pair) (handle : ℕ) (f : Found) : Type 0 where
  pub at : slice_get ps f.place ≡ Some f.pair
  pub number : f.pair.number ≡ handle

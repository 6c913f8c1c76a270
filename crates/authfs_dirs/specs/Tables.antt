-- The names of one directory, as its table holds them.
use Rattle.std.specs.Prelude.{◌≡◌, ℕ, ◌+◌, ◌-◌, ◌≤◌, ◌<◌, min, slice_get, slice_index_or, vec_capacity, nat_eq, nat_lt, Bool, true, false, List, [], ◌∷◌, ◌++◌, length, map, filter, Option, Some, None, if◌then◌else◌}
use Rattle.std.specs.Global.{Vec}
use Rattle.std.specs.Option.{option_map}
use Rattle.std.specs.Map.{lookup}
use Rattle.std.specs.Cmp.Lexicographic.{pointwise}
use Rattle.authfs_dirs.specs.Names.{Entry, entry, named, AreAlone}
use Rattle.authfs_dirs.specs.declared.rows.Row.{Row}
use Rattle.authfs_dirs.specs.declared.name_table.Spot.{Spot}
use Rattle.authfs_dirs.specs.declared.name_table.Named.{Named}

-- a name as it was made, and whether it is still there
pub record Slot : Type 0 where
  pub entry : Entry
  pub live : Bool

-- the names in the order of their making, with those that were removed and without; the next cookie; and for how many
-- more names there is room
pub record Table : Type 0 where
  pub entries : List Entry
  pub slots : List Slot
  pub next : ℕ
  pub spare : ℕ

abbrev pub slot_of : Row → Slot
slot_of r = record { entry = record { cookie = r.cookie; name = r.name.items; node = r.node }; live = r.live }

abbrev pub is_living : Slot → Bool
is_living s = s.live

-- the names that are still there
abbrev pub living : List Slot → List Entry
living [] = []
living (s ∷ ss) = if s.live then s.entry ∷ living ss else living ss

abbrev pub living_at : Option Slot → Option Entry
living_at None = None
living_at (Some s) = if s.live then Some s.entry else None

abbrev pub table_of : Vec Row → ℕ → ℕ → Table
table_of rows next room = record { entries = living (map slot_of rows.items); slots = map slot_of rows.items; next = next; spare = min room (vec_capacity rows - length rows.items) }

-- with a name more, behind the others
abbrev pub with_entry : Table → List ℕ → ℕ → List Entry
with_entry t name node = t.entries ++ entry t.next name node ∷ []

-- a name has at most 255 bytes; the cookies rise from low on, and all are below next
abbrev pub IsRising : ℕ → List Slot → ℕ → Type 0
IsRising low [] next = low ≤ next
IsRising low (s ∷ ss) next = (low ≤ s.entry.cookie) × (length s.entry.name ≤ 255) × IsRising (s.entry.cookie + 1) ss next

-- the cookies rise from low on
abbrev pub Rises : ℕ → List Slot → Type 0
Rises low [] = Unit {0}
Rises low (s ∷ ss) = (low ≤ s.entry.cookie) × Rises (s.entry.cookie + 1) ss

abbrev pub IsOr : Bool → Type 0 → Type 0
IsOr true other = Unit {0}
IsOr false other = other

-- a name has this cookie, or had it
abbrev pub Has : ℕ → List Slot → Type 0
Has cookie [] = ⊥
Has cookie (s ∷ ss) = IsOr (nat_eq cookie s.entry.cookie) (Has cookie ss)

-- the row with a cookie, at its place behind those with smaller ones
pub record StandsAt (cookie : ℕ) (rows : List Row) (place : ℕ) : Type 0 where
  pub row : Row
  pub there : slice_get rows place ≡ Some row
  pub cookie_is : row.cookie ≡ cookie
  pub front : (k : ℕ) (d : Row) → k < place → nat_lt ((slice_index_or rows k d).cookie) cookie ≡ true

abbrev pub dead : Slot → Slot
dead s = record { entry = s.entry; live = false }

-- with the name that has this cookie marked as removed
abbrev pub marked : ℕ → List Slot → List Slot
marked cookie [] = []
marked cookie (s ∷ ss) = if nat_eq cookie s.entry.cookie then dead s ∷ ss else s ∷ marked cookie ss

abbrev pub spot_of : Entry → Spot
spot_of e = record { cookie = e.cookie; node = e.node }

abbrev pub Spots : Type 0
Spots = List (Vec ℕ × Spot)

-- what the map finds by a name
abbrev pub spot_at : List ℕ → Spots → Option Spot
spot_at name spots = lookup (λ k. pointwise nat_eq name k.items) spots

-- what the map, the rows, the count of removed names and the next cookie promise: the map finds the names that are
-- still there, and no others
pub record IsKept (spots : Spots) (rows : List Row) (gone next : ℕ) : Type 0 where
  pub rising : IsRising 3 (map slot_of rows) next
  pub alone : AreAlone (living (map slot_of rows))
  pub found : (name : List ℕ) → spot_at name spots ≡ option_map spot_of (named name (living (map slot_of rows)))
  pub count : gone + length (living (map slot_of rows)) ≡ length rows

-- a name as it is lent
abbrev pub entry_by : Named → Entry
entry_by n = record { cookie = n.cookie; name = n.name.now; node = n.node }

-- the names with a cookie above this one
abbrev pub after : ℕ → List Entry → List Entry
after cookie es = filter (λ e. nat_lt cookie e.cookie) es

abbrev pub living_after : ℕ → List Row → List Entry
living_after cookie rows = after cookie (living (map slot_of rows))

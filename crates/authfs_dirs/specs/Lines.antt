-- A listing in the making: a line for each row of a directory, and none for the row of a name that was removed.
use Rattle.std.specs.Prelude.{◌≡◌, ℕ, ◌+◌, ◌-◌, ◌≤◌, ◌<◌, Bool, true, false, drop, List, [], ◌∷◌, ◌++◌, length, map, slice_get, Option, Some, None, if◌then◌else◌}
use Rattle.std.specs.Global.{Vec}
use Rattle.authfs_dirs.specs.Names.{NodeMap}
use Rattle.authfs_dirs.specs.Dirents.{Dirent, dirent, dirent_len, dirent_bytes, dot, dot_dot, dirents, above, whole}
use Rattle.authfs_dirs.specs.Tables.{Slot}
use Rattle.authfs_dirs.specs.Inodes.{Inodes, seen, node_of}
use Rattle.authfs_dirs.specs.declared.inode.Inode.{Inode}
use Rattle.authfs_dirs.specs.declared.listing.Line.{Line}

-- an entry as it is lent
abbrev pub dirent_by : Line → Dirent
dirent_by l = record { node = l.node; cookie = l.cookie; kind = l.kind; name = l.name.now }

abbrev pub line_of : NodeMap → Slot → Option Dirent
line_of m s = if s.live then Some (dirent m s.entry) else None

unfoldable pub lines : NodeMap → ℕ → Option ℕ → List Slot → List (Option Dirent)
lines m n parent ss = Some (dot n) ∷ Some (dot_dot n parent) ∷ map (line_of m) ss

abbrev pub lines_of : Inodes → ℕ → Inode → List (Option Dirent)
lines_of es n x = lines (seen es) n x.parent x.names.slots

abbrev pub present : List (Option Dirent) → List Dirent
present [] = []
present (None ∷ ls) = present ls
present (Some d ∷ ls) = d ∷ present ls

abbrev pub flat : {A : Type 0} → Option (Option A) → Option A
flat None = None
flat (Some o) = o

abbrev pub line_in : Inodes → ℕ → Inode → ℕ → Option Dirent
line_in es n x place = flat (slice_get (lines_of es n x) place)

-- the listing of a directory from a cookie on
abbrev pub Lists : Inodes → ℕ → Inode → ℕ → ℕ → List ℕ → Type 0
Lists es n x cookie size bytes = bytes ≡ whole size (above cookie (dirents (seen es) n (node_of x)))

-- the lines from a place on are the entries with a cookie above this one
abbrev pub StartsAt : ℕ → Inode → ℕ → Type 0
StartsAt cookie x start = (m : NodeMap) (n : ℕ) → above cookie (dirents m n (node_of x)) ≡ present (drop start (lines m n x.parent x.names.slots))

-- an entry is put behind what is there, where it is whole in so many bytes
abbrev pub PutsWhole : Line → ℕ → List ℕ → List ℕ → Bool → Type 0
PutsWhole l size old new true = (dirent_len (dirent_by l) ≤ size - length old) × (new ≡ old ++ dirent_bytes (dirent_by l))
PutsWhole l size old new false = (size - length old < dirent_len (dirent_by l)) × (new ≡ old)

-- one step of a listing: the line at a place is put behind what is there, or doesn't fit, and what is there is all
abbrev pub PutsPlace : List (Option Dirent) → ℕ → ℕ → List ℕ → List ℕ → Bool → Type 0
PutsPlace ls size place old new true = (new ++ whole (size - length new) (present (drop (place + 1) ls)) ≡ old ++ whole (size - length old) (present (drop place ls))) × (length new ≤ size)
PutsPlace ls size place old new false = new ≡ old ++ whole (size - length old) (present (drop place ls))

abbrev pub PutsAt : Inodes → ℕ → Inode → ℕ → ℕ → Vec ℕ → Vec ℕ → Bool → Type 0
PutsAt es n x size place old new fits = PutsPlace (lines_of es n x) size place old.items new.items fits

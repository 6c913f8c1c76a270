-- Directory entries (struct fuse_dirent of linux/fuse.h), and the listing of a directory.
use Rattle.std.specs.Prelude.{ℕ, ◌+◌, ◌-◌, ◌%◌, nat_le, nat_lt, List, [], ◌∷◌, ◌++◌, length, map, filter, replicate, Option, Some, None, unwrap_or, if◌then◌else◌}
use Rattle.std.specs.Int.{w32, w64, to_le_bytes}
use Rattle.std.specs.FinMap as table
use Rattle.authfs_dirs.specs.Names.{Entry, Node, NodeMap, is_dir}

-- an entry of a listing: the node, the entry's own cookie, DT_DIR or DT_REG, and the name
pub record Dirent : Type 0 where
  pub node : ℕ
  pub cookie : ℕ
  pub kind : ℕ
  pub name : List ℕ

-- zeros up to a multiple of 8
abbrev pub padding : ℕ → ℕ
padding n = (8 - n % 8) % 8

abbrev pub dirent_len : Dirent → ℕ
dirent_len d = 24 + length d.name + padding (length d.name)

unfoldable pub dirent_bytes : Dirent → List ℕ
dirent_bytes d = to_le_bytes w64 d.node ++ (to_le_bytes w64 d.cookie ++ (to_le_bytes w32 (length d.name) ++ (to_le_bytes w32 d.kind ++ (d.name ++ replicate (padding (length d.name)) 0))))

abbrev pub kind_number : Option Node → ℕ
kind_number None = 8
kind_number (Some x) = if is_dir x.kind then 4 else 8

abbrev pub dirent : NodeMap → Entry → Dirent
dirent m e = record { node = e.node; cookie = e.cookie; kind = kind_number (table.get m e.node); name = e.name }

-- `.` and `..`: the root, and a directory without a name, is its own parent
abbrev pub dot : ℕ → Dirent
dot n = record { node = n; cookie = 1; kind = 4; name = 46 ∷ [] }

abbrev pub dot_dot : ℕ → Option ℕ → Dirent
dot_dot n parent = record { node = unwrap_or parent n; cookie = 2; kind = 4; name = 46 ∷ 46 ∷ [] }

unfoldable pub dirents : NodeMap → ℕ → Node → List Dirent
dirents m n x = dot n ∷ dot_dot n x.parent ∷ map (dirent m) x.entries

abbrev pub above : ℕ → List Dirent → List Dirent
above cookie ds = filter (λ d. nat_lt cookie d.cookie) ds

-- as many as are whole in so many bytes: the first that doesn't fit is the end
unfoldable pub whole : ℕ → List Dirent → List ℕ
whole size [] = []
whole size (d ∷ ds) = if nat_le (dirent_len d) size then dirent_bytes d ++ whole (size - dirent_len d) ds else []

-- the entries with a cookie above this one
abbrev pub listed : NodeMap → ℕ → ℕ → ℕ → Option Node → List ℕ
listed m n cookie size None = []
listed m n cookie size (Some x) = whole size (above cookie (dirents m n x))

unfoldable pub listing : NodeMap → ℕ → ℕ → ℕ → List ℕ
listing m n cookie size = listed m n cookie size (table.get m n)

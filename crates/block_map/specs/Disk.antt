-- The bytes of a composite disk, and which of them a call may read and write.
use Rattle.std.specs.Prelude.{◌≡◌, ℕ, ◌+◌, ◌-◌, ◌<◌, ◌≤◌, Bool, true, false, List, [], ◌∷◌, length, map, slice_index, slice_index_or, min, Result, Ok, Err, nat_lt, not, ◌&&◌, ◌||◌, if◌then◌else◌}
use Rattle.std.specs.Str.{bytes_eq}
use Rattle.std.specs.Global.{Vec}
use Rattle.std.specs.List.{range_with_len}
use Rattle.composite_spec.specs.Said.{Placed, Composite, offset_of}
use Rattle.block_map.specs.declared.map.MapFault.{MapFault}
use Rattle.block_map.specs.declared.map.MapFault.TheVariants as faults

-- the files, one a component
abbrev pub contents : List (Vec ℕ) → List (List ℕ)
contents files = map (λ (v : Vec ℕ). v.items) files

-- The byte x: byte x - offset of the file of the last component that begins at or before x, or 0 past that
-- file's end. `byte` is what earlier components say.
abbrev pub byte_at : ℕ → ℕ → List Placed → List (List ℕ) → ℕ
byte_at x byte [] files = byte
byte_at x byte (c ∷ cs) [] = byte
byte_at x byte (c ∷ cs) (f ∷ fs) = byte_at x (if nat_lt x c.offset then byte else slice_index f (x - c.offset)) cs fs

-- the bytes of the disk
unfoldable pub disk_bytes : Composite → List (List ℕ) → List ℕ
disk_bytes s files = map (λ x. byte_at x 0 s.components files) (range_with_len 0 s.length)

-- where the component i begins, where it ends, and whether it may be written
abbrev pub begin_of : Composite → ℕ → ℕ
begin_of s i = slice_index (map offset_of s.components) i

abbrev pub end_of : Composite → ℕ → ℕ
end_of s i = if nat_lt (i + 1) (length s.components) then begin_of s (i + 1) else s.length

abbrev pub write_of : Placed → Bool
write_of c = c.write

abbrev pub is_writable : Composite → ℕ → Bool
is_writable s i = slice_index_or (map write_of s.components) i false

abbrev pub path_of : Placed → List ℕ
path_of c = c.path

abbrev pub path_at : Composite → ℕ → List ℕ
path_at s i = slice_index_or (map path_of s.components) i []

abbrev pub is_path_of : Composite → ℕ → ℕ → Bool
is_path_of s a b = bytes_eq (path_at s a) (path_at s b)

-- two components that have one path, and one of the two is writable
unfoldable pub is_alias : Composite → ℕ → ℕ → Bool
is_alias s a b = is_path_of s a b && (is_writable s a || is_writable s b)

-- no component below k has an earlier one that it is an alias of
abbrev pub NoAliasBelow : Composite → ℕ → Type 0
NoAliasBelow s k = (a b : ℕ) → a < b → b < k → is_alias s a b ≡ false

-- the least component that is an alias of an earlier one, and the least of these, or none, unless memory ran out
abbrev pub Aliases : {X : Type 0} → Composite → Result X MapFault → Type 0
Aliases s (Ok m) = NoAliasBelow s (length s.components)
Aliases s (Err (faults.Alias a b)) = (a < b) × (b < length s.components) × (is_alias s a b ≡ true) × NoAliasBelow s b × ((c : ℕ) → c < a → is_alias s c b ≡ false)
Aliases s (Err faults.OutOfDisk) = ⊥
Aliases s (Err (faults.ReadOnly i)) = ⊥
Aliases s (Err (faults.PastComponent i)) = ⊥
Aliases s (Err faults.Memory) = Unit {0}

-- the component i has bytes of the range from `at` to `end`
pub record IsTouched (s : Composite) (at end i : ℕ) : Type 0 where
  pub is : i < length s.components
  pub some : at < end
  pub begins : begin_of s i < end
  pub ends : at < end_of s i

-- the bytes of the range in the component i lie within its file
abbrev pub Fits : Composite → List (List ℕ) → ℕ → ℕ → Type 0
Fits s files end i = min end (end_of s i) ≤ begin_of s i + length (slice_index_or files i [])

-- each touched component below k may be written, and has the bytes in its file
pub record MayWrite (s : Composite) (files : List (List ℕ)) (end i : ℕ) : Type 0 where
  pub writable : is_writable s i ≡ true
  pub fits : Fits s files end i

abbrev pub MayWriteBelow : Composite → List (List ℕ) → ℕ → ℕ → ℕ → Type 0
MayWriteBelow s files at end k = (i : ℕ) → i < k → IsTouched s at end i → MayWrite s files end i

-- Whether a range may be written: the first reason why not, by the range and then by the touched components in
-- order, or none.
abbrev pub Judges : {X : Type 0} → Composite → List (List ℕ) → ℕ → ℕ → Result X MapFault → Type 0
Judges s files at end (Ok x) = (end ≤ s.length) × MayWriteBelow s files at end (length s.components)
Judges s files at end (Err faults.OutOfDisk) = s.length < end
Judges s files at end (Err (faults.ReadOnly i)) = (end ≤ s.length) × MayWriteBelow s files at end i × IsTouched s at end i × (is_writable s i ≡ false)
Judges s files at end (Err (faults.PastComponent i)) = (end ≤ s.length) × MayWriteBelow s files at end i × IsTouched s at end i × (is_writable s i ≡ true) × (begin_of s i + length (slice_index_or files i []) < min end (end_of s i))
Judges s files at end (Err (faults.Alias a b)) = ⊥
Judges s files at end (Err faults.Memory) = ⊥

-- bytes of the file of the component i, after these bytes were written at the place `at` of the disk
abbrev pub byte_written : Composite → ℕ → List ℕ → ℕ → ℕ → ℕ → ℕ
byte_written s at bytes i y old =
    if not (nat_lt (begin_of s i + y) at) && nat_lt (begin_of s i + y) (at + length bytes) && nat_lt (begin_of s i + y) (end_of s i) then slice_index bytes (begin_of s i + y - at) else old

pub record IsWritten (s : Composite) (at : ℕ) (bytes : List ℕ) (i : ℕ) (old new : List ℕ) : Type 0 where
  pub size : length new ≡ length old
  pub each : (y : ℕ) → y < length old → slice_index new y ≡ byte_written s at bytes i y (slice_index old y)

-- the files after these bytes were written at the place `at`: just the bytes of the range changed
pub record AreWritten (s : Composite) (at : ℕ) (bytes : List ℕ) (old new : List (List ℕ)) : Type 0 where
  pub count : length new ≡ length old
  pub files : (i : ℕ) → IsWritten s at bytes i (slice_index_or old i []) (slice_index_or new i [])

-- What the bytes of a composite file say, or the first rule that they break.
use Rattle.std.specs.Prelude.{◌≡◌, ℕ, zero, suc, ◌+◌, ◌-◌, ◌%◌, ◌^◌, Bool, not, ◌&&◌, List, [], ◌∷◌, ◌++◌, length, map, take, drop, slice_index, Option, Some, None, Result, Ok, Err, ◌==◌, nat_lt, if◌then◌else◌}
use Rattle.std.specs.Str.{is_utf8, bytes_eq}
use Rattle.composite_spec.specs.declared.kinds.Spec.{Spec}
use Rattle.composite_spec.specs.declared.kinds.SpecFault.{SpecFault}
use Rattle.composite_spec.specs.declared.kinds.SpecFault.TheVariants as faults
use Rattle.composite_spec.specs.declared.wire.Message.TheVariants as messages
use Rattle.composite_spec.specs.declared.stated.Stated.{Stated}
use Rattle.composite_spec.specs.declared.stated.StatedDisk.{StatedDisk}
use Rattle.composite_spec.specs.Wire.{◌>>=◌, check, Content, counted, bytes_of, skipped, field}
use Rattle.composite_spec.specs.Said.{Placed, Composite, composite, magic, capability_of}

-- what the fields of a component, and of a disk, state, before any rule on it
pub record Part : Type 0 where
  pub path : List ℕ
  pub offset : ℕ
  pub capability : ℕ

pub record Disk : Type 0 where
  pub version : ℕ
  pub parts : List Part
  pub length : ℕ

abbrev pub part_by : Stated → Part
part_by s = record { path = s.path.now; offset = s.offset; capability = s.capability }

abbrev pub disk_by : StatedDisk → Disk
disk_by d = record { version = d.version; parts = map part_by d.components.items; length = d.length }

-- what a component states: its path, its offset, and whether it may be written
abbrev pub stated : Placed → Part
stated c = record { path = c.path; offset = c.offset; capability = capability_of c }

-- what no field states is 0 or empty
abbrev pub no_part : Part
no_part = record { path = []; offset = 0; capability = 0 }

abbrev pub no_disk : Disk
no_disk = record { version = 0; parts = []; length = 0 }

-- What fields state one after another, each by `step`, which takes the field at the front of what is left; a
-- message has no more fields than `n`, its bytes.
unfoldable pub walk : {K : Type 0} → (K → List ℕ → Result (K × List ℕ) SpecFault) → ℕ → K → List ℕ → Result K SpecFault
walk step zero k rest = Ok k
walk step (suc n) k [] = Ok k
walk step (suc n) k (b ∷ bs) = step k (b ∷ bs) >>= λ r. walk step n r.0 r.1

-- a later value replaces an earlier one, and an unknown field states nothing
abbrev pub with_field : Part → ℕ → Content → Part
with_field p number (counted n) =
    if number == 2 then record { path = p.path; offset = n; capability = p.capability }
    else if number == 3 then record { path = p.path; offset = p.offset; capability = n }
    else p
with_field p number (bytes_of bytes) = if number == 1 then record { path = bytes; offset = p.offset; capability = p.capability } else p
with_field p number skipped = p

unfoldable pub part_step : ℕ → Part → List ℕ → Result (Part × List ℕ) SpecFault
part_step end p rest = do
  f ← field messages.Component end rest
  Ok (with_field p f.number f.value, f.rest)

-- a component, whose message ends at the place `end`
unfoldable pub part_of : ℕ → List ℕ → Result Part SpecFault
part_of end bytes = walk (part_step end) (length bytes) no_part bytes

abbrev pub with_part : Disk → Part → Disk
with_part d p = record { version = d.version; parts = d.parts ++ p ∷ []; length = d.length }

-- a field of the disk, behind which the file goes on at the place `end`
abbrev pub with_disk_field : ℕ → Disk → ℕ → Content → Result Disk SpecFault
with_disk_field end d number (counted n) =
    if number == 1 then Ok (record { version = n; parts = d.parts; length = d.length })
    else if number == 3 then Ok (record { version = d.version; parts = d.parts; length = n })
    else Ok d
with_disk_field end d number (bytes_of bytes) = if number == 2 then (part_of end bytes >>= λ p. Ok (with_part d p)) else Ok d
with_disk_field end d number skipped = Ok d

unfoldable pub disk_step : ℕ → Disk → List ℕ → Result (Disk × List ℕ) SpecFault
disk_step end d rest = do
  f ← field messages.Disk end rest
  next ← with_disk_field (end - length f.rest) d f.number f.value
  Ok (next, f.rest)

unfoldable pub disk_of : ℕ → List ℕ → Result Disk SpecFault
disk_of end rest = walk (disk_step end) (length rest) no_disk rest

-- ---- the rules on what was stated, in order

unfoldable pub is_path : List ℕ → Bool
is_path path = nat_lt 0 (length path) && nat_lt (length path) 256 && is_utf8 path

abbrev pub follows : Option ℕ → ℕ → Bool
follows None offset = offset == 0
follows (Some before) offset = nat_lt before offset

-- the component i, behind one that begins at the offset `before`
unfoldable pub placed_of : ℕ → Option ℕ → Part → Result Placed SpecFault
placed_of i before p = do
  path ← check (is_path p.path) (faults.Path i) p.path
  capability ← check (nat_lt p.capability 2) (faults.Capability i p.capability) p.capability
  offset ← check (follows before p.offset && nat_lt i 1024) (faults.Order i) p.offset
  Ok (record { path = p.path; offset = p.offset; write = p.capability == 1 })

unfoldable pub all_placed : ℕ → Option ℕ → List Part → Result (List Placed) SpecFault
all_placed i before [] = Ok []
all_placed i before (p ∷ ps) = do
  c ← placed_of i before p
  cs ← all_placed (i + 1) (Some p.offset) ps
  Ok (c ∷ cs)

abbrev pub stated_offset : Part → ℕ
stated_offset p = p.offset

unfoldable pub is_length : ℕ → List ℕ → Bool
is_length n offsets = nat_lt 0 (length offsets) && nat_lt (slice_index offsets (length offsets - 1)) n && (n % 512 == 0) && not (nat_lt (2 ^ 40) n)

unfoldable pub judged : Disk → Result Composite SpecFault
judged d = do
  version ← check (d.version == 2) (faults.Version d.version) d.version
  components ← all_placed 0 None d.parts
  length ← check (is_length d.length (map stated_offset d.parts)) (faults.Length d.length) d.length
  Ok (record { components = components; length = d.length })

-- ---- the file

unfoldable pub decoded : List ℕ → Result Composite SpecFault
decoded bytes = do
  begins ← check (bytes_eq (take 15 bytes) magic) faults.Magic bytes
  small ← check (not (nat_lt 1048576 (length bytes))) (faults.Truncated 1048576) bytes
  disk ← disk_of (length bytes) (drop 15 bytes)
  judged disk

-- what a call answered is what reading gives, unless memory ran out
abbrev pub Fails : {Y : Type 0} → SpecFault → Result Y SpecFault → Type 0
Fails faults.Memory read = Unit {0}
Fails fault read = read ≡ Err fault

abbrev pub Gives : {X Y : Type 0} → (X → Y) → Result X SpecFault → Result Y SpecFault → Type 0
Gives view (Ok x) read = read ≡ Ok (view x)
Gives view (Err fault) read = Fails fault read

-- the answer is this description, unless memory ran out
abbrev pub IsRead : Composite → Result Spec SpecFault → Type 0
IsRead c (Ok s) = composite s ≡ c
IsRead c (Err faults.Memory) = Unit {0}
IsRead c (Err fault) = ⊥

-- What is put into a host in memory.
use Rattle.std.specs.Prelude.{◌+◌, ℕ, Bool, true, nat_eq, nat_le, nat_lt, ◌&&◌, List, [], length, slice_index_or, Some, None, Result, Ok, Err}
use Rattle.std.specs.List.{list_any, range_with_len}
use Rattle.std.specs.Map.{update}
use Rattle.composite_spec.specs.Said.{Composite}
use Rattle.block_map.specs.Disk.{disk_bytes, begin_of, end_of, is_writable, Aliases, NoAliasBelow}
use Rattle.host_traits.specs.Held.{Held, Disk}
use Rattle.block_map.specs.declared.map.MapFault.TheVariants as map_faults
use Rattle.host_mem.specs.declared.fault.CompositeFault.{CompositeFault}
use Rattle.host_mem.specs.declared.fault.CompositeFault.TheVariants.{Map, Memory}

-- nothing is held
abbrev pub nothing : Held
nothing = record { disk = λ number. None; file = λ number. None; dir = λ number. None }

abbrev pub with_disk : Held → ℕ → Disk → Held
with_disk h number d = record h { disk = update nat_eq h.disk number (Some d) }

-- a disk, each byte of which may be written
abbrev pub plain_disk : List ℕ → Disk
plain_disk bytes = record { bytes = bytes; writable = λ place. true }

-- Has the component i the byte at this place of the disk within its file, and may it be written?
abbrev pub is_open : Composite → List (List ℕ) → ℕ → ℕ → Bool
is_open s files place i =
    is_writable s i && nat_le (begin_of s i) place && nat_lt place (end_of s i) && nat_lt place (begin_of s i + length (slice_index_or files i []))

-- The disk of a description and its files. A byte may be written exactly where the component that has it may be
-- written and the byte lies within its file.
unfoldable pub composite_disk : Composite → List (List ℕ) → Disk
composite_disk s files = record { bytes = disk_bytes s files; writable = λ place. list_any (is_open s files place) (range_with_len 0 (length s.components)) }

-- Refused as an alias exactly where the map is: where a component is an alias of an earlier one, by the first such.
abbrev pub RefusesAlias : Composite → Result (Unit {0}) CompositeFault → Type 0
RefusesAlias s (Ok x) = NoAliasBelow s (length s.components)
RefusesAlias s (Err (Map (map_faults.Alias a b))) = Aliases {X = Unit {0}} s (Err (map_faults.Alias a b))
RefusesAlias s (Err (Map other)) = ⊥
RefusesAlias s (Err Memory) = Unit {0}

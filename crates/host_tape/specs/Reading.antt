-- What the front of some bytes is read as, and what a tape that was read has told.
use Rattle.std.specs.Prelude.{◌≡◌, ℕ, zero, suc, ◌+◌, ◌<◌, ◌≤◌, List, [], ◌∷◌, length, take, drop, Option, Some, None, Result, Ok, Err, ◌⊎◌, nat_lt, ◌||◌, if◌then◌else◌}
use Rattle.std.specs.Int.{w32, w64, from_le_bytes}
use Rattle.host_traits.specs.declared.calls.TapeItem.{TapeItem}
use Rattle.host_traits.specs.declared.calls.TapeItem.TheVariants.{Failed, Done, Number, Bytes}
use Rattle.host_tape.specs.declared.fault.TapeFault.{TapeFault}
use Rattle.host_tape.specs.declared.fault.TapeFault.TheVariants as faults
use Rattle.host_tape.specs.Tape.{IsTape, Breaks, header}
use Rattle.host_traits.specs.declared.calls.Call.{Call}
use Rattle.host_tape.specs.Played.{Played, unplayed, IsPlayed}

-- the record that a text begins with, and how many bytes it has
unfoldable pub record_of : List ℕ → Option (TapeItem × ℕ)
record_of [] = None
record_of (zero ∷ rest) = Some (Failed, 1)
record_of (suc zero ∷ rest) = Some (Done, 1)
record_of (suc (suc zero) ∷ rest) = if nat_lt (length rest) 8 then None else Some (Number (from_le_bytes w64 (take 8 rest)), 9)
record_of (suc (suc (suc zero)) ∷ rest) =
    if nat_lt (length rest) 4 then None
    else if nat_lt 69632 (from_le_bytes w32 (take 4 rest)) || nat_lt (length rest) (4 + from_le_bytes w32 (take 4 rest)) then None
    else Some (Bytes (take (from_le_bytes w32 (take 4 rest)) (drop 4 rest)), 5 + from_le_bytes w32 (take 4 rest))
record_of (suc (suc (suc (suc b))) ∷ rest) = None

-- the place behind the record that begins here, or this place where none does
abbrev pub behind_one : Option (TapeItem × ℕ) → ℕ → ℕ
behind_one None at = at
behind_one (Some found) at = at + found.1

abbrev pub and_then : Option (TapeItem × ℕ) → (ℕ → List TapeItem) → List TapeItem
and_then None others = []
and_then (Some found) others = found.0 ∷ others found.1

-- the records at the front of a text, at most so many
abbrev pub items_in : ℕ → List ℕ → List TapeItem
items_in zero text = []
items_in (suc count) text = and_then (record_of text) (λ n. items_in count (drop n text))

-- from the front of the text these records are read, and this is left
abbrev pub Reads : List ℕ → List TapeItem → List ℕ → Type 0
Reads text [] rest = text ≡ rest
Reads text (item ∷ others) rest = (n : ℕ) × (record_of text ≡ Some (item, n)) × Reads (drop n text) others rest

-- behind the header, no record begins at this place
abbrev pub Stops : List ℕ → ℕ → Type 0
Stops text at = (13 ≤ at) × (at < length text) × ((items : List TapeItem) × Reads (drop 13 text) items (drop at text)) × (record_of (drop at text) ≡ None)

-- so many records are read from the front of the text, and this is left
pub record Counted (text : List ℕ) (count : ℕ) (rest : List ℕ) : Type 0 where
  pub items : List TapeItem
  pub are : length items ≡ count
  pub reads : Reads text items rest

-- so many records stand behind the header, and nothing behind these
abbrev pub Finds : List ℕ → Result ℕ TapeFault → Type 0
Finds text (Ok count) = Counted (drop 13 text) count []
Finds text (Err (faults.At at)) = Stops text at
Finds text (Err faults.Memory) = Unit {0}

-- what was read, record by record
abbrev pub Found : List ℕ → Result Played TapeFault → Type 0
Found text (Ok t) = (take 13 text ≡ header) × Reads (drop 13 text) t.records [] × (t ≡ unplayed t.records)
Found text (Err (faults.At at)) = ((at ≡ 0) × (take 13 text ≡ header → ⊥)) ⊎ ((take 13 text ≡ header) × Stops text at)
Found text (Err faults.Memory) = Unit {0}

-- What reading some bytes answers: a tape of their records, of which none was taken yet, or the place
-- where they are no tape's.
abbrev pub Reading : List ℕ → Result Played TapeFault → Type 0
Reading bytes (Ok t) = IsTape bytes t.records × (t ≡ unplayed t.records)
Reading bytes (Err (faults.At at)) = Breaks bytes at
Reading bytes (Err faults.Memory) = Unit {0}

-- it is a tape of these records, unless memory ran out
abbrev pub IsRead : List TapeItem → Result Played TapeFault → Type 0
IsRead items (Ok t) = t.records ≡ items
IsRead items (Err (faults.At at)) = ⊥
IsRead items (Err faults.Memory) = Unit {0}

-- it is refused with this place, unless memory ran out
abbrev pub IsRefused : ℕ → Result Played TapeFault → Type 0
IsRefused at (Ok t) = ⊥
IsRefused at (Err (faults.At place)) = place ≡ at
IsRefused at (Err faults.Memory) = Unit {0}

-- the counters of a tape are right, and the records that are left are those behind its place
pub record IsKept (text : List ℕ) (count at : ℕ) (calls : List Call) (room refused size : ℕ) (last_late : Option Call) : Type 0 where
  pub played : IsPlayed (items_in count (drop 13 text)) calls room refused size last_late
  pub counted : length (items_in count (drop 13 text)) ≡ count
  pub within : at ≤ length text
  pub ahead : Reads (drop at text) (drop (length calls) (items_in count (drop 13 text))) []

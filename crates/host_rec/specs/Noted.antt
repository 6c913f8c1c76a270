-- How a recorder holds what it keeps: the calls, and the text of the tape of their records.
use Rattle.std.specs.Prelude.{◌≡◌, ℕ, ◌-◌, ◌^◌, min, List, [], ◌∷◌, length, drop}
use Rattle.std.specs.List.{AllByRecursion}
use Rattle.host_traits.specs.declared.calls.Call.{Call}
use Rattle.host_traits.specs.declared.calls.TapeItem.{TapeItem}
use Rattle.host_traits.specs.Told.{heard_size}
use Rattle.host_tape.specs.Tape.{IsItem, tape_bytes}
use Rattle.host_tape.specs.Reading.{items_in}
use Rattle.host_rec.specs.Recorded.{Kept, exchanges, failures}

-- what is kept, for how many calls more there is room, and for how many bytes behind the text of their tape
pub record Noted : Type 0 where
  pub kept : Kept
  pub room : ℕ
  pub spare : ℕ

-- the records behind the header, one for each call
abbrev pub items_of : List ℕ → List Call → List TapeItem
items_of text calls = items_in (length calls) (drop 13 text)

-- the room behind a text that was begun
abbrev pub spare_behind : List ℕ → ℕ → ℕ
spare_behind [] capacity = 0
spare_behind (b ∷ text) capacity = capacity - length (b ∷ text)

-- the tape of these records, or nothing yet where there are none
abbrev pub IsText : List ℕ → List TapeItem → Type 0
IsText [] items = items ≡ []
IsText (b ∷ text) items = b ∷ text ≡ tape_bytes items

-- the text is the tape of these records, one for each call, and the counts are right
pub record IsNoted (calls : List Call) (text : List ℕ) (size faults : ℕ) : Type 0 where
  pub spelled : IsText text (items_of text calls)
  pub each : AllByRecursion IsItem (items_of text calls)
  pub paired : length calls ≡ length (items_of text calls)
  pub sized : size ≡ min (heard_size (exchanges calls (items_of text calls))) (2 ^ 64 - 1)
  pub counted : faults ≡ min (failures (items_of text calls)) (2 ^ 64 - 1)

-- What a tape has told: its records answer the calls one by one.
use Rattle.std.specs.Prelude.{slice_get, false, ◌≡◌, ◌≤◌, ◌<◌, ◌+◌, ◌-◌, ◌^◌, ◌⊎◌, min, ℕ, List, [], ◌∷◌, ◌++◌, length, drop, Option, Some, None}
use Rattle.host_traits.specs.declared.calls.Call.{Call}
use Rattle.host_traits.specs.declared.calls.Said.{Said}
use Rattle.host_traits.specs.declared.calls.TapeItem.{TapeItem}
use Rattle.host_traits.specs.Told.{Told, Calls, Exchanges, answer_of, exchange_of, one_failure, kind_of, heard_size, said_size}

-- the record at this place doesn't answer the call, or there is none
abbrev pub Refuses : List TapeItem → ℕ → Call → Type 0
Refuses records place call = (length records ≤ place) ⊎ ((r : TapeItem) × (slice_get records place ≡ Some r) × (answer_of (kind_of call) r ≡ None))

-- the calls that the records answered, with their answers
abbrev pub recited : List Call → List TapeItem → Exchanges
recited [] records = []
recited (call ∷ calls) [] = []
recited (call ∷ calls) (r ∷ records) = exchange_of call (answer_of (kind_of call) r) ++ recited calls records

-- the calls that took a record, each with what that record answers
abbrev pub came_of : List Call → List TapeItem → Calls
came_of [] records = []
came_of (call ∷ calls) [] = []
came_of (call ∷ calls) (r ∷ records) = (call, answer_of (kind_of call) r) ∷ came_of calls records

-- how many calls their records refused
abbrev pub failures : List Call → List TapeItem → ℕ
failures [] records = 0
failures (call ∷ calls) [] = 0
failures (call ∷ calls) (r ∷ records) = one_failure (answer_of (kind_of call) r) + failures calls records

abbrev pub later_failure : Call → Option Said → Option Call → Option Call
later_failure call said (Some later) = Some later
later_failure call None None = Some call
later_failure call (Some said) None = None

-- the last call that its record refused
abbrev pub last_failure : List Call → List TapeItem → Option Call
last_failure [] records = None
last_failure (call ∷ calls) [] = None
last_failure (call ∷ calls) (r ∷ records) = later_failure call (answer_of (kind_of call) r) (last_failure calls records)

abbrev pub or_else : Option Call → Option Call → Option Call
or_else (Some call) other = Some call
or_else None other = other

-- a tape: its records, the calls that took one each, how many calls came after its end, and the last of these
pub record Played : Type 0 where
  pub records : List TapeItem
  pub calls : List Call
  pub late : ℕ
  pub last_late : Option Call

-- a tape from which no call took a record yet
abbrev pub unplayed : List TapeItem → Played
unplayed records = record { records = records; calls = []; late = 0; last_late = None }

-- what a tape tells: the calls that took a record with what it answers, the records that are left, and as faults the calls
-- that their records refused and those after the end
abbrev pub tape_told : Played → Told
tape_told p = record {
  faults = min (failures p.calls p.records + p.late) (2 ^ 64 - 1);
  last_failed = or_else p.last_late (last_failure p.calls p.records);
  heard = Some (recited p.calls p.records);
  made = Some (came_of p.calls p.records);
  held = None;
  ahead = Some (drop (length p.calls) p.records);
  scarce = false;
  honest = false;
}

-- the counters of a tape: each call that took a record has one, there is room for as many calls as records, and the counts are right
pub record IsPlayed (records : List TapeItem) (calls : List Call) (room refused size : ℕ) (last_late : Option Call) : Type 0 where
  pub fits : length calls ≤ length records
  pub spare : length records ≤ room
  pub refusals : refused ≡ failures calls records
  pub early : length calls < length records → last_late ≡ None
  pub sizes : size ≡ min (heard_size (recited calls records)) (2 ^ 64 - 1)

-- the next record answers the call, by so many bytes
pub record AnswersBy (p : Played) (call : Call) (size : ℕ) : Type 0 where
  pub answer : TapeItem
  pub said : Said
  pub at : slice_get p.records (length p.calls) ≡ Some answer
  pub answers : answer_of (kind_of call) answer ≡ Some said
  pub size_is : size ≡ said_size said

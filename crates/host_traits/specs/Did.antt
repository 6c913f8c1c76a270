-- Work that calls the host, and why it came to no end.
use Rattle.std.specs.Prelude.{Bool, true, ◌≡◌, ℕ, ◌<◌, ◌≤◌, List, [], ◌∷◌, ◌++◌, length, Option, Some, None, ◌⊎◌}
use Rattle.host_traits.specs.declared.calls.Call.{Call}
use Rattle.host_traits.specs.declared.calls.Said.{Said}
use Rattle.host_traits.specs.declared.calls.Said.TheVariants.{Bytes}
use Rattle.host_traits.specs.Told.{Told, Made, Talked, Exchanges, Rose, heard_of, failures_of, kind_of, kind_bytes}

-- one of the exchanges
abbrev pub IsIn : Call → Said → Exchanges → Type 0
IsIn call said [] = ⊥
IsIn call said (x ∷ heard) = ((call, said) ≡ x) ⊎ IsIn call said heard

-- each call that was made is such, with what it handed over
abbrev pub Each : (Call → List ℕ → Type 0) → List Made → Type 0
Each IsFor [] = Unit {0}
Each IsFor (m ∷ own) = IsFor m.call m.given × Each IsFor own

-- a call that hands over nothing
abbrev pub reads : (Call → Type 0) → Call → List ℕ → Type 0
reads IsFor call given = IsFor call × (given ≡ [])

-- no call follows one that failed
abbrev pub StopsAtFailure : List Made → Type 0
StopsAtFailure [] = Unit {0}
StopsAtFailure (m ∷ own) = (m.came ≡ None → own ≡ []) × StopsAtFailure own

-- what blame speaks of: all that was heard, the answers to the work's own calls and how many of these failed, the host's
-- counts before and after, its last failed call, and whether a call may end for want of memory
pub record Trace : Type 0 where
  pub heard : Exchanges
  pub own : Exchanges
  pub failed : ℕ
  pub before : ℕ
  pub after : ℕ
  pub last_failed : Option Call
  pub scarce : Bool

-- the answers to some calls and how many of them failed, and what was heard before them
abbrev pub trace_after : Exchanges → Exchanges → ℕ → Told → Told → Trace
trace_after heard own failed old new = record {
  heard = heard ++ own;
  own = own;
  failed = failed;
  before = old.faults;
  after = new.faults;
  last_failed = new.last_failed;
  scarce = new.scarce;
}

-- the same of these calls alone
abbrev pub trace_of : Exchanges → ℕ → Told → Told → Trace
trace_of own failed old new = trace_after [] own failed old new

-- no call failed, and an answer of the work was shorter than asked
pub record IsShort (t : Trace) (asked got : ℕ) : Type 0 where
  pub failed : t.failed ≡ 0
  pub call : Call
  pub bytes : List ℕ
  pub own : IsIn call (Bytes bytes) t.own
  pub asks : kind_of call ≡ kind_bytes asked
  pub got_is : got ≡ length bytes
  pub short : got < asked

-- one call failed; it belongs to the work, and was the last to fail
pub record IsFailed (IsFor : Call → Type 0) (t : Trace) (faults : ℕ) : Type 0 where
  pub failed : t.failed ≡ 1
  pub rose : Rose t.before t.after
  pub count : faults ≡ t.after
  pub call : Call
  pub last : t.last_failed ≡ Some call
  pub for : IsFor call

-- no call failed, and one may end for want of memory
pub record IsScarce (t : Trace) : Type 0 where
  pub failed : t.failed ≡ 0
  pub scarce : t.scarce ≡ true

-- Work that calls the host: the calls that it made, failed ones too, each of which belongs to it, by what it handed over too;
-- at most so many, and none after one that failed; and what came of them.
pub record DidBy (IsFor : Call → List ℕ → Type 0) (most : ℕ) (old new : Told) (Outcome : Trace → Type 0) : Type 0 where
  pub own : List Made
  pub talked : Talked old new own
  pub calls : Each IsFor own
  pub few : length own ≤ most
  pub stops : StopsAtFailure own
  pub outcome : Outcome (trace_of (heard_of own) (failures_of own) old new)

-- the same, where no call hands anything over
abbrev pub Did : (Call → Type 0) → ℕ → Told → Told → (Trace → Type 0) → Type 0
Did IsFor most old new Outcome = DidBy (reads IsFor) most old new Outcome

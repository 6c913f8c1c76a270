-- What a recorder keeps of each call, and what it tells.
use Rattle.std.specs.Prelude.{◌≡◌, true, ℕ, ◌+◌, ◌-◌, ◌^◌, min, List, [], ◌∷◌, ◌++◌, ◌⊎◌, Option, Some, None, Result, Ok, Err}
use Rattle.host_traits.specs.declared.calls.Call.{Call}
use Rattle.host_traits.specs.declared.calls.Said.{Said}
use Rattle.host_traits.specs.declared.calls.Said.TheVariants.{Number as SaidNumber, Bytes as SaidBytes, Done as SaidDone}
use Rattle.host_traits.specs.declared.calls.TapeItem.{TapeItem}
use Rattle.host_traits.specs.declared.calls.TapeItem.TheVariants.{Failed as ItemFailed, Number, Bytes, Done}
use Rattle.host_traits.specs.declared.host.HostError.{HostError}
use Rattle.host_traits.specs.declared.host.HostError.TheVariants.{Failed, Memory}
use Rattle.host_traits.specs.Told.{Told, Answered, Refused, Unheard, Calls, Exchanges, exchange_of, one_failure, failed_by}

-- the calls that were passed on and didn't end for want of memory, and beside each the record that answers it
pub record Kept : Type 0 where
  pub calls : List Call
  pub items : List TapeItem

-- a recorder: the host behind it, and what it kept
pub record Recorded (H : Type 0) : Type 0 where
  pub host : H
  pub kept : Kept

abbrev pub kept_of : List Call → List TapeItem → Kept
kept_of calls items = record { calls = calls; items = items }

abbrev pub nothing : Kept
nothing = kept_of [] []

-- one call more
abbrev pub and : Kept → Call → TapeItem → Kept
and k call item = kept_of (k.calls ++ call ∷ []) (k.items ++ item ∷ [])

-- the record of an answer
abbrev pub item_of : Said → TapeItem
item_of (SaidNumber n) = Number n
item_of (SaidBytes bytes) = Bytes bytes
item_of SaidDone = Done

-- what came of a call, by its record: its answer, or None where it failed
abbrev pub came_by : TapeItem → Option Said
came_by ItemFailed = None
came_by (Number n) = Some (SaidNumber n)
came_by (Bytes bytes) = Some (SaidBytes bytes)
came_by Done = Some SaidDone

-- the exchange of a call and its record: none where it failed
abbrev pub exchange : Call → TapeItem → Exchanges
exchange call item = exchange_of call (came_by item)

-- what was heard: each call that was answered, with its answer
abbrev pub exchanges : List Call → List TapeItem → Exchanges
exchanges [] items = []
exchanges (call ∷ calls) [] = []
exchanges (call ∷ calls) (item ∷ items) = exchange call item ++ exchanges calls items

abbrev pub heard_by : Kept → Exchanges
heard_by k = exchanges k.calls k.items

-- the calls, with what came of each
abbrev pub calls_in : List Call → List TapeItem → Calls
calls_in [] items = []
calls_in (call ∷ calls) [] = []
calls_in (call ∷ calls) (item ∷ items) = (call, came_by item) ∷ calls_in calls items

-- how many of the records are failures
abbrev pub failure : TapeItem → ℕ
failure item = one_failure (came_by item)

abbrev pub failures : List TapeItem → ℕ
failures [] = 0
failures (item ∷ items) = failure item + failures items

-- the last call that failed, where one did before these calls
abbrev pub last_failed_in : Option Call → List Call → List TapeItem → Option Call
last_failed_in before [] items = before
last_failed_in before (call ∷ calls) [] = before
last_failed_in before (call ∷ calls) (item ∷ items) = last_failed_in (failed_by before call (came_by item)) calls items

-- the calls and what came of each, what was heard, how often a call failed and which was the last to, all by what was kept; and
-- what the host behind tells of what it holds, and whether it is honest. It is no tape, whatever stands behind it.
abbrev pub told_with : Told → Kept → Told
told_with t k = record t {
  faults = min (failures k.items) (2 ^ 64 - 1);
  last_failed = last_failed_in None k.calls k.items;
  heard = Some (heard_by k);
  made = Some (calls_in k.calls k.items);
  ahead = None;
  scarce = true;
}

-- what one call adds: the record of its answer, or of its failure, and nothing where memory was wanting
abbrev pub Keeps : {T : Type 0} → Call → (T → Said) → Result T HostError → Kept → Kept → Type 0
Keeps call said (Ok x) old new = new ≡ and old call (item_of (said x))
Keeps call said (Err Failed) old new = new ≡ and old call ItemFailed
Keeps call said (Err Memory) old new = new ≡ old

-- what a recorder tells, by what the host behind it tells
abbrev pub recorder_told : {H : Type 0} → (H → Told) → Recorded H → Told
recorder_told tell r = told_with (tell r.host) r.kept

-- One call of a recorder is one call of the host behind it, with the same outcome. Where that is out of memory, the host behind
-- wasn't asked and is as it was, or it was asked and ran out of memory itself.
abbrev pub Passed : {H T : Type 0} → (H → Told) → Call → List ℕ → (T → Said) → Result T HostError → H → H → Type 0
Passed tell call given said (Ok x) old new = Answered call given (said x) (tell old) (tell new)
Passed tell call given said (Err Failed) old new = Refused call given (tell old) (tell new)
Passed tell call given said (Err Memory) old new = (new ≡ old) ⊎ Unheard (tell old) (tell new)

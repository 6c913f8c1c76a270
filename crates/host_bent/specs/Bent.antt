-- A host in memory whose answers are bent.
use Rattle.std.specs.Prelude.{◌≡◌, ℕ, nat_eq, if◌then◌else◌, List, [], ◌∷◌, take, slice_index, slice_set, vec_capacity, ◌≤◌, bit_xor, ◌⊎◌, Option, Some, None, Result, Ok, Err, Bool, false, true}
use Rattle.std.specs.Global.{Vec}
use Rattle.host_traits.specs.declared.calls.Call.{Call}
use Rattle.host_traits.specs.declared.calls.Said.{Said}
use Rattle.host_traits.specs.declared.calls.Said.TheVariants.{Number as SaidNumber, Bytes as SaidBytes}
use Rattle.host_traits.specs.declared.host.HostError.{HostError}
use Rattle.host_traits.specs.declared.host.HostError.TheVariants.{Failed, Memory}
use Rattle.host_traits.specs.Mem.{one_more}
use Rattle.host_traits.specs.Told.{Told, Asked}
use Rattle.host_bent.specs.declared.bends.Bend.{Bend}
use Rattle.host_bent.specs.declared.bends.Bend.TheVariants.{Fail, Number, Bytes, Flip}
use Rattle.host_mem.specs.Mem.{Mem, mem_told, FailsBy, IsNumbered}

-- the bend that is listed for a call's number: the first, where there are several
abbrev pub bend_at : List (ℕ × Bend) → ℕ → Option Bend
bend_at [] number = None
bend_at (b ∷ bends) number = if nat_eq b.0 number then Some b.1 else bend_at bends number

-- bytes with the lowest bit of one of them flipped; where it isn't there, as they are
abbrev pub flipped : List ℕ → ℕ → List ℕ
flipped bytes place = slice_set bytes place (bit_xor (slice_index bytes place) 1)

-- An answer bent, to a call that takes at most so many bytes: failed, replaced, or with one bit flipped. A bend
-- whose kind doesn't suit the answer leaves it as it is.
abbrev pub bent_by : ℕ → Option Bend → Result Said HostError → Result Said HostError
bent_by most (Some Fail) answer = Err Failed
bent_by most (Some (Number n)) (Ok (SaidNumber own)) = Ok (SaidNumber n)
bent_by most (Some (Bytes bytes)) (Ok (SaidBytes own)) = Ok (SaidBytes (take most bytes.items))
bent_by most (Some (Flip place)) (Ok (SaidBytes own)) = Ok (SaidBytes (flipped own place))
bent_by most bend answer = answer

-- an answer, in the words of all calls
abbrev pub said_as : {T : Type 0} → (T → Said) → Result T HostError → Result Said HostError
said_as said (Ok x) = Ok (said x)
said_as said (Err e) = Err e

-- the bends, how many calls were made, how many failed, and the last of these
pub record BendCount : Type 0 where
  pub bends : List (ℕ × Bend)
  pub calls : ℕ
  pub faults : ℕ
  pub last_failed : Option Call

-- after a call, which failed or not
abbrev pub counted : Call → Bool → BendCount → BendCount
counted call true b = record b { calls = one_more b.calls; faults = one_more b.faults; last_failed = Some call }
counted call false b = record b { calls = one_more b.calls }

abbrev pub is_failed : Result Said HostError → Bool
is_failed (Ok said) = false
is_failed (Err Failed) = true
is_failed (Err Memory) = false

-- after a call with this answer
abbrev pub ended : Call → Result Said HostError → BendCount → BendCount
ended call answer b = counted call (is_failed answer) b

abbrev pub is_flip : Option Bend → Bool
is_flip (Some (Flip place)) = true
is_flip bend = false

-- room for as many bytes, where one of them is to be flipped
abbrev pub HasRoom : Option Bend → ℕ → Vec ℕ → Type 0
HasRoom (Some (Flip place)) most room = (room.items ≡ []) × (most ≤ vec_capacity room)
HasRoom bend most room = Unit {0}

-- a host in memory, and what it is bent by
pub record BentMem : Type 0 where
  pub host : Mem
  pub count : BendCount

-- What it tells: how often a call failed, and which the last time. Neither what was heard nor what is held.
abbrev pub count_told : BendCount → Told
count_told b = record {
  faults = b.faults;
  last_failed = b.last_failed;
  heard = None;
  made = None;
  held = None;
  ahead = None;
  scarce = true;
  honest = false;
}

abbrev pub bent_told : BentMem → Told
bent_told b = count_told b.count

-- The host behind counted the call, failed where it is to fail, and keeps its list of failing calls; or it wasn't asked, where
-- there was no room for the bytes to be flipped, and is as it was.
abbrev pub IsPassed : Call → List ℕ → Result Said HostError → BentMem → BentMem → Type 0
IsPassed call given own old new =
    (IsNumbered old.host.count new.host.count × FailsBy call given own old.host)
    ⊎ ((own ≡ Err Memory) × (is_flip (bend_at old.count.bends old.count.calls) ≡ true) × (new.host ≡ old.host))

-- The answer is told. The host behind answered, as its own contract says, and this is its answer bent by what is listed for
-- the call's number. Where there was no room for the bytes to be flipped, the host behind wasn't asked, and the answer is out of memory.
pub record IsBent {T : Type 0} (most : ℕ) (call : Call) (given : List ℕ) (said : T → Said) (result : Result T HostError) (old new : BentMem) : Type 0 where
  pub told : Asked call given said result (bent_told old) (bent_told new)
  pub own : Result Said HostError
  pub asked : Asked call given (λ s. s) own (mem_told old.host) (mem_told new.host)
  pub passed : IsPassed call given own old new
  pub bent : said_as said result ≡ bent_by most (bend_at old.count.bends old.count.calls) own
  pub counted : new.count ≡ ended call (said_as said result) old.count

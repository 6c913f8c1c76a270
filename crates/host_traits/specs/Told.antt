-- What a host tells of the calls that were made and of what it holds, and what each call adds to it.
use Rattle.std.specs.Prelude.{Bool, true, ◌≡◌, ◌⊎◌, ◌≤◌, ◌+◌, ◌-◌, ◌^◌, ℕ, min, List, [], ◌∷◌, ◌++◌, length, drop, Option, Some, None, Result, Ok, Err}
use Rattle.host_traits.specs.declared.calls.Call.{Call}
use Rattle.host_traits.specs.declared.calls.Call.TheVariants.{BlockSize, BlockRead, BlockWrite, BlockSync, FileRead, TreeRead, Descriptor, FileWrite, TreeWrite, Resize, Create, Mkdir, Delete}
use Rattle.host_traits.specs.declared.calls.Said.{Said}
use Rattle.host_traits.specs.declared.calls.Said.TheVariants.{Number as SaidNumber, Bytes as SaidBytes, Done as SaidDone}
use Rattle.host_traits.specs.declared.calls.TapeItem.{TapeItem}
use Rattle.host_traits.specs.declared.calls.TapeItem.TheVariants.{Number, Bytes, Done}
use Rattle.host_traits.specs.declared.host.HostError.{HostError}
use Rattle.host_traits.specs.declared.host.HostError.TheVariants.{Failed, Memory}
use Rattle.host_traits.specs.Held.{Held, serve}
use Rattle.std.specs.Prelude.{◌*◌, take}

-- what was asked and what was answered, call by call
abbrev pub Exchanges : Type 0
Exchanges = List (Call × Said)

-- the kind of answer that a call takes: at most so many bytes, a number, or that it was done
pub data Kind : Type 0 where
  kind_bytes : ℕ → Kind
  kind_number : Kind
  kind_done : Kind

abbrev pub kind_of : Call → Kind
kind_of (BlockSize disk) = kind_number
kind_of (BlockRead disk sector count) = kind_bytes (512 * count)
kind_of (BlockWrite disk sector count) = kind_done
kind_of (BlockSync disk) = kind_done
kind_of (FileRead file at want) = kind_bytes want
kind_of (TreeRead file level index) = kind_bytes 4096
kind_of (Descriptor file) = kind_bytes 256
kind_of (FileWrite file at count) = kind_done
kind_of (TreeWrite file level index) = kind_done
kind_of (Resize file size) = kind_done
kind_of (Create dir file) = kind_done
kind_of (Mkdir dir file) = kind_done
kind_of (Delete dir) = kind_done

-- what a record answers to a call: none where the record is of another kind, or a failure
abbrev pub answer_of : Kind → TapeItem → Option Said
answer_of (kind_bytes most) (Bytes bytes) = Some (SaidBytes (take most bytes))
answer_of kind_number (Number n) = Some (SaidNumber n)
answer_of kind_done Done = Some SaidDone
answer_of kind r = None

-- A call that was made: the bytes or the name that it handed over (none where it hands over nothing), and its answer, or
-- None where it failed.
pub record Made : Type 0 where
  pub call : Call
  pub given : List ℕ
  pub came : Option Said

abbrev pub made_of : Call → List ℕ → Option Said → Made
made_of call given came = record { call = call; given = given; came = came }

-- calls, and what came of each
abbrev pub Calls : Type 0
Calls = List (Call × Option Said)

-- what a call adds to the exchanges: nothing where it failed
abbrev pub exchange_of : Call → Option Said → Exchanges
exchange_of call None = []
exchange_of call (Some said) = (call, said) ∷ []

-- the calls that were answered, with their answers
abbrev pub heard_of : List Made → Exchanges
heard_of [] = []
heard_of (m ∷ own) = exchange_of m.call m.came ++ heard_of own

abbrev pub one_failure : Option Said → ℕ
one_failure None = 1
one_failure (Some said) = 0

-- how many of the calls failed
abbrev pub failures_of : List Made → ℕ
failures_of [] = 0
failures_of (m ∷ own) = one_failure m.came + failures_of own

-- the last call that failed: this one, where it did, and else the one before
abbrev pub failed_by : Option Call → Call → Option Said → Option Call
failed_by before call None = Some call
failed_by before call (Some said) = before

abbrev pub last_after : Option Call → List Made → Option Call
last_after before [] = before
last_after before (m ∷ own) = last_after (failed_by before m.call m.came) own

-- ---- a tape, by the records that no call took yet (None: no tape): each call takes the next one, while there is one

-- what the next record answers to a call: nothing where it is a failure or of another kind, or there is none
abbrev pub next_answer : List TapeItem → Call → Option Said
next_answer [] call = None
next_answer (r ∷ records) call = answer_of (kind_of call) r

abbrev pub behind : Option (List TapeItem) → Option (List TapeItem)
behind None = None
behind (Some records) = Some (drop 1 records)

-- the records that are left after some calls
abbrev pub ahead_after : Option (List TapeItem) → List Made → Option (List TapeItem)
ahead_after ahead [] = ahead
ahead_after ahead (m ∷ own) = ahead_after (behind ahead) own

abbrev pub PlaysOne : Option (List TapeItem) → Call → Option Said → Type 0
PlaysOne None call came = Unit {0}
PlaysOne (Some records) call came = came ≡ next_answer records call

-- what came of each call is what its record answers
abbrev pub Plays : Option (List TapeItem) → List Made → Type 0
Plays ahead [] = Unit {0}
Plays ahead (m ∷ own) = PlaysOne ahead m.call m.came × Plays (behind ahead) own

abbrev pub taken_one : Option (List TapeItem) → Call → Option Said → Calls
taken_one None call came = (call, came) ∷ []
taken_one (Some []) call came = []
taken_one (Some (r ∷ records)) call came = (call, came) ∷ []

-- the calls that took a record; where there is no tape, all of them
abbrev pub taken : Option (List TapeItem) → List Made → Calls
taken ahead [] = []
taken ahead (m ∷ own) = taken_one ahead m.call m.came ++ taken (behind ahead) own

-- ---- what is held

-- A call that was answered, was so by what is held, and changes it as it says. One that failed changes nothing, and where
-- the host is honest, what is held can't serve it.
abbrev pub Serves : Bool → Held → Call → List ℕ → Option Said → Held → Type 0
Serves honest h call given (Some said) k = serve h call given ≡ Some (said, k)
Serves honest h call given None k = (k ≡ h) × (honest ≡ true → serve h call given ≡ None)

-- one call after another, each by what is held then
abbrev pub ServesAll : Bool → Held → List Made → Held → Type 0
ServesAll honest h [] k = k ≡ h
ServesAll honest h (m ∷ own) k = (mid : Held) × Serves honest h m.call m.given m.came mid × ServesAll honest mid own k

-- what is held after some calls, where it is told
abbrev pub HeldAfter : Bool → Option Held → List Made → Option Held → Type 0
HeldAfter honest None own new = new ≡ None
HeldAfter honest (Some h) own new = (k : Held) × (new ≡ Some k) × ServesAll honest h own k

-- What a host tells: how often it failed, its last call that failed, and where it tells them the exchanges so far, its calls
-- with what came of each (of a tape those that took a record), and what it holds. Of a tape the records that no call took yet,
-- and None of any other host.
-- What no call changes: whether calls may end for want of memory, whether the host is honest.
pub record Told : Type 0 where
  pub faults : ℕ
  pub last_failed : Option Call
  pub heard : Option Exchanges
  pub made : Option Calls
  pub held : Option Held
  pub ahead : Option (List TapeItem)
  pub scarce : Bool
  pub honest : Bool

-- a count rose: it is larger, or stands at the last value of u64
abbrev pub Rose : ℕ → ℕ → Type 0
Rose before now = min (before + 1) (2 ^ 64 - 1) ≤ now

-- The count of failures didn't rise, or the host is honest. Over a host that tells what it holds, each call that this can serve
-- was then answered by it, or ended for want of memory.
abbrev pub Calm : Told → Told → Type 0
Calm old new = (Rose old.faults new.faults → ⊥) ⊎ (old.honest ≡ true)

-- the list so far and these, where it is told
abbrev pub and_more : {A : Type 0} → Option (List A) → List A → Option (List A)
and_more None more = None
and_more (Some list) more = Some (list ++ more)

abbrev pub heard_more : Option Exchanges → Exchanges → Option Exchanges
heard_more heard more = and_more heard more

-- These calls were made, each told, the failed ones too, and no other. The count of failures rose by as many as failed, and
-- stands still at the last value of u64.
pub record Talked (old new : Told) (own : List Made) : Type 0 where
  pub faults : old.faults ≤ new.faults
  pub counted : min new.faults (2 ^ 64 - 1) ≡ min (old.faults + failures_of own) (2 ^ 64 - 1)
  pub last_failed : new.last_failed ≡ last_after old.last_failed own
  pub heard : new.heard ≡ heard_more old.heard (heard_of own)
  pub made : new.made ≡ and_more old.made (taken old.ahead own)
  pub held : HeldAfter old.honest old.held own new.held
  pub ahead : new.ahead ≡ ahead_after old.ahead own
  pub plays : Plays old.ahead own
  pub scarce : new.scarce ≡ old.scarce
  pub honest : new.honest ≡ old.honest

-- a call that was answered
abbrev pub Answered : Call → List ℕ → Said → Told → Told → Type 0
Answered call given said old new = Talked old new (made_of call given (Some said) ∷ [])

-- a call that failed
abbrev pub Refused : Call → List ℕ → Told → Told → Type 0
Refused call given old new = Talked old new (made_of call given None ∷ [])

-- a call for which there was no memory: nothing is told of it
pub record Unheard (old new : Told) : Type 0 where
  pub talked : Talked old new []
  pub scarce : new.scarce ≡ true

-- what one call adds, by its outcome
abbrev pub Asked : {T : Type 0} → Call → List ℕ → (T → Said) → Result T HostError → Told → Told → Type 0
Asked call given said (Ok x) old new = Answered call given (said x) old new
Asked call given said (Err Failed) old new = Refused call given old new
Asked call given said (Err Memory) old new = Unheard old new

-- an answer has at most as many bytes as were asked for, and none after an error
abbrev pub Fills : ℕ → Result (Unit {0}) HostError → List ℕ → Type 0
Fills asked (Ok _) raw = length raw ≤ asked
Fills asked (Err _) raw = raw ≡ []

-- the bytes of an answer
abbrev pub said_size : Said → ℕ
said_size (SaidBytes bytes) = length bytes
said_size said = 0

-- how many bytes were heard
abbrev pub heard_size : Exchanges → ℕ
heard_size [] = 0
heard_size (x ∷ heard) = said_size x.1 + heard_size heard

-- the number of bytes that were heard, at most the last value of u64, where it is told
abbrev pub IsHeardSize : Option Exchanges → ℕ → Type 0
IsHeardSize None n = Unit {0}
IsHeardSize (Some heard) n = n ≡ min (heard_size heard) (2 ^ 64 - 1)

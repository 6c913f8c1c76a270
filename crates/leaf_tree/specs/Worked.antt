-- Work on a writable file: its calls, and how many of them ask for bytes.
use Rattle.std.specs.Prelude.{◌≡◌, ℕ, ◌+◌, ◌≤◌, List, [], ◌∷◌, length}
use Rattle.host_traits.specs.declared.calls.Call.TheVariants.{FileWrite, TreeWrite, Resize}
use Rattle.host_traits.specs.declared.calls.Call.{Call}
use Rattle.host_traits.specs.Told.{Told, Made, Talked, Kind, kind_of, kind_bytes, kind_number, kind_done, heard_of, failures_of}
use Rattle.host_traits.specs.Did.{Trace, trace_of, Each, StopsAtFailure}

abbrev pub one_ask : Kind → ℕ
one_ask (kind_bytes most) = 1
one_ask kind_number = 0
one_ask kind_done = 0

-- how many calls ask for bytes, those that failed too
abbrev pub asks_of : List Made → ℕ
asks_of [] = 0
asks_of (m ∷ own) = one_ask (kind_of m.call) + asks_of own

-- a call on the bytes of a file or on its size
abbrev pub one_put : Call → ℕ
one_put (FileWrite file at count) = 1
one_put (Resize file size) = 1
one_put call = 0

-- how many there are, those that failed too
abbrev pub puts_of : List Made → ℕ
puts_of [] = 0
puts_of (m ∷ own) = one_put m.call + puts_of own

-- a call that writes none of a file's bytes: it hands over a page of the tree, or nothing
abbrev pub HandsPage : Call → List ℕ → Type 0
HandsPage (FileWrite file at count) given = ⊥
HandsPage (TreeWrite file level index) given = length given ≡ 4096
HandsPage call given = given ≡ []

-- Each call that was made, failed ones too, belongs to the work and hands over what it has to; at most so many of them change the
-- file's bytes or its size, and at most so many ask for bytes; none follows one that failed; and this came of them.
pub record Worked (Hands : Call → List ℕ → Type 0) (puts : ℕ) (IsFor : Call → Type 0) (most : ℕ) (old new : Told)
    (Outcome : Trace → Type 0) : Type 0 where
  pub own : List Made
  pub talked : Talked old new own
  pub calls : Each (λ call given. IsFor call) own
  pub hands : Each Hands own
  pub few_puts : puts_of own ≤ puts
  pub few : asks_of own ≤ most
  pub stops : StopsAtFailure own
  pub outcome : Outcome (trace_of (heard_of own) (failures_of own) old new)

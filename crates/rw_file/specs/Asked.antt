-- The calls on its own bytes that work on a file makes, in order, and that the answers to them are right.
use Rattle.std.specs.Prelude.{◌≡◌, ℕ, zero, suc, ◌≤◌, List, [], ◌∷◌, ◌++◌, length, take, drop, Option, Some, None}
use Rattle.host_traits.specs.declared.calls.Call.{Call}
use Rattle.host_traits.specs.declared.calls.Call.TheVariants.{FileRead, FileWrite, Resize}
use Rattle.host_traits.specs.declared.calls.Said.{Said}
use Rattle.host_traits.specs.declared.calls.Said.TheVariants.{Bytes}
use Rattle.host_traits.specs.Told.{Exchanges, said_size}
use Rattle.host_traits.specs.Did.{Trace, IsIn}
use Rattle.verity_path.specs.Judged.{judged}
use Rattle.verity_path.specs.declared.walk.WalkFault.{WalkFault}
use Rattle.verity_path.specs.declared.walk.WalkFault.TheVariants as walk
use Rattle.rw_file.specs.Contents.{Meaning}
use Rattle.rw_file.specs.Blame.{Each}

-- a call on the bytes of a file or on its size
abbrev pub file_call : Call → List Call
file_call (FileRead file at want) = FileRead file at want ∷ []
file_call (FileWrite file at count) = FileWrite file at count ∷ []
file_call (Resize file size) = Resize file size ∷ []
file_call other = []

-- those that were answered, in order
abbrev pub file_calls : Exchanges → List Call
file_calls [] = []
file_calls (x ∷ own) = file_call x.0 ++ file_calls own

-- the one that failed, where one did
abbrev pub failed_call : ℕ → Option Call → List Call
failed_call zero last = []
failed_call (suc n) None = []
failed_call (suc n) (Some call) = file_call call

-- those that were made: the answered ones, and behind them the one that failed
abbrev pub file_made : Trace → List Call
file_made t = file_calls t.own ++ failed_call t.failed t.last_failed

-- the answer to each read of a file's bytes is such
abbrev pub AllReads : (ℕ → ℕ → Said → Type 0) → Exchanges → Type 0
AllReads P own = (file at want : ℕ) (said : Said) → IsIn (FileRead file at want) said own → P at want said

-- the same but for the last of the answers, so many at most
pub record ButLast (few : ℕ) (P : ℕ → ℕ → Said → Type 0) (own : Exchanges) : Type 0 where
  pub before : Exchanges
  pub last : Exchanges
  pub is : own ≡ before ++ last
  pub count : length last ≤ few
  pub reads : AllReads P before

-- it has as many bytes as were asked for
abbrev pub IsFull : ℕ → ℕ → Said → Type 0
IsFull at want said = said_size said ≡ want

-- it is what a content has there
abbrev pub IsPartOf : List ℕ → ℕ → ℕ → Said → Type 0
IsPartOf content at want said = said ≡ Bytes (take want (drop at content))

-- how many of the answers are shorter than asked: the last, where that is the cause
abbrev pub shorts : WalkFault → ℕ
shorts (walk.Mismatch x) = 0
shorts (walk.Short asked got) = 1
shorts (walk.Failed faults) = 0
shorts walk.Memory = 0

-- These calls on the file's bytes were made, in this order, and no others. Each read was answered by as many bytes as it asked for;
-- and by those of the content, for each content where nothing that was hashed clashes.
pub record AreAsked (before : Meaning) (IsVersion : List ℕ → List ℕ → Type 0) (calls : List Call) (t : Trace) : Type 0 where
  pub made : file_made t ≡ calls
  pub full : AllReads IsFull t.own
  pub right : Each before IsVersion t.own (λ content. AllReads (IsPartOf content) t.own)

-- All of `done` were made, and of `next` the first, in this order, and no others. So it is with the answers, but for the last one
-- where that is to blame: where it is short, and where it is false.
pub record AreBegun (before : Meaning) (IsVersion : List ℕ → List ℕ → Type 0) (done next : List Call) (t : Trace) (why : WalkFault) : Type 0 where
  pub begun : List Call
  pub rest : List Call
  pub made : file_made t ≡ done ++ begun
  pub next_is : next ≡ begun ++ rest
  pub full : ButLast (shorts why) IsFull t.own
  pub right : Each before IsVersion t.own (λ content. ButLast (judged why) (IsPartOf content) t.own)

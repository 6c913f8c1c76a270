-- The next record, and what a call makes of it.
use Rattle.std.proofs.Common.{◌≡◌, ℕ, List, [], ◌∷◌, ◌++◌, length, Option, Some, sym, subst}
use Rattle.std.specs.Prelude.{slice_get}
use Rattle.std.specs.Option.{option_map}
use Rattle.host_traits.specs.declared.calls.Call.{Call}
use Rattle.host_traits.specs.declared.calls.Said.{Said}
use Rattle.host_traits.specs.Told.{Answered, answer_of, kind_of, said_size}
use Rattle.host_tape.specs.declared.next.Next.{Next}
use Rattle.host_tape.specs.Next.{item_by}
use Rattle.host_tape.specs.Played.{Played, AnswersBy, tape_told}
use Rattle.host_tape.proofs.PlayedLemmas.{played-answer}

-- what the next record is
abbrev pub IsNext : Option Next → Played → Type 0
IsNext next p = option_map item_by next ≡ slice_get p.records (length p.calls)

-- its record answers, by so many bytes
pub answers_by : (p : Played) (call : Call) (next : Next) (said : Said) (size : ℕ) → IsNext (Some next) p → answer_of (kind_of call) (item_by next) ≡ Some said → size ≡ said_size said → AnswersBy p call size
answers_by p call next said size is answers count = record { answer = item_by next; said = said; at = sym is; answers = answers; size_is = count }

pub answered_by : (p q : Played) (call : Call) (given : List ℕ) (next : Next) (said : Said) → IsNext (Some next) p → answer_of (kind_of call) (item_by next) ≡ Some said → q ≡ record p { calls = p.calls ++ call ∷ [] } → Answered call given said (tape_told p) (tape_told q)
answered_by p q call given next said is answers taken =
    subst (λ (x : Played). Answered call given said (tape_told p) (tape_told x)) (sym taken) (played-answer p call given (item_by next) said (sym is) answers)

-- Room that is lent for an answer.
use Rattle.std.specs.Prelude.{ℕ, List, ◌++◌, length, take, drop}
use Rattle.std.specs.Borrow.{Lends, MutBor, Fml, Array, u8}
use Rattle.host_traits.specs.Held.{resized}
use Rattle.host_traits.specs.contracts.answers.Raw.{the_row}

-- It ends as the bytes that stand behind r when the borrow ends: a slice keeps its length, so these are `len`.
abbrev pub LendsRoom : MutBor (List ℕ) → ℕ → MutBor (List ℕ) → Fml
LendsRoom s len r =
    Lends the_row (Array u8 0) s r (λ bytes. take len (bytes ++ drop (length bytes) (resized s.now len)))

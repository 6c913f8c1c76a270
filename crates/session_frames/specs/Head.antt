-- The eight bytes before a payload.
use Rattle.std.specs.Prelude.{◌≡◌, ℕ, List, [], ◌∷◌, ◌++◌, length, take, drop, slice_index}
use Rattle.std.specs.Int.{w32, from_le_bytes}
use Rattle.session_frames.specs.Frames.{IsPayload}

pub record IsHead (head : List ℕ) : Type 0 where
  pub suits : IsPayload (slice_index head 4) (from_le_bytes w32 head)
  pub first : slice_index head 5 ≡ 0
  pub second : slice_index head 6 ≡ 0
  pub third : slice_index head 7 ≡ 0

-- a head with which a frame begins, whichever front of it is replaced by the front of a frame
abbrev pub some_head : List ℕ
some_head = 0 ∷ 0 ∷ 1 ∷ 0 ∷ 3 ∷ 0 ∷ 0 ∷ 0 ∷ []

abbrev pub complete : List ℕ → List ℕ
complete held = take 8 held ++ drop (length held) some_head

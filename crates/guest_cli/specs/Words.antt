-- The forms of the words.
use Rattle.std.specs.Prelude.{ℕ, List, [], ◌∷◌, Bool, false, ◌&&◌, nat_le, Option, Some, None, codes, if◌then◌else◌}
use Rattle.std.specs.Str.{bytes_eq}

-- what the words ask for: a replay by its three files, a session over a host made from a store list by its four, or a form that
-- isn't served yet
pub data Command : Type 0 where
  replay_of : List ℕ → List ℕ → List ℕ → Command
  serve_of : List ℕ → List ℕ → List ℕ → List ℕ → Command
  soak : Command

-- one digit from 1 to 8
abbrev pub is_rounds : List ℕ → Bool
is_rounds (b ∷ []) = nat_le 49 b && nat_le b 56
is_rounds other = false

-- replay PLAN TAPE ENTROPY, serve PLAN STORE ENTROPY TAPE_OUT, or soak N
abbrev pub command_of : List (List ℕ) → Option Command
command_of (word ∷ rounds ∷ []) = if bytes_eq word (codes "soak") && is_rounds rounds then Some soak else None
command_of (word ∷ plan ∷ tape ∷ entropy ∷ []) = if bytes_eq word (codes "replay") then Some (replay_of plan tape entropy) else None
command_of (word ∷ plan ∷ store ∷ entropy ∷ out ∷ []) = if bytes_eq word (codes "serve") then Some (serve_of plan store entropy out) else None
command_of other = None

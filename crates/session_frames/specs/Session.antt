-- Frames in a stream that comes in pieces.
use Rattle.std.specs.Prelude.{◌≡◌, ◌+◌, ℕ, List, ◌++◌, length, Option}
use Rattle.std.specs.Io.KnownBytes.{Consumes}
use Rattle.session_frames.specs.Frames.{Held, Framed, Fronts, Splits, IsCutOff, bytes_of}

-- these frames were dropped from the front of what is held
pub record Went (old new : Held) (frames : List Framed) : Type 0 where
  pub splits : Splits old.held frames new.held
  pub at : new.at ≡ old.at + length (bytes_of frames)

-- the same of what is held and then a piece
pub record WentOver (old : Held) (piece : List ℕ) (new : Held) (frames : List Framed) : Type 0 where
  pub splits : Splits (old.held ++ piece) frames new.held
  pub at : new.at ≡ old.at + length (bytes_of frames)

-- bytes in whose front no whole frame stands
abbrev pub NoFrameIn : List ℕ → Type 0
NoFrameIn bytes = (channel : ℕ) (payload rest : List ℕ) → Fronts bytes channel payload rest → ⊥

-- a source gave these bytes, which are these frames and then the rest
pub record Came (left_old left_new : Option (List ℕ)) (frames : List Framed) (bytes rest : List ℕ) : Type 0 where
  pub read : Consumes left_old left_new bytes
  pub splits : Splits bytes frames rest

-- what is held is the rest of so many bytes that came, and is cut off inside a frame
pub record SoFar (left_old left : Option (List ℕ)) (h : Held) (total : ℕ) (frames : List Framed) : Type 0 where
  pub bytes : List ℕ
  pub came : Came left_old left frames bytes h.held
  pub at : h.at ≡ length (bytes_of frames)
  pub total_is : total ≡ length bytes
  pub cut : IsCutOff h.held

-- A stream is frames and then a rest without one in one way alone, so neither the frames nor the offset depend on the cutting.
abbrev pub OneWay : Type 0
OneWay = (stream : List ℕ) (a b : List Framed) (x y : List ℕ) → Splits stream a x → NoFrameIn x → Splits stream b y → NoFrameIn y → (a ≡ b) × (x ≡ y)

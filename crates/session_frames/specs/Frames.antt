-- The frames of a stream: a payload's length as four bytes, a channel, three zeros, and the payload.
use Rattle.std.specs.Prelude.{◌≡◌, ◌≤◌, ◌<◌, ℕ, List, [], ◌∷◌, ◌++◌, length, flat_map}
use Rattle.std.specs.List.{AllByRecursion}
use Rattle.std.specs.Int.{w32, to_le_bytes}

-- the lengths that a payload may have, channel by channel
pub record IsPayload (channel len : ℕ) : Type 0 where
  pub channels : channel < 4
  pub least : 16 ≤ len
  pub most : len ≤ 135168
  pub message : channel ≡ 0 → 40 ≤ len
  pub item : channel ≡ 1 → len ≡ 16
  pub uuid : channel ≡ 2 → len ≡ 16

-- a frame: the payload's length, the channel, three zeros, and the payload
abbrev pub frame : ℕ → List ℕ → List ℕ
frame channel payload = to_le_bytes w32 (length payload) ++ channel ∷ 0 ∷ 0 ∷ 0 ∷ payload

-- a frame stands at the front of the bytes, and rest follows it
pub record Fronts (bytes : List ℕ) (channel : ℕ) (payload rest : List ℕ) : Type 0 where
  pub suits : IsPayload channel (length payload)
  pub whole : bytes ≡ frame channel payload ++ rest

-- the bytes are cut off inside a frame: more bytes would make it whole
pub record IsCutOff (bytes : List ℕ) : Type 0 where
  pub channel : ℕ
  pub payload : List ℕ
  pub more : List ℕ
  pub some : 0 < length more
  pub fronts : Fronts (bytes ++ more) channel payload []

-- no frame begins so, however the bytes go on
abbrev pub BeginsNone : List ℕ → Type 0
BeginsNone bytes = (more : List ℕ) (channel : ℕ) (payload rest : List ℕ) → Fronts (bytes ++ more) channel payload rest → ⊥

-- a frame, as a value
pub record Framed : Type 0 where
  pub channel : ℕ
  pub payload : List ℕ

abbrev pub bytes_of : List Framed → List ℕ
bytes_of frames = flat_map (λ f. frame f.channel f.payload) frames

abbrev pub AreFrames : List Framed → Type 0
AreFrames frames = AllByRecursion (λ f. IsPayload f.channel (length f.payload)) frames

-- the stream is these frames, and then rest
pub record Splits (stream : List ℕ) (frames : List Framed) (rest : List ℕ) : Type 0 where
  pub each : AreFrames frames
  pub whole : stream ≡ bytes_of frames ++ rest

-- what a splitter holds, and where in the stream it stands
pub record Held : Type 0 where
  pub held : List ℕ
  pub at : ℕ

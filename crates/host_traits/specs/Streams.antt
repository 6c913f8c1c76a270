-- What a sink holds after a fault, and when a source or a sink fails.
use Rattle.std.specs.Prelude.{ℕ, ◌≤◌, List, take, Option, Result, OnErr}
use Rattle.std.specs.Io.KnownBytes.{Appends}
use Rattle.host_traits.specs.Told.{Rose}

-- a count of failures does not fall, and rose where the call failed
pub record HasCause {T E : Type 0} (before now : ℕ) (result : Result T E) : Type 0 where
  pub later : before ≤ now
  pub failed : OnErr result (Rose before now)

-- a front part was written
pub record SomePrefix (old new : Option (List ℕ)) (bytes : List ℕ) : Type 0 where
  pub count : ℕ
  pub front : Appends old new (take count bytes)

-- A boot that asked for nothing.
use Rattle.std.proofs.Common.{ℕ, List, [], arith}
use Rattle.host_traits.specs.declared.calls.Call.{Call}
use Rattle.host_traits.specs.Told.{Told}
use Rattle.host_traits.specs.Did.{Trace, trace_of}
use Rattle.host_traits.proofs.Doing.{did_none}
use Rattle.guest_boot.specs.Recording.{Writing, DidWriting}
use Rattle.guest_boot.proofs.Recording.{did_reading}

-- nothing was asked
pub none_done : (F : Call → Type 0) (most : ℕ) (a : Told) (R : List Writing → Trace → Type 0) → R [] (trace_of [] 0 a a) → DidWriting F most a a R
none_done F most a R r = record { writings = []; did = did_reading F F [] most most a a (R []) (R []) (did_none F most a (R []) r) (λ call f. f) (omega arith) (λ t h. h) }

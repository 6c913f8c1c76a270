-- What comes of asking for one sector of an image.
use Rattle.std.specs.Prelude.{◌≡◌, ℕ, List, [], ◌∷◌, ◌≤◌, length, Option, Some, None, Result, Ok, Err}
use Rattle.host_traits.specs.declared.calls.Call.{Call}
use Rattle.host_traits.specs.declared.calls.Said.TheVariants.{Bytes}
use Rattle.host_traits.specs.Did.{Trace, IsFailed, IsScarce}
use Rattle.instance_image.specs.declared.faults.ImageFault.{ImageFault}
use Rattle.instance_image.specs.declared.faults.ImageFault.TheVariants.{Failed, Memory}
use Rattle.instance_image.specs.declared.values.Part.{Part}
use Rattle.instance_image.specs.Opening.{Opening, sector_call, Reading, disk_fault, header_step}

-- the call for a sector
pub record IsSector (o : Opening) (at : ℕ) (call : Call) : Type 0 where
  pub call_is : call ≡ sector_call o at

-- the first sector was heard, and this is its first fault
pub record HeardDisk (o : Opening) (fault : Option ImageFault) (t : Trace) : Type 0 where
  pub failed : t.failed ≡ 0
  pub bytes : List ℕ
  pub own : t.own ≡ (sector_call o 0, Bytes bytes) ∷ []
  pub few : length bytes ≤ 512
  pub is : disk_fault o.salt bytes ≡ fault

abbrev pub DiskOutcome : Opening → Result (Unit {0}) ImageFault → Trace → Type 0
DiskOutcome o (Ok _) t = HeardDisk o None t
DiskOutcome o (Err (Failed faults)) t = (t.own ≡ []) × IsFailed (IsSector o 0) t faults
DiskOutcome o (Err Memory) t = (t.own ≡ []) × IsScarce t
DiskOutcome o (Err fault) t = HeardDisk o (Some fault) t

-- a header was heard, and this is what it makes
pub record HeardHeader (o : Opening) (r : Reading) (makes : Result (Option Part) ImageFault) (t : Trace) : Type 0 where
  pub failed : t.failed ≡ 0
  pub bytes : List ℕ
  pub own : t.own ≡ (sector_call o r.next, Bytes bytes) ∷ []
  pub few : length bytes ≤ 512
  pub is : header_step o.span.sectors r bytes ≡ makes

abbrev pub HeaderOutcome : Opening → Reading → Result (Option Part) ImageFault → Trace → Type 0
HeaderOutcome o r (Ok x) t = HeardHeader o r (Ok x) t
HeaderOutcome o r (Err (Failed faults)) t = (t.own ≡ []) × IsFailed (IsSector o r.next) t faults
HeaderOutcome o r (Err Memory) t = (t.own ≡ []) × IsScarce t
HeaderOutcome o r (Err fault) t = HeardHeader o r (Err fault) t

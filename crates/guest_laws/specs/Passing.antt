-- A boot over a host that holds what the plan needs.
use Rattle.std.specs.Prelude.{◌≡◌, ℕ, List, Some, Result, IfErr}
use Rattle.host_traits.specs.Held.{Held}
use Rattle.host_traits.specs.Told.{Told, Calm}
use Rattle.guest_plan.specs.Plans.{Known}
use Rattle.guest_boot.specs.declared.faults.BootCause.TheVariants.{Memory}
use Rattle.guest_boot.specs.declared.faults.BootFault.{BootFault}
use Rattle.guest_boot.specs.Recording.{DidWriting}
use Rattle.guest_boot.specs.Booting.{AllOnlyRead, IsForLines, most_of}
use Rattle.guest_rules.specs.Machine.{World}
use Rattle.guest_cli.specs.declared.boot.Machine.{Machine}
use Rattle.guest_cli.specs.Booted.{BootedOutcome}
use Rattle.guest_laws.specs.Fitting.{Fits}

-- Over a host that holds what each line of a plan needs, of which none has its measure in a record, where no call of boot failed or the host is honest, boot opens all
-- lines, or there was no memory; and what is held stays.
abbrev pub BootsPass : Type 0
BootsPass = (plan : Known) (entropy : List ℕ) (world : World) (old new : Told) (result : Result Machine BootFault) (h : Held)
    → DidWriting (IsForLines plan.lines) (most_of plan.lines) old new (BootedOutcome plan entropy result) → AllOnlyRead plan.lines
    → old.held ≡ Some h → Calm old new → Fits plan world h
    → IfErr result (λ fault. fault.why ≡ Memory) × (new.held ≡ Some h)

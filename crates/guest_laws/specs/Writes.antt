-- What is read of a writable file in a session.
use Rattle.std.specs.Prelude.{ℕ, List, []}
use Rattle.host_traits.specs.Told.{Told, Exchanges}
use Rattle.instance_image.specs.Sealings.{Sealing}
use Rattle.guest_plan.specs.Plans.{Known}
use Rattle.guest_rules.specs.Machine.{Setting, World, Moment, moment, Turn}
use Rattle.guest_rules.specs.Run.{Run}
use Rattle.guest_rules.specs.Written.{FileBytes, AreClear, AreRead}
use Rattle.guest_cli.specs.Booted.{Opened, first_state}

-- each file is empty
abbrev pub no_bytes : FileBytes
no_bytes number = []

-- Law: in a run from the state after boot each READ of a writable file that is answered with bytes has what was last written with
-- success: nothing at first, changed by the counts and the sizes that were answered since. For no request may two different inputs
-- among those hashed for it share a digest.
abbrev pub WrittenIsRead : Type 0
WrittenIsRead = (plan : Known) (o : Opened) (g : Setting) (world : World) (told : Told) (heard : Exchanges) (sealings : List Sealing) (turns : List Turn) (new : Moment)
    → (run : Run g world (moment (first_state plan o) told heard sealings) turns new)
    → AreClear g world (moment (first_state plan o) told heard sealings) turns new run no_bytes
    → AreRead g world (moment (first_state plan o) told heard sealings) turns new run no_bytes

-- Which sealed forms a session over a host in memory hears, where each record that the host holds is a known one.
use Rattle.std.specs.Prelude.{◌≡◌, ◌++◌, ℕ, List, [], length, slice_get, Option, Some, None, Result}
use Rattle.std.specs.List.{AllByRecursion}
use Rattle.host_traits.specs.Folders.{Files}
use Rattle.host_traits.specs.Held.{Held}
use Rattle.host_traits.specs.Told.{heard_of}
use Rattle.verity_path.specs.declared.device.Device.{Device}
use Rattle.verity_path.specs.declared.walk.Layout.{Layout}
use Rattle.verity_path.specs.declared.walk.Layout.TheVariants.{File, Parts}
use Rattle.instance_image.specs.declared.values.Part.{Part}
use Rattle.instance_image.specs.Sealings.{Sealing}
use Rattle.instance_image.specs.Staying.{HoldsRecords}
use Rattle.guest_plan.specs.Plans.{Known}
use Rattle.guest_plan.specs.Spelling.{IsPlan}
use Rattle.guest_plan.specs.declared.plan.PlanLine.TheVariants as line
use Rattle.guest_boot.specs.Booting.{AllOnlyRead}
use Rattle.guest_rules.specs.Machine.{Instance, Setting, World, moment, Turn, Request, message_of, read_of, get_of, put_of, request_of, image_with}
use Rattle.guest_rules.specs.Run.{AreSealed, calls_of}
use Rattle.guest_cli.specs.declared.session.SessionEnd.{SessionEnd}
use Rattle.guest_cli.specs.Booted.{setting_of, first_state, sealings_of}
use Rattle.guest_cli.specs.Session.{Streams}
use Rattle.guest_cli.specs.Serve.{Recorded, SatOver}
use Rattle.guest_laws.specs.Fitting.{FitsInstance}

-- a device's pages lie in a file
abbrev pub LiesInFile : Layout → Type 0
LiesInFile (File file size) = Unit {0}
LiesInFile (Parts disk first tree) = ⊥

-- a request that reads no sectors of a disk but those of a record: any but a read of an item that lies on a disk
abbrev pub ReadsNoSectors : Setting → Request → Type 0
ReadsNoSectors g (message_of m) = Unit {0}
ReadsNoSectors g (read_of r) = (it : Device) → slice_get g.items r.item ≡ Some it → LiesInFile it.layout
ReadsNoSectors g (get_of uuid) = Unit {0}
ReadsNoSectors g (put_of uuid text) = Unit {0}

-- each record of the instance image that a host holds is one of these sealings
abbrev pub HoldsKnown : Option Instance → List Part → Held → List Sealing → Type 0
HoldsKnown None parts h sealings = Unit {0}
HoldsKnown (Some i) parts h sealings = HoldsRecords h (image_with i parts) i.secret sealings

-- A session of `serve`, over the host that a store list makes. Where that host holds at first what the instance line needs, each
-- record of the image is one of those that the world takes as sealed before the run, and no request reads other sectors of a disk,
-- the session meets the premise on seals.
abbrev pub HonestHostsForgeNone : Type 0
HonestHostsForgeNone = (files : Option Files) (plan store entropy : List ℕ) (old new : Streams) (ended : Result (Unit {0}) SessionEnd)
    (s : SatOver files plan store entropy old new ended) (turns : List Turn) (world : World) (earlier : List Sealing)
    → AllOnlyRead s.made.planned.plan.lines
    → (r : Recorded (setting_of s.made.planned.plan s.opened) (first_state s.made.planned.plan s.opened) (sealings_of s.opened) s.booted s.mid s.calls s.records s.finish turns)
    → world.sealed ≡ Some earlier → FitsInstance s.made.planned.plan s.made.stock.held
    → HoldsKnown (setting_of s.made.planned.plan s.opened).image (first_state s.made.planned.plan s.opened).parts s.made.stock.held earlier
    → AllByRecursion (λ t. ReadsNoSectors (setting_of s.made.planned.plan s.opened) (request_of t.frame)) turns
    → AreSealed (setting_of s.made.planned.plan s.opened) world (moment (first_state s.made.planned.plan s.opened) s.mid (heard_of s.booted) (sealings_of s.opened)) turns
    (moment r.state s.finish (heard_of s.booted ++ heard_of (calls_of turns)) r.sealed) r.plain

-- In such a session, whatever its requests read, no get has a cause.
abbrev pub GetsCauseNone : Type 0
GetsCauseNone = (files : Option Files) (plan store entropy : List ℕ) (old new : Streams) (ended : Result (Unit {0}) SessionEnd)
    (s : SatOver files plan store entropy old new ended) (turns : List Turn) (earlier : List Sealing)
    → AllOnlyRead s.made.planned.plan.lines
    → (r : Recorded (setting_of s.made.planned.plan s.opened) (first_state s.made.planned.plan s.opened) (sealings_of s.opened) s.booted s.mid s.calls s.records s.finish turns)
    → FitsInstance s.made.planned.plan s.made.stock.held
    → HoldsKnown (setting_of s.made.planned.plan s.opened).image (first_state s.made.planned.plan s.opened).parts s.made.stock.held earlier
    → AllByRecursion (λ t. (uuid : List ℕ) → request_of t.frame ≡ get_of uuid → t.cause ≡ None) turns

-- A plan in the grammar with an instance line has a secret, of 32 bytes: so an image that opened always has its records.
abbrev pub InstancesHaveSecrets : Type 0
InstancesHaveSecrets = (text : List ℕ) (plan : Known) (at disk : ℕ) (part : List ℕ) → IsPlan text plan
    → slice_get plan.lines at ≡ Some (line.Instance disk part) → (secret : List ℕ) × (plan.secret ≡ Some secret) × (length secret ≡ 32)

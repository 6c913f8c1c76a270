-- What boot makes of a plan's lines over a host, and why it came to no end.
use Rattle.std.specs.Prelude.{◌≡◌, ◌≢◌, ◌≤◌, ◌⊎◌, ℕ, List, [], length, map, Option, Some, None, Result, Ok, Err}
use Rattle.host_traits.specs.Did.{Trace, Each, StopsAtFailure, trace_of}
use Rattle.host_traits.specs.Told.{Told, Talked, Made, Exchanges, heard_of, failures_of}
use Rattle.verity_path.specs.declared.device.Device.{Device}
use Rattle.ro_file.specs.Files.{MeasuredFile}
use Rattle.instance_image.specs.Records.{Kept}
use Rattle.instance_image.specs.Sealings.{Sealing}
use Rattle.guest_plan.specs.Plans.{Known}
use Rattle.guest_boot.specs.declared.faults.BootFault.{BootFault as Fault}
use Rattle.guest_boot.specs.declared.faults.BootCause.{BootCause}
use Rattle.guest_boot.specs.declared.faults.BootCause.TheVariants as cause
use Rattle.guest_boot.specs.Finding.{TableOn}
use Rattle.guest_boot.specs.Recording.{Writing, ReadsOrWrites}
use Rattle.guest_boot.specs.Booting.{means_of, PlanBoots, IsFault, IsForLines, most_of}
use Rattle.guest_names.specs.Standing.{at_boot}
use Rattle.guest_rules.specs.Machine.{Setting, State}
use Rattle.guest_cli.specs.declared.boot.Machine.{Machine}
use Rattle.guest_cli.specs.declared.records.Records.{Records}
use Rattle.guest_cli.specs.declared.status.Status.{Status}
use Rattle.guest_cli.specs.declared.status.Status.TheVariants.{BootFault, Memory}
use Rattle.guest_cli.specs.Works.{instance_of, parts_of}

-- what boot opened: the devices, the files, and the instance image, where the plan has one; the entropy that is left, and the writes
-- that were made
pub record Opened : Type 0 where
  pub items : List Device
  pub files : List MeasuredFile
  pub image : Option Kept
  pub left : List ℕ
  pub writings : List Writing

-- what they seal
abbrev pub sealings_of : Opened → List Sealing
sealings_of o = map (λ w. w.sealing) o.writings

-- these exchanges, cut in order into those of the instance line and of each other line, open this
pub record Opens (plan : Known) (entropy : List ℕ) (own : Exchanges) (o : Opened) : Type 0 where
  pub tables : List TableOn
  pub boots : PlanBoots (means_of plan entropy) plan.lines own (record {
    tables = tables;
    items = o.items;
    files = o.files;
    image = o.image;
    secret = plan.secret;
    entropy = o.left;
    writings = o.writings;
  })

-- the image, with the plan's secret
abbrev pub records_of : Option Kept → Option (List ℕ) → Option Records
records_of None secret = None
records_of (Some k) None = None
records_of (Some k) (Some secret) = Some (record { image = k; secret = secret })

-- what no request changes, of a machine for which this was opened
abbrev pub setting_of : Known → Opened → Setting
setting_of plan o = record { items = o.items; image = instance_of (records_of o.image plan.secret) }

-- the machine's state after boot: not initialised, the names of the plan's files in the root, no handle, the files as they were
-- opened, the entropy that is left, and the partitions of the image
abbrev pub first_state : Known → Opened → State
first_state plan o = record { fuse = at_boot plan.lines o.files; entropy = o.left; parts = parts_of (records_of o.image plan.secret) }

-- these exchanges, with this entropy, make this machine, by these writes
pub record Makes (plan : Known) (own : Exchanges) (entropy : List ℕ) (writings : List Writing) (m : Machine) : Type 0 where
  pub opened : Opened
  pub opens : Opens plan entropy own opened
  pub written : opened.writings ≡ writings
  pub setting : m.engine.setting ≡ setting_of plan opened
  pub state : m.engine.state ≡ first_state plan opened

-- no call was made, or all lines were opened, by these writes
abbrev pub NoneOrAll : Known → List ℕ → Exchanges → List Writing → Type 0
NoneOrAll plan entropy own writings = ((own ≡ []) × (writings ≡ [])) ⊎ ((o : Opened) × Opens plan entropy own o × (o.writings ≡ writings))

-- what came of boot: where it passed, no call failed; where there was no room to begin with, or none for the names once all lines
-- were opened, none failed either
abbrev pub BootedOutcome : Known → List ℕ → Result Machine Fault → List Writing → Trace → Type 0
BootedOutcome plan entropy (Ok m) writings t = (t.failed ≡ 0) × Makes plan t.own entropy writings m
BootedOutcome plan entropy (Err fault) writings t =
    ((fault.why ≡ cause.Memory) × (t.failed ≡ 0) × NoneOrAll plan entropy t.own writings) ⊎ IsFault (means_of plan entropy) plan.lines plan.numbers fault writings t

-- the plan was opened over a host with this entropy: what it told before and after, and these calls between, and no other, none of
-- which failed; each reads, or is one of the writes
pub record BootsOver (plan : Known) (entropy : List ℕ) (start mid : Told) (booted : List Made) (o : Opened) : Type 0 where
  pub talked : Talked start mid booted
  pub calls : Each (ReadsOrWrites (IsForLines plan.lines) o.writings) booted
  pub few : length booted ≤ most_of plan.lines
  pub answered : failures_of booted ≡ 0
  pub opens : Opens plan entropy (heard_of booted) o

-- a line was not opened, by what was heard for it: these calls were made, failed ones too, and no other, and none after one that
-- failed; want of memory is another status
pub record Unbooted (plan : Known) (entropy : List ℕ) (start : Told) (fault : Fault) : Type 0 where
  pub finish : Told
  pub own : List Made
  pub talked : Talked start finish own
  pub writings : List Writing
  pub calls : Each (ReadsOrWrites (IsForLines plan.lines) writings) own
  pub few : length own ≤ most_of plan.lines
  pub stops : StopsAtFailure own
  pub is : IsFault (means_of plan entropy) plan.lines plan.numbers fault writings (trace_of (heard_of own) (failures_of own) start finish)
  pub other : fault.why ≢ cause.Memory

-- a fault of boot as a status
abbrev pub boot_status_by : Fault → BootCause → Status
boot_status_by fault cause.Memory = Memory
boot_status_by fault why = BootFault fault

abbrev pub boot_status : Fault → Status
boot_status fault = boot_status_by fault fault.why

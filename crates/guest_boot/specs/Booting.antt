-- Boot: what the lines of a plan make, one after another, of what was heard for each.
use Rattle.std.specs.Prelude.{Bool, false, ◌≡◌, ◌⊎◌, ℕ, ◌+◌, ◌*◌, ◌≤◌, min, List, [], ◌∷◌, ◌++◌, length, slice_get, Option, Some, None, Result, Ok, Err}
use Rattle.std.specs.List.{AllByRecursion}
use Rattle.mg_base.specs.declared.values.Span.{Span}
use Rattle.mg_base.specs.declared.values.Digest.{Digest}
use Rattle.host_traits.specs.declared.calls.Call.{Call}
use Rattle.host_traits.specs.declared.calls.Call.TheVariants.{BlockRead, Resize, Descriptor as DescriptorOf}
use Rattle.host_traits.specs.declared.calls.Said.TheVariants.{Bytes, Done}
use Rattle.host_traits.specs.Told.{Exchanges, kind_of, kind_done}
use Rattle.host_traits.specs.Did.{Trace, IsFailed, IsScarce}
use Rattle.sha_tree.specs.declared.measure.Measure.{Measure}
use Rattle.verity_path.specs.declared.device.Device.{Device}
use Rattle.verity_path.specs.declared.walk.Layout.TheVariants as layout
use Rattle.verity_path.specs.Calls.{Suits}
use Rattle.apk_verity.specs.declared.ApkFault.{ApkFault}
use Rattle.apk_verity.specs.declared.ApkFault.TheVariants as apks
use Rattle.apk_verity.specs.Opening as apk_opening
use Rattle.apk_verity.specs.Opening.{Opening}
use Rattle.ro_file.specs.declared.files.RoFault.{RoFault}
use Rattle.ro_file.specs.declared.files.RoFault.TheVariants as files
use Rattle.ro_file.specs.Files.{MeasuredFile}
use Rattle.ro_file.specs.Opening as file_opening
use Rattle.instance_image.specs.declared.faults.ImageFault.{ImageFault}
use Rattle.instance_image.specs.declared.faults.ImageFault.TheVariants as images
use Rattle.instance_image.specs.Records.{Kept}
use Rattle.instance_image.specs.Opening as image_opening
use Rattle.guest_plan.specs.declared.plan.How.{How}
use Rattle.guest_plan.specs.declared.plan.How.TheVariants as measures
use Rattle.guest_plan.specs.declared.plan.PlanLine.{PlanLine}
use Rattle.guest_plan.specs.declared.plan.PlanLine.TheVariants as line
use Rattle.guest_plan.specs.Plans.{Known, is_kept}
use Rattle.guest_plan.specs.Spelling.{IsServed, IsPlan}
use Rattle.guest_boot.specs.declared.faults.BootCause.{BootCause}
use Rattle.guest_boot.specs.declared.faults.BootCause.TheVariants.{Gpt, NoPart, Apk, File, Image, Get, Put, NoEntropy, MeasureText, Failed, Short, Memory}
use Rattle.guest_boot.specs.declared.faults.BootFault.{BootFault}
use Rattle.guest_boot.specs.declared.lines.Boot.{Boot}
use Rattle.guest_boot.specs.declared.lines.Opened.{Opened}
use Rattle.guest_boot.specs.Finding.{TableOn, IsTableCall, table_on, HasSoFar, both_parts, one_part, Finds, FindFails}
use Rattle.guest_boot.specs.Recording.{Writing, IsQuiet, IsGetting, IsEmpty, Measured, MeasureFails, measure_writing, measure_writings, Keeps, KeepFails}

-- ---- the lines of a plan

-- they are in the grammar
abbrev pub AreServed : List PlanLine → Type 0
AreServed lines = AllByRecursion IsServed lines

-- The lines of what a text in the grammar says are in the grammar.
abbrev pub PlansAreServed : Type 0
PlansAreServed = (text : List ℕ) (plan : Known) → IsPlan text plan → AreServed plan.lines

-- Law: each of them has a number in the text.
abbrev pub PlansAreNumbered : Type 0
PlansAreNumbered = (text : List ℕ) (plan : Known) → IsPlan text plan → length plan.numbers ≡ length plan.lines

-- ---- the instance line

-- how many lines stand before it, and what it says
pub record InstanceLine : Type 0 where
  pub at : ℕ
  pub disk : ℕ
  pub part : List ℕ

-- the first instance line of lines before which so many stand
unfoldable pub instance_from : ℕ → List PlanLine → Option InstanceLine
instance_from n [] = None
instance_from n (line.Instance disk part ∷ lines) = Some (record { at = n; disk = disk; part = part })
instance_from n (line.Blob file m ∷ lines) = instance_from (n + 1) lines
instance_from n (line.Apk disk apk idsig how ∷ lines) = instance_from (n + 1) lines
instance_from n (line.File name file digest ∷ lines) = instance_from (n + 1) lines
instance_from n (line.Write name file ∷ lines) = instance_from (n + 1) lines
instance_from n (line.WriteDir name file ∷ lines) = instance_from (n + 1) lines

abbrev pub instance_in : List PlanLine → Option InstanceLine
instance_in lines = instance_from 0 lines

-- Law: it stands there.
abbrev pub InstanceStands : Type 0
InstanceStands = (lines : List PlanLine) (i : InstanceLine) → instance_in lines ≡ Some i → slice_get lines i.at ≡ Some (line.Instance i.disk i.part)

-- Law: a plan in the grammar has no other.
abbrev pub InstanceIsAlone : Type 0
InstanceIsAlone = (text : List ℕ) (plan : Known) (at disk : ℕ) (part : List ℕ) → IsPlan text plan → slice_get plan.lines at ≡ Some (line.Instance disk part) →
    instance_in plan.lines ≡ Some (record { at = at; disk = disk; part = part })

-- where there is one, the plan has a salt, of 64 bytes
abbrev pub IsSalted : Option InstanceLine → Option (List ℕ) → Type 0
IsSalted None salt = Unit {0}
IsSalted (Some i) None = ⊥
IsSalted (Some i) (Some salt) = length salt ≡ 64

-- Law: so it is in a plan in the grammar.
abbrev pub PlansAreSalted : Type 0
PlansAreSalted = (text : List ℕ) (plan : Known) → IsPlan text plan → IsSalted (instance_in plan.lines) plan.salt

-- the measure of its device is in a record
abbrev pub is_recorded : PlanLine → Bool
is_recorded (line.Instance disk part) = false
is_recorded (line.Blob file m) = false
is_recorded (line.Apk disk apk idsig how) = is_kept how
is_recorded (line.File name file digest) = false
is_recorded (line.Write name file) = false
is_recorded (line.WriteDir name file) = false

-- ---- the calls of a line

-- Which disks and files they ask for, and how much. At which places is said by what came of the line: each answer stands at its
-- place, and a call that failed is the one that comes next.
abbrev pub IsForApk : ℕ → Call → Type 0
IsForApk disk call = IsTableCall disk call ⊎ ((part : Span) × (call ≡ BlockRead disk part.first (min part.sectors 136)))

-- the table of its disk, and one sector a call
abbrev pub IsForImage : ℕ → Call → Type 0
IsForImage disk call = IsTableCall disk call ⊎ ((sector : ℕ) × (call ≡ BlockRead disk sector 1))

-- where the measure is in a record of the image on a disk: behind the parts, the record and the idsig
abbrev pub IsForFound : Option ℕ → ℕ → Call → Type 0
IsForFound image disk call = IsGetting image call ⊎ ((part : Span) × (call ≡ BlockRead disk part.first (min part.sectors 136)))

abbrev pub IsForRecorded : Option ℕ → ℕ → Call → Type 0
IsForRecorded image disk call = IsTableCall disk call ⊎ IsForFound image disk call

abbrev pub IsForMeasured : Option ℕ → ℕ → How → Call → Type 0
IsForMeasured image disk (measures.Fixed m) call = IsForApk disk call
IsForMeasured image disk measures.First call = IsForApk disk call
IsForMeasured image disk (measures.Kept uuid) call = IsForRecorded image disk call

-- a writable file is cut to nothing
abbrev pub IsResize : ℕ → Call → Type 0
IsResize file call = call ≡ Resize file 0

-- The calls that hand nothing over, where the plan has an instance image on this disk, if any. What a line writes into a record is
-- said by what came of it (`Writing`).
abbrev pub IsForLine : Option ℕ → PlanLine → Call → Type 0
IsForLine image (line.Instance disk part) call = IsForImage disk call
IsForLine image (line.Blob file m) call = ⊥
IsForLine image (line.Apk disk apk idsig how) call = IsForMeasured image disk how call
IsForLine image (line.File name file digest) call = call ≡ DescriptorOf file
IsForLine image (line.Write name file) call = IsResize file call
IsForLine image (line.WriteDir name file) call = ⊥

abbrev pub instance_disk : Option InstanceLine → Option ℕ
instance_disk None = None
instance_disk (Some i) = Some i.disk

-- it is one of a line
pub record IsForLines (lines : List PlanLine) (call : Call) : Type 0 where
  pub at : ℕ
  pub line : PlanLine
  pub stands : slice_get lines at ≡ Some line
  pub for : IsForLine (instance_disk (instance_in lines)) line call

-- How many calls a line makes at most, failed ones counted. Before the lines, the instance line asks for the size of its disk, its
-- two ends, and 258 sectors of the image.
abbrev pub most_before : PlanLine → ℕ
most_before (line.Instance disk part) = 261
most_before (line.Blob file m) = 0
most_before (line.Apk disk apk idsig how) = 0
most_before (line.File name file digest) = 0
most_before (line.Write name file) = 0
most_before (line.WriteDir name file) = 0

-- In its place, an APK device asks for the size of its disk, its two ends and its idsig, and where its measure is in a record, gets
-- that or, where it is empty, puts it; a read-only file asks for its descriptor, and a writable one is cut.
abbrev pub most_measured : How → ℕ
most_measured (measures.Fixed m) = 4
most_measured measures.First = 4
most_measured (measures.Kept uuid) = 5

abbrev pub most_in_place : PlanLine → ℕ
most_in_place (line.Instance disk part) = 0
most_in_place (line.Blob file m) = 0
most_in_place (line.Apk disk apk idsig how) = most_measured how
most_in_place (line.File name file digest) = 1
most_in_place (line.Write name file) = 1
most_in_place (line.WriteDir name file) = 0

abbrev pub most_of_line : PlanLine → ℕ
most_of_line l = most_before l + most_in_place l

abbrev pub most_of_instance : Option InstanceLine → ℕ
most_of_instance None = 0
most_of_instance (Some i) = most_before (line.Instance i.disk i.part)

unfoldable pub most_of : List PlanLine → ℕ
most_of [] = 0
most_of (l ∷ lines) = most_of_line l + most_of lines

-- ---- what lines make

-- the tables that were read, the devices and files that were opened, the instance's image and the secret of its records, the bytes
-- of entropy that are left, and the writes that were made, so far
pub record Booted : Type 0 where
  pub tables : List TableOn
  pub items : List Device
  pub files : List MeasuredFile
  pub image : Option Kept
  pub secret : Option (List ℕ)
  pub entropy : List ℕ
  pub writings : List Writing

abbrev pub state_of : Boot → Option (List ℕ) → List Writing → Booted
state_of b secret writings = record {
  tables = b.tables.items;
  items = b.items.items;
  files = b.files.items;
  image = b.image;
  secret = secret;
  entropy = b.entropy;
  writings = writings;
}

-- the disk of the image
abbrev pub disk_of : Option Kept → Option ℕ
disk_of None = None
disk_of (Some k) = Some k.disk

-- the same, with nothing said of secret and writes
abbrev pub plain_of : Boot → Booted
plain_of b = state_of b None []

-- before the lines: no devices and no files, and nothing written
abbrev pub before_lines : List TableOn → Option Kept → Option (List ℕ) → List ℕ → Booted
before_lines tables image secret entropy = record { tables = tables; items = []; files = []; image = image; secret = secret; entropy = entropy; writings = [] }

-- a measured device on a file of the host, with whole blocks
abbrev pub device_on : ℕ → Measure → Device
device_on file m = record { measure = m; layout = layout.File file (4096 * m.blocks) }

abbrev pub with_item : Booted → Device → Booted
with_item s d = record s { items = s.items ++ d ∷ [] }

abbrev pub with_file : Booted → MeasuredFile → Booted
with_file s f = record s { files = s.files ++ f ∷ [] }

-- the measure that an APK device has to have, if any
abbrev pub measure_in : How → Option Measure
measure_in (measures.Fixed m) = Some m
measure_in measures.First = None
measure_in (measures.Kept id) = None

-- An APK device: the exchanges of its disk's table, unless that was read before, and then the one of its idsig. The device is what
-- that answer makes, where the two parts are those of the table.
pub record ApkBoots (s : Booted) (disk : ℕ) (apk idsig : List ℕ) (how : How) (own : Exchanges) (new : Booted) : Type 0 where
  pub first : Exchanges
  pub tables : List TableOn
  pub parts : Span × Span
  pub found : Finds s.tables disk (both_parts apk idsig) first tables parts
  pub bytes : List ℕ
  pub cut : own ≡ first ++ (apk_opening.idsig_call (apk_opening.opening disk parts.0 parts.1 (measure_in how)), Bytes bytes) ∷ []
  pub device : Device
  pub is : apk_opening.opened (apk_opening.opening disk parts.0 parts.1 (measure_in how)) bytes ≡ Ok device
  pub new_is : new ≡ record s { tables = tables; items = s.items ++ device ∷ [] }

-- The device of these two parts, behind these devices, by the exchange of its idsig.
pub record DeviceBoots (disk : ℕ) (parts : Span × Span) (measure : Option Measure) (items : List Device) (own : Exchanges) (new : List Device) : Type 0 where
  pub bytes : List ℕ
  pub own_is : own ≡ (apk_opening.idsig_call (apk_opening.opening disk parts.0 parts.1 measure), Bytes bytes) ∷ []
  pub device : Device
  pub is : apk_opening.opened (apk_opening.opening disk parts.0 parts.1 measure) bytes ≡ Ok device
  pub new_is : new ≡ items ++ device ∷ []

-- The measure of the device that was opened is put into the record: the exchange of its write.
pub record MeasureIsKept (s : Booted) (image : Kept) (secret uuid : List ℕ) (m : Measure) (own : Exchanges) (new : Booted) : Type 0 where
  pub now : Kept
  pub left : List ℕ
  pub keeps : Keeps image uuid s.entropy m own now left
  pub new_is : new ≡ record s { image = Some now; entropy = left; writings = s.writings ++ measure_writing image secret uuid s.entropy m keeps.1.part ∷ [] }

-- where the record gave the measure, nothing is put; where it is empty, that of the device is
abbrev pub MeasureIsIn : Booted → Kept → List ℕ → List ℕ → Option Measure → Measure → Exchanges → Booted → Type 0
MeasureIsIn s image secret uuid (Some kept) m own new = (own ≡ []) × (new ≡ s)
MeasureIsIn s image secret uuid None m own new = MeasureIsKept s image secret uuid m own new

-- An APK device of these two parts whose measure is in a record of the image: the exchange of the record, unless it is empty; then
-- that of its idsig, which opens it as the record's measure says, if any; and that of the record's write, where it was empty.
pub record FoundBoots (s : Booted) (disk : ℕ) (parts : Span × Span) (uuid : List ℕ) (own : Exchanges) (new : Booted) : Type 0 where
  pub image : Kept
  pub image_is : s.image ≡ Some image
  pub secret : List ℕ
  pub secret_is : s.secret ≡ Some secret
  pub got : Exchanges
  pub measure : Option Measure
  pub measured : Measured image secret uuid got measure
  pub opened : Exchanges
  pub items : List Device
  pub boots : DeviceBoots disk parts measure s.items opened items
  pub put : Exchanges
  pub kept : MeasureIsIn (record s { items = items }) image secret uuid measure boots.device.measure put new
  pub cut : own ≡ got ++ (opened ++ put)

-- the same behind the exchanges of its disk's table, unless that was read before
pub record RecordedBoots (s : Booted) (disk : ℕ) (apk idsig uuid : List ℕ) (own : Exchanges) (new : Booted) : Type 0 where
  pub first : Exchanges
  pub tables : List TableOn
  pub parts : Span × Span
  pub found : Finds s.tables disk (both_parts apk idsig) first tables parts
  pub rest : Exchanges
  pub cut : own ≡ first ++ rest
  pub behind : FoundBoots (record s { tables = tables }) disk parts uuid rest new

abbrev pub ApkBootsBy : Booted → ℕ → List ℕ → List ℕ → How → Exchanges → Booted → Type 0
ApkBootsBy s disk apk idsig (measures.Fixed m) own new = ApkBoots s disk apk idsig (measures.Fixed m) own new
ApkBootsBy s disk apk idsig measures.First own new = ApkBoots s disk apk idsig measures.First own new
ApkBootsBy s disk apk idsig (measures.Kept uuid) own new = RecordedBoots s disk apk idsig uuid.0 own new

-- A read-only file: the exchange of its descriptor, which has the line's digest.
pub record FileBoots (s : Booted) (file : ℕ) (digest : Digest) (own : Exchanges) (new : Booted) : Type 0 where
  pub bytes : List ℕ
  pub own_is : own ≡ (DescriptorOf file, Bytes bytes) ∷ []
  pub opened : MeasuredFile
  pub is : file_opening.opened file digest bytes ≡ Ok opened
  pub describes : file_opening.Describes file digest bytes opened
  pub new_is : new ≡ with_file s opened

-- A writable file: it was cut to nothing at the host. Boot opens nothing for it.
abbrev pub WriteBoots : Booted → ℕ → Exchanges → Booted → Type 0
WriteBoots s file own new = (own ≡ (Resize file 0, Done) ∷ []) × (new ≡ s)

-- From what was opened before, these exchanges and this line make this. The instance line makes nothing in its place, since its
-- image was opened before the lines; nor does a writable directory, which is empty.
abbrev pub LineBoots : Booted → PlanLine → Exchanges → Booted → Type 0
LineBoots s (line.Instance disk part) own new = (own ≡ []) × (new ≡ s)
LineBoots s (line.Blob file m) own new = (own ≡ []) × (new ≡ with_item s (device_on file m))
LineBoots s (line.Apk disk apk idsig how) own new = ApkBootsBy s disk apk idsig how own new
LineBoots s (line.File name file digest) own new = FileBoots s file digest own new
LineBoots s (line.Write name file) own new = WriteBoots s file own new
LineBoots s (line.WriteDir name file) own new = (own ≡ []) × (new ≡ s)

-- the exchanges are cut, in order and whole, into one part a line
abbrev pub Boots : Booted → List PlanLine → Exchanges → Booted → Type 0
Boots s [] own new = (own ≡ []) × (new ≡ s)
Boots s (l ∷ lines) own new = (first : Exchanges) × (rest : Exchanges) × (mid : Booted) × (own ≡ first ++ rest) × LineBoots s l first mid × Boots mid lines rest new

-- boot only reads for it: it has no measure in a record, and no writable file
abbrev pub OnlyReads : PlanLine → Type 0
OnlyReads (line.Instance disk part) = Unit {0}
OnlyReads (line.Blob file m) = Unit {0}
OnlyReads (line.Apk disk apk idsig (measures.Fixed m)) = Unit {0}
OnlyReads (line.Apk disk apk idsig measures.First) = Unit {0}
OnlyReads (line.Apk disk apk idsig (measures.Kept uuid)) = ⊥
OnlyReads (line.File name file digest) = Unit {0}
OnlyReads (line.Write name file) = ⊥
OnlyReads (line.WriteDir name file) = Unit {0}

abbrev pub AllOnlyRead : List PlanLine → Type 0
AllOnlyRead lines = AllByRecursion OnlyReads lines

-- the image, the entropy and the writes are as before
pub record RecordsStay (s new : Booted) : Type 0 where
  pub image : new.image ≡ s.image
  pub entropy : new.entropy ≡ s.entropy
  pub writings : new.writings ≡ s.writings

-- Law: such lines leave these as they are.
abbrev pub ReadersWriteNothing : Type 0
ReadersWriteNothing = (s : Booted) (lines : List PlanLine) (own : Exchanges) (new : Booted) → AllOnlyRead lines → Boots s lines own new → RecordsStay s new

-- it asks for bytes or a number, and for no change at the host
abbrev pub IsRead : Call → Type 0
IsRead call = kind_of call ≡ kind_done → ⊥

-- Law: each call for them is such a one.
abbrev pub ReadersOnlyRead : Type 0
ReadersOnlyRead = (lines : List PlanLine) (call : Call) → AllOnlyRead lines → IsForLines lines call → IsRead call

-- ---- what a plan makes: its instance line before all lines, wherever it stands, and then the lines in their order

-- An instance image: the exchanges of its disk's table, unless that was read before, and then those by which the sectors of its
-- part are opened as an image of this salt.
pub record ImageBoots (tables : List TableOn) (disk : ℕ) (part salt : List ℕ) (own : Exchanges) (new : List TableOn) (image : Kept) : Type 0 where
  pub first : Exchanges
  pub rest : Exchanges
  pub cut : own ≡ first ++ rest
  pub span : Span
  pub found : Finds tables disk (one_part part) first new span
  pub opened : image_opening.IsOpened (image_opening.opening disk span salt) rest image

-- by these exchanges the instance line, where there is one, makes these tables and this image
abbrev pub InstanceBoots : Option InstanceLine → Option (List ℕ) → Exchanges → List TableOn → Option Kept → Type 0
InstanceBoots None salt own tables image = (own ≡ []) × (tables ≡ []) × (image ≡ None)
InstanceBoots (Some i) None own tables image = ⊥
InstanceBoots (Some i) (Some salt) own tables image = (kept : Kept) × (image ≡ Some kept) × ImageBoots [] i.disk i.part salt own tables kept

-- what a plan gives boot besides its lines, and the bytes of entropy
pub record Means : Type 0 where
  pub salt : Option (List ℕ)
  pub secret : Option (List ℕ)
  pub entropy : List ℕ

abbrev pub means_of : Known → List ℕ → Means
means_of plan entropy = record { salt = plan.salt; secret = plan.secret; entropy = entropy }

-- the exchanges are those of this instance line, and then those of these lines
pub record BootsFrom (instance : Option InstanceLine) (means : Means) (lines : List PlanLine) (own : Exchanges) (new : Booted) : Type 0 where
  pub first : Exchanges
  pub rest : Exchanges
  pub cut : own ≡ first ++ rest
  pub tables : List TableOn
  pub image : Option Kept
  pub before : InstanceBoots instance means.salt first tables image
  pub others : Boots (before_lines tables image means.secret means.entropy) lines rest new

-- what the lines of a plan make
abbrev pub PlanBoots : Means → List PlanLine → Exchanges → Booted → Type 0
PlanBoots means lines own new = BootsFrom (instance_in lines) means lines own new

-- ---- why a line was not opened

-- the same trace, where the exchanges are only the later ones
abbrev pub later_of : Trace → Exchanges → Trace
later_of t own = record { heard = own; own = own; failed = t.failed; before = t.before; after = t.after; last_failed = t.last_failed; scarce = t.scarce }

-- the two parts were found, and opening the device came to this
pub record ApkIsRefused (s : Booted) (disk : ℕ) (apk idsig : List ℕ) (how : How) (why : ApkFault) (t : Trace) : Type 0 where
  pub first : Exchanges
  pub rest : Exchanges
  pub cut : t.own ≡ first ++ rest
  pub tables : List TableOn
  pub parts : Span × Span
  pub found : Finds s.tables disk (both_parts apk idsig) first tables parts
  pub outcome : apk_opening.OpenOutcome (apk_opening.opening disk parts.0 parts.1 (measure_in how)) (Err why) (later_of t rest)

-- Out of memory the table's exchanges were made as far as that, and the idsig wasn't heard.
abbrev pub ApkFails : Booted → ℕ → List ℕ → List ℕ → How → BootCause → Trace → Type 0
ApkFails s disk apk idsig how Memory t = (t.failed ≡ 0) × HasSoFar (table_on disk s.tables) disk t.own
ApkFails s disk apk idsig how (Apk apks.Memory) t = ⊥
ApkFails s disk apk idsig how (Apk why) t = ApkIsRefused s disk apk idsig how why t
ApkFails s disk apk idsig how why t = FindFails s.tables disk (both_parts apk idsig) why t

-- Why the device of two parts was not opened. Out of memory the idsig wasn't heard, so no refusal that comes behind it is hidden.
abbrev pub DeviceFails : Opening → BootCause → Trace → Type 0
DeviceFails o (Apk apks.Memory) t = ⊥
DeviceFails o (Apk why) t = apk_opening.OpenOutcome o (Err why) t
DeviceFails o Memory t = IsQuiet t
DeviceFails o (Gpt why) t = ⊥
DeviceFails o (NoPart name) t = ⊥
DeviceFails o (File why) t = ⊥
DeviceFails o (Image why) t = ⊥
DeviceFails o (Get why) t = ⊥
DeviceFails o (Put why) t = ⊥
DeviceFails o (NoEntropy left) t = ⊥
DeviceFails o MeasureText t = ⊥
DeviceFails o (Failed faults) t = ⊥
DeviceFails o (Short asked got) t = ⊥

-- the measure was got, or the record is empty; and the device was not opened
pub record OpeningFails (disk : ℕ) (parts : Span × Span) (image : Kept) (secret uuid : List ℕ) (why : BootCause) (t : Trace) : Type 0 where
  pub got : Exchanges
  pub rest : Exchanges
  pub cut : t.own ≡ got ++ rest
  pub measure : Option Measure
  pub measured : Measured image secret uuid got measure
  pub fails : DeviceFails (apk_opening.opening disk parts.0 parts.1 measure) why (later_of t rest)

-- The record is empty, and the device was opened; and its measure was not put. What was sealed for a write that failed counts as
-- written: the host may hold it.
pub record KeepingFails (s : Booted) (disk : ℕ) (parts : Span × Span) (image : Kept) (secret uuid : List ℕ) (why : BootCause) (after : List Writing) (t : Trace) : Type 0 where
  pub empty : IsEmpty image uuid
  pub opened : Exchanges
  pub rest : Exchanges
  pub cut : t.own ≡ opened ++ rest
  pub items : List Device
  pub boots : DeviceBoots disk parts None s.items opened items
  pub fails : KeepFails image uuid s.entropy boots.device.measure why (later_of t rest)
  pub written : after ≡ s.writings ++ measure_writings image secret uuid s.entropy boots.device.measure

-- why it failed behind the two parts: the measure was not got, or one of these
pub record FoundFails (s : Booted) (disk : ℕ) (parts : Span × Span) (uuid : List ℕ) (why : BootCause) (after : List Writing) (t : Trace) : Type 0 where
  pub image : Kept
  pub image_is : s.image ≡ Some image
  pub secret : List ℕ
  pub secret_is : s.secret ≡ Some secret
  pub fails : ((after ≡ s.writings) × (MeasureFails image secret uuid why t ⊎ OpeningFails disk parts image secret uuid why t))
      ⊎ KeepingFails s disk parts image secret uuid why after t

-- the two parts were found by the first exchanges, and by the rest it failed so
pub record BehindParts (s : Booted) (disk : ℕ) (apk idsig uuid : List ℕ) (why : BootCause) (after : List Writing) (t : Trace) : Type 0 where
  pub first : Exchanges
  pub rest : Exchanges
  pub cut : t.own ≡ first ++ rest
  pub tables : List TableOn
  pub parts : Span × Span
  pub found : Finds s.tables disk (both_parts apk idsig) first tables parts
  pub fails : FoundFails (record s { tables = tables }) disk parts uuid why after (later_of t rest)

-- the parts were not found, or it failed behind them
abbrev pub RecordedFails : Booted → ℕ → List ℕ → List ℕ → List ℕ → BootCause → List Writing → Trace → Type 0
RecordedFails s disk apk idsig uuid why after t =
    ((after ≡ s.writings) × FindFails s.tables disk (both_parts apk idsig) why t) ⊎ BehindParts s disk apk idsig uuid why after t

abbrev pub ApkFailsBy : Booted → ℕ → List ℕ → List ℕ → How → BootCause → List Writing → Trace → Type 0
ApkFailsBy s disk apk idsig (measures.Fixed m) why after t = (after ≡ s.writings) × ApkFails s disk apk idsig (measures.Fixed m) why t
ApkFailsBy s disk apk idsig measures.First why after t = (after ≡ s.writings) × ApkFails s disk apk idsig measures.First why t
ApkFailsBy s disk apk idsig (measures.Kept uuid) why after t = RecordedFails s disk apk idsig uuid.0 why after t

-- out of memory the descriptor wasn't heard
abbrev pub FileFails : ℕ → Digest → BootCause → Trace → Type 0
FileFails file digest (File files.Memory) t = ⊥
FileFails file digest (File why) t = file_opening.OpenFileOutcome file digest (Err why) t
FileFails file digest Memory t = IsQuiet t
FileFails file digest other t = ⊥

-- The call failed, and was the last; or the host had no memory for it.
abbrev pub WriteFails : ℕ → BootCause → Trace → Type 0
WriteFails file (Failed faults) t = (t.own ≡ []) × IsFailed (IsResize file) t faults
WriteFails file Memory t = (t.own ≡ []) × IsScarce t
WriteFails file other t = ⊥

-- a device on a file of the host makes no call: only memory can be wanting
abbrev pub BlobFails : BootCause → Type 0
BlobFails Memory = Unit {0}
BlobFails other = ⊥

-- why a line failed, and the writes that were made then
abbrev pub LineFails : Booted → PlanLine → BootCause → List Writing → Trace → Type 0
LineFails s (line.Instance disk part) why after t = ⊥
LineFails s (line.Blob file m) why after t = (after ≡ s.writings) × (t.failed ≡ 0) × BlobFails why
LineFails s (line.Apk disk apk idsig how) why after t = ApkFailsBy s disk apk idsig how why after t
LineFails s (line.File name file digest) why after t = (after ≡ s.writings) × FileFails file digest why t
LineFails s (line.Write name file) why after t = (after ≡ s.writings) × WriteFails file why t
LineFails s (line.WriteDir name file) why after t = ⊥

-- the part was found, and opening its image came to this
pub record ImageIsRefused (tables : List TableOn) (disk : ℕ) (part salt : List ℕ) (why : ImageFault) (t : Trace) : Type 0 where
  pub first : Exchanges
  pub rest : Exchanges
  pub cut : t.own ≡ first ++ rest
  pub new : List TableOn
  pub span : Span
  pub found : Finds tables disk (one_part part) first new span
  pub outcome : image_opening.OpenOutcome (image_opening.opening disk span salt) (Err why) (later_of t rest)

-- there was no memory: the table's exchanges were made as far as that, or all of them and the image's as far as that
abbrev pub ImageStops : List TableOn → ℕ → List ℕ → List ℕ → Trace → Type 0
ImageStops tables disk part salt t = HasSoFar (table_on disk tables) disk t.own ⊎ ImageIsRefused tables disk part salt images.Memory t

abbrev pub ImageFails : List TableOn → ℕ → List ℕ → List ℕ → BootCause → Trace → Type 0
ImageFails tables disk part salt (Gpt why) t = FindFails tables disk (one_part part) (Gpt why) t
ImageFails tables disk part salt (NoPart name) t = FindFails tables disk (one_part part) (NoPart name) t
ImageFails tables disk part salt (Apk why) t = ⊥
ImageFails tables disk part salt (File why) t = ⊥
ImageFails tables disk part salt (Image images.Memory) t = ⊥
ImageFails tables disk part salt (Image why) t = ImageIsRefused tables disk part salt why t
ImageFails tables disk part salt (Failed faults) t = FindFails tables disk (one_part part) (Failed faults) t
ImageFails tables disk part salt (Short asked got) t = FindFails tables disk (one_part part) (Short asked got) t
ImageFails tables disk part salt (Get why) t = ⊥
ImageFails tables disk part salt (Put why) t = ⊥
ImageFails tables disk part salt (NoEntropy left) t = ⊥
ImageFails tables disk part salt MeasureText t = ⊥
ImageFails tables disk part salt Memory t = (t.failed ≡ 0) × ImageStops tables disk part salt t

-- The instance line failed for this reason, with no exchanges before its own. Its number is the fault's.
pub record InstanceIsFault (salt : Option (List ℕ)) (lines : List PlanLine) (numbers : List ℕ) (fault : BootFault) (t : Trace) : Type 0 where
  pub instance : InstanceLine
  pub is : instance_in lines ≡ Some instance
  pub number : slice_get numbers instance.at ≡ Some fault.line
  pub bytes : List ℕ
  pub salt_is : salt ≡ Some bytes
  pub fails : ImageFails [] instance.disk instance.part bytes fault.why t

-- The instance and the lines before one booted by the first exchanges, and that line failed by the rest, for this reason. Its number
-- is the fault's.
pub record LineIsFault (means : Means) (lines : List PlanLine) (numbers : List ℕ) (fault : BootFault) (writings : List Writing) (t : Trace) : Type 0 where
  pub before : List PlanLine
  pub line : PlanLine
  pub after : List PlanLine
  pub lines_are : lines ≡ before ++ line ∷ after
  pub number : slice_get numbers (length before) ≡ Some fault.line
  pub first : Exchanges
  pub rest : Exchanges
  pub cut : t.own ≡ first ++ rest
  pub mid : Booted
  pub booted : BootsFrom (instance_in lines) means before first mid
  pub fails : LineFails mid line fault.why writings (later_of t rest)

-- Where the reason is a failed call, that one call failed, and was the last; else no call failed. These writes were made.
abbrev pub IsFault : Means → List PlanLine → List ℕ → BootFault → List Writing → Trace → Type 0
IsFault means lines numbers fault after t =
    ((after ≡ []) × InstanceIsFault means.salt lines numbers fault t) ⊎ LineIsFault means lines numbers fault after t

-- the causes of a device, a file and an image that were not opened: want of memory is boot's own
abbrev pub apk_cause : ApkFault → BootCause
apk_cause apks.Memory = Memory
apk_cause why = Apk why

abbrev pub file_cause : RoFault → BootCause
file_cause files.Memory = Memory
file_cause why = File why

abbrev pub image_cause : ImageFault → BootCause
image_cause images.Memory = Memory
image_cause why = Image why

-- ---- what came of it

abbrev pub BlobOutcome : Booted → ℕ → Measure → Booted → Result (Unit {0}) BootCause → Type 0
BlobOutcome s file m new (Ok u) = new ≡ with_item s (device_on file m)
BlobOutcome s file m new (Err why) = BlobFails why

-- the device's measure
abbrev pub DeviceOutcome : ℕ → Span × Span → Option Measure → List Device → List Device → Result Measure BootCause → Trace → Type 0
DeviceOutcome disk parts measure items new (Ok m) t = (t.failed ≡ 0) × (b : DeviceBoots disk parts measure items t.own new) × (b.device.measure ≡ m)
DeviceOutcome disk parts measure items new (Err why) t = DeviceFails (apk_opening.opening disk parts.0 parts.1 measure) why t

abbrev pub ApkOutcome : Booted → ℕ → List ℕ → List ℕ → How → Booted → Result (Unit {0}) BootCause → Trace → Type 0
ApkOutcome s disk apk idsig how new (Ok u) t = (t.failed ≡ 0) × ApkBoots s disk apk idsig how t.own new
ApkOutcome s disk apk idsig how new (Err why) t = ApkFails s disk apk idsig how why t

abbrev pub FileOutcome : Booted → ℕ → Digest → Booted → Result (Unit {0}) BootCause → Trace → Type 0
FileOutcome s file digest new (Ok u) t = (t.failed ≡ 0) × FileBoots s file digest t.own new
FileOutcome s file digest new (Err why) t = FileFails file digest why t

abbrev pub WriteOutcome : ℕ → Result (Unit {0}) BootCause → Trace → Type 0
WriteOutcome file (Ok u) t = (t.failed ≡ 0) × (t.own ≡ (Resize file 0, Done) ∷ [])
WriteOutcome file (Err why) t = WriteFails file why t

-- what one line made, or why it was not opened
abbrev pub LineOutcome : Booted → PlanLine → Booted → Result (Unit {0}) BootCause → Trace → Type 0
LineOutcome s l new (Ok u) t = (t.failed ≡ 0) × LineBoots s l t.own new
LineOutcome s l new (Err why) t = LineFails s l why new.writings t

-- the same, where the writes made before it are any, and these are its own
abbrev pub LineDone : Option (List ℕ) → Boot → PlanLine → Boot → Result (Unit {0}) BootCause → List Writing → Trace → Type 0
LineDone secret s l new result own t = (earlier : List Writing) → LineOutcome (state_of s secret earlier) l (state_of new secret (earlier ++ own)) result t

-- what an APK device made whose measure is in a record, or why it was not opened
abbrev pub RecordedOutcome : Booted → ℕ → List ℕ → List ℕ → List ℕ → Booted → Result (Unit {0}) BootCause → Trace → Type 0
RecordedOutcome s disk apk idsig uuid new (Ok u) t = (t.failed ≡ 0) × RecordedBoots s disk apk idsig uuid t.own new
RecordedOutcome s disk apk idsig uuid new (Err why) t = RecordedFails s disk apk idsig uuid why new.writings t

abbrev pub RecordedDone : Option (List ℕ) → Boot → ℕ → List ℕ → List ℕ → List ℕ → Boot → Result (Unit {0}) BootCause → List Writing → Trace → Type 0
RecordedDone secret s disk apk idsig uuid new result own t =
    (earlier : List Writing) → RecordedOutcome (state_of s secret earlier) disk apk idsig uuid (state_of new secret (earlier ++ own)) result t

abbrev pub FoundOutcome : Booted → ℕ → Span × Span → List ℕ → Booted → Result (Unit {0}) BootCause → Trace → Type 0
FoundOutcome s disk parts uuid new (Ok u) t = (t.failed ≡ 0) × FoundBoots s disk parts uuid t.own new
FoundOutcome s disk parts uuid new (Err why) t = FoundFails s disk parts uuid why new.writings t

-- the image, the entropy and the devices of a state
pub record Recorded : Type 0 where
  pub image : Kept
  pub entropy : List ℕ
  pub items : List Device

abbrev pub with_recorded : Booted → Recorded → List ℕ → Booted
with_recorded s r secret = record s { image = Some r.image; secret = Some secret; entropy = r.entropy; items = r.items }

-- the same, whatever else stands in the state, where these writes are its own
abbrev pub MeasuredDone : ℕ → Span × Span → List ℕ → List ℕ → Recorded → Recorded → Result (Unit {0}) BootCause → List Writing → Trace → Type 0
MeasuredDone disk parts uuid secret old new result own t =
    (s : Booted) → FoundOutcome (with_recorded s old secret) disk parts uuid (with_recorded (record s { writings = s.writings ++ own }) new secret) result t

abbrev pub FoundDone : Option (List ℕ) → Boot → ℕ → Span × Span → List ℕ → Boot → Result (Unit {0}) BootCause → List Writing → Trace → Type 0
FoundDone secret s disk parts uuid new result own t =
    (earlier : List Writing) → FoundOutcome (state_of s secret earlier) disk parts uuid (state_of new secret (earlier ++ own)) result t

-- what the image's line made, or why it was not opened
abbrev pub ImageOutcome : List TableOn → ℕ → List ℕ → List ℕ → List TableOn → Result Kept BootCause → Trace → Type 0
ImageOutcome tables disk part salt new (Ok image) t = (t.failed ≡ 0) × ImageBoots tables disk part salt t.own new image
ImageOutcome tables disk part salt new (Err why) t = ImageFails tables disk part salt why t

-- what the instance line made, before all lines
abbrev pub InstanceOutcome : Option (List ℕ) → List PlanLine → List ℕ → List TableOn → Result (Option Kept) BootFault → Trace → Type 0
InstanceOutcome salt lines numbers tables (Ok image) t = (t.failed ≡ 0) × InstanceBoots (instance_in lines) salt t.own tables image
InstanceOutcome salt lines numbers tables (Err fault) t = InstanceIsFault salt lines numbers fault t

-- what all of it made, or why not, with these writes
abbrev pub BootOutcome : Means → List PlanLine → List ℕ → Result Opened BootFault → List Writing → Trace → Type 0
BootOutcome means lines numbers (Ok o) writings t =
    (t.failed ≡ 0) × (tables : List TableOn) × PlanBoots means lines t.own (record {
      tables = tables;
      items = o.items.items;
      files = o.files.items;
      image = o.image;
      secret = means.secret;
      entropy = o.entropy;
      writings = writings;
    })
BootOutcome means lines numbers (Err fault) writings t = IsFault means lines numbers fault writings t

-- an item has from 2 to 1,048,576 blocks, and its places are such
pub record IsItem (it : Device) : Type 0 where
  pub least : 2 ≤ it.measure.blocks
  pub most : it.measure.blocks ≤ 1048576
  pub suits : Suits it.layout it.measure.blocks

abbrev pub AreItems : List Device → Type 0
AreItems items = (k : ℕ) (it : Device) → slice_get items k ≡ Some it → IsItem it

-- What a disk holds for an `apk` line and for the instance line, and what that says of the reads of an APK's device.
use Rattle.std.specs.Prelude.{◌≡◌, ◌⊎◌, ◌+◌, ◌-◌, ◌*◌, ◌^◌, ◌<◌, ◌≤◌, ℕ, All, Bool, true, false, List, [], length, take, drop, filter, slice_get, Option, Some, Ok}
use Rattle.mg_base.specs.declared.values.Span.{Span}
use Rattle.host_traits.specs.declared.calls.Call.{Call}
use Rattle.host_traits.specs.declared.calls.Call.TheVariants.{BlockSize, BlockRead, BlockWrite, BlockSync, FileRead, TreeRead, Descriptor, FileWrite, TreeWrite, Resize, Create, Mkdir, Delete}
use Rattle.host_traits.specs.declared.calls.Said.{Said}
use Rattle.host_traits.specs.Did.{IsIn}
use Rattle.host_traits.specs.Held.{Held, Disk, serve}
use Rattle.host_traits.specs.Told.{Exchanges, heard_of, failures_of}
use Rattle.sha_tree.specs.declared.measure.Measure.{Measure}
use Rattle.sha_tree.specs.Measured.{IsMeasured}
use Rattle.sha_tree.specs.Tree.{block_count, root, stored_tree}
use Rattle.verity_descriptor.specs.Spelling.{descriptor_bytes}
use Rattle.mg_base.specs.declared.values.Digest.{Digest}
use Rattle.verity_path.specs.declared.device.Cause.TheVariants.{Failed}
use Rattle.verity_path.specs.Holding.{HoldsFile}
use Rattle.gpt.specs.declared.values.Table.{Table}
use Rattle.gpt.specs.Grammar.{IsGpt}
use Rattle.idsig_v4.specs.declared.head.Head.{Head}
use Rattle.idsig_v4.specs.Grammar.{IsIdsig}
use Rattle.apk_verity.specs.Opening.{measure_of}
use Rattle.instance_image.specs.Opening.{opening}
use Rattle.instance_image.specs.Grammar.{Slot}
use Rattle.instance_image.specs.Imaged.{HoldsImage}
use Rattle.guest_plan.specs.Plans.{Known}
use Rattle.guest_plan.specs.declared.plan.How.{How}
use Rattle.guest_plan.specs.declared.plan.PlanLine.{PlanLine}
use Rattle.guest_plan.specs.declared.plan.PlanLine.TheVariants as line
use Rattle.ro_file.specs.Contents.{descriptor_of, IsFileMeasured}
use Rattle.guest_boot.specs.Finding.{parts_in, part_in}
use Rattle.guest_boot.specs.Booting.{AreServed, AllOnlyRead, measure_in}
use Rattle.session_frames.specs.Replies.{sent_code}
use Rattle.guest_rules.specs.Machine.{World, Salted, Moment, Turn, ItemRead, request_of, read_of}
use Rattle.guest_rules.specs.Step.{Step}
use Rattle.guest_rules.specs.Run.{IsWorld}
use Rattle.guest_rules.specs.Faithful.{IsDefined}
use Rattle.guest_cli.specs.Booted.{Opened, Opens, setting_of}

-- ---- what a disk holds

-- What is held has a disk of whole sectors with a partition table in its grammar. A disk's bytes are below 256.
pub record HoldsTable (h : Held) (disk : ℕ) : Type 0 where
  pub on : Disk
  pub there : h.disk disk ≡ Some on
  pub sectors : ℕ
  pub whole : length on.bytes ≡ 512 * sectors
  pub are_bytes : All (λ b. b < 256) on.bytes
  pub table : Table
  pub is_table : IsGpt (take 20480 on.bytes) (drop (512 * (sectors - 40)) on.bytes) sectors table

-- What is held has a content at an `apk` line: its disk's table has both parts; the APK's part begins with the content's blocks;
-- the idsig's part begins with an idsig of the content's salt, root and stored tree, by which the line's measure is this one.
pub record HoldsApk (h : Held) (disk : ℕ) (apk idsig : List ℕ) (how : How) (m : Measure) (content : List ℕ) : Type 0 where
  pub on : HoldsTable h disk
  pub first : Span
  pub second : Span
  pub parts : parts_in on.table apk idsig ≡ Ok (first, second)
  pub content_is : take (4096 * m.blocks) (drop (512 * first.first) on.on.bytes) ≡ content
  pub head : Head
  pub is_idsig : IsIdsig (take (512 * second.sectors) (drop (512 * second.first) on.on.bytes)) head
  pub measure : measure_of first (measure_in how) head ≡ Ok m
  pub tree : take head.tree_len (drop (512 * second.first + head.tree_at) on.on.bytes) ≡ stored_tree content m.salt

-- What is held has an image of this salt at an instance line: it stands in the part that the disk's table has for the line. A salt
-- has 64 bytes.
pub record HoldsInstance (h : Held) (disk : ℕ) (name salt : List ℕ) : Type 0 where
  pub on : HoldsTable h disk
  pub span : Span
  pub part : part_in on.table name ≡ Ok span
  pub salt_len : length salt ≡ 64
  pub slots : List Slot
  pub image : HoldsImage h (opening disk span salt) slots

-- a content's measure as a file's
abbrev pub measure_of_file : List ℕ → List ℕ → Measure
measure_of_file content salt = record { blocks = block_count (length content); salt = salt; root = record { 0 = root content salt } }

-- What is held has a content at a `file` line: the file has its bytes, the pages of its tree under this salt, and its
-- descriptor, whose digest is the line's.
pub record HoldsReadOnly (h : Held) (number : ℕ) (digest : Digest) (content salt : List ℕ) : Type 0 where
  pub holds : HoldsFile h number (length content) (measure_of_file content salt) content
  pub descriptor : holds.file.descriptor ≡ descriptor_bytes (descriptor_of content salt)
  pub measured : IsFileMeasured digest content salt
  pub short : length salt ≤ 32
  pub few : length content ≤ 2 ^ 32

-- ---- the line of an item

abbrev pub makes_item : PlanLine → Bool
makes_item (line.Blob file m) = true
makes_item (line.Apk disk apk idsig how) = true
makes_item (line.Instance disk part) = false
makes_item (line.File name file digest) = false
makes_item (line.Write name file) = false
makes_item (line.WriteDir name file) = false

abbrev pub item_line : List PlanLine → ℕ → Option PlanLine
item_line lines k = slice_get (filter makes_item lines) k

-- what is held has the measured content of an item at its `blob` line, or at its `apk` line
pub record FitsBlob (h : Held) (content : Option (List ℕ)) (file : ℕ) (m : Measure) : Type 0 where
  pub bytes : List ℕ
  pub content_is : content ≡ Some bytes
  pub measured : IsMeasured m bytes
  pub holds : HoldsFile h file (4096 * m.blocks) m bytes

pub record FitsApk (h : Held) (content : Option (List ℕ)) (disk : ℕ) (apk idsig : List ℕ) (how : How) : Type 0 where
  pub bytes : List ℕ
  pub content_is : content ≡ Some bytes
  pub measure : Measure
  pub measured : IsMeasured measure bytes
  pub holds : HoldsApk h disk apk idsig how measure bytes

-- what is held has the measured content of a file at its `file` line
pub record FitsFile (h : Held) (content : Option Salted) (number : ℕ) (digest : Digest) : Type 0 where
  pub known : Salted
  pub content_is : content ≡ Some known
  pub holds : HoldsReadOnly h number digest known.content known.salt

-- what is held has what a line of an item needs, and the world its content
abbrev pub FitsItem : Held → Option (List ℕ) → PlanLine → Type 0
FitsItem h content (line.Blob file m) = FitsBlob h content file m
FitsItem h content (line.Apk disk apk idsig how) = FitsApk h content disk apk idsig how
FitsItem h content (line.Instance disk part) = ⊥
FitsItem h content (line.File name file digest) = ⊥
FitsItem h content (line.Write name file) = ⊥
FitsItem h content (line.WriteDir name file) = ⊥

-- what is held has an image of the plan's salt at its instance line, where it has one
abbrev pub FitsInstance : Known → Held → Type 0
FitsInstance plan h = (k disk : ℕ) (part salt : List ℕ) → slice_get plan.lines k ≡ Some (line.Instance disk part) → plan.salt ≡ Some salt
    → HoldsInstance h disk part salt

-- What is held has what each line of a plan needs, and the world each item's and each file's content.
pub record Fits (plan : Known) (world : World) (h : Held) : Type 0 where
  pub instance : FitsInstance plan h
  pub items : (k : ℕ) (l : PlanLine) → item_line plan.lines k ≡ Some l → FitsItem h (world.item k) l
  pub files : (k : ℕ) (name : List ℕ) (file : ℕ) (digest : Digest) → slice_get plan.lines k ≡ Some (line.File name file digest)
      → FitsFile h (world.file file) file digest

-- ---- what was heard of it

-- a call asks for this disk: how large it is, or for its bytes
abbrev pub IsOfDisk : ℕ → Call → Type 0
IsOfDisk disk (BlockSize of) = of ≡ disk
IsOfDisk disk (BlockRead of sector count) = of ≡ disk
IsOfDisk disk (BlockWrite of sector count) = ⊥
IsOfDisk disk (BlockSync of) = ⊥
IsOfDisk disk (FileRead file at want) = ⊥
IsOfDisk disk (TreeRead file level index) = ⊥
IsOfDisk disk (Descriptor file) = ⊥
IsOfDisk disk (FileWrite file at count) = ⊥
IsOfDisk disk (TreeWrite file level index) = ⊥
IsOfDisk disk (Resize file size) = ⊥
IsOfDisk disk (Create dir file) = ⊥
IsOfDisk disk (Mkdir dir file) = ⊥
IsOfDisk disk (Delete dir) = ⊥

-- each of these answers for the disk is what is held
abbrev pub AreTrue : Held → ℕ → Exchanges → Type 0
AreTrue h disk own = (call : Call) (said : Said) → IsIn call said own → IsOfDisk disk call → serve h call [] ≡ Some (said, h)

-- a call of a turn failed, and its reply is 5, with that failure as its cause
pub record HasFailed (turn : Turn) : Type 0 where
  pub one : failures_of turn.own ≡ 1
  pub sent : turn.sent ≡ sent_code 1 5
  pub faults : ℕ
  pub cause : turn.cause ≡ Some (Failed faults)

-- A read of the device of an `apk` line of a plan in the grammar, in a world that meets the premises, and where what is held has
-- the item's content at the line: if the answers of boot for the line's disk and those of the read are what is held, the read has
-- its defined reply, or a call of it failed and is its cause. So a reply 5 with another cause comes only where one of these
-- answers, those of boot among them, wasn't what the disk holds.
abbrev pub ApkReadsAreServed : Type 0
ApkReadsAreServed = (plan : Known) (entropy : List ℕ) (booted : Exchanges) (o : Opened) (world : World) (old : Moment) (turn : Turn) (new : Moment)
    (h : Held) (r : ItemRead) (content : List ℕ) (disk : ℕ) (apk idsig : List ℕ) (how : How) (m : Measure)
    → Opens plan entropy booted o → AllOnlyRead plan.lines → AreServed plan.lines → Step (setting_of plan o) world old turn new → request_of turn.frame ≡ read_of r
    → item_line plan.lines r.item ≡ Some (line.Apk disk apk idsig how) → world.item r.item ≡ Some content
    → IsWorld (setting_of plan o) old.state world new.heard → HoldsApk h disk apk idsig how m content
    → AreTrue h disk booted → AreTrue h disk (heard_of turn.own)
    → IsDefined r content new.told.scarce turn.sent turn.cause ⊎ HasFailed turn

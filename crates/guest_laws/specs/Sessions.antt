-- What a boot and a session over a host in memory say, where it holds what the plan's lines need.
use Rattle.std.specs.Prelude.{true, ◌≡◌, ◌≢◌, ◌⊎◌, ◌++◌, ℕ, List, [], ◌∷◌, length, ◌≤◌, slice_get, Option, Some, None, Result, Ok}
use Rattle.std.specs.List.{AllByRecursion}
use Rattle.mg_base.specs.declared.values.Digest.{Digest}
use Rattle.host_traits.specs.Folders.{Files}
use Rattle.host_traits.specs.Held.{Held}
use Rattle.host_traits.specs.Told.{heard_of}
use Rattle.ro_file.specs.Files.{MeasuredFile}
use Rattle.session_frames.specs.Replies.{Sent, sent_text, sent_code}
use Rattle.verity_path.specs.declared.device.Cause.{Cause}
use Rattle.fuse_codec.specs.Message.{Message, Bad}
use Rattle.fuse_server.specs.Aims.{reads, aim_of, number_of}
use Rattle.instance_image.specs.declared.values.Part.{Part}
use Rattle.instance_image.specs.Records.{find_part, fits_in}
use Rattle.instance_image.specs.Sealings.{Sealing}
use Rattle.instance_image.specs.Promised.{HoldsRecord, MayBeWritten}
use Rattle.guest_plan.specs.Plans.{Known}
use Rattle.guest_plan.specs.declared.plan.PlanLine.{PlanLine}
use Rattle.guest_plan.specs.declared.plan.PlanLine.TheVariants as line
use Rattle.guest_boot.specs.declared.faults.BootFault.{BootFault}
use Rattle.guest_boot.specs.Booting.{AllOnlyRead}
use Rattle.guest_rules.specs.Machine.{Instance, Setting, World, nowhere, Moment, moment, Turn, ItemRead, Request, message_of, read_of, get_of, put_of, request_of, image_with}
use Rattle.guest_rules.specs.Step.{Step}
use Rattle.guest_rules.specs.Run.{IsEarly, IsWorld, AreSealed, calls_of}
use Rattle.guest_rules.specs.Faithful.{IsDefined, IsReadDefined}
use Rattle.guest_cli.specs.declared.session.SessionEnd.{SessionEnd}
use Rattle.guest_cli.specs.Booted.{setting_of, first_state, sealings_of}
use Rattle.guest_cli.specs.Session.{Streams}
use Rattle.guest_cli.specs.Serve.{Recorded, SatOver, UnbootedOver}
use Rattle.guest_laws.specs.Fitting.{Fits, FitsInstance, FitsItem, FitsFile, item_line}

-- a request that writes nothing to the host: any but a put where there is an instance image
abbrev pub WritesNone : Setting → Request → Type 0
WritesNone g (message_of m) = Unit {0}
WritesNone g (read_of r) = Unit {0}
WritesNone g (get_of uuid) = Unit {0}
WritesNone g (put_of uuid text) = g.image ≡ None

-- a request that asks an instance image for no record: any but a get or a put where there is one
abbrev pub AsksNoRecord : Setting → Request → Type 0
AsksNoRecord g (message_of m) = Unit {0}
AsksNoRecord g (read_of r) = Unit {0}
AsksNoRecord g (get_of uuid) = g.image ≡ None
AsksNoRecord g (put_of uuid text) = g.image ≡ None

-- no turn writes to the host
abbrev pub AreUnwritten : Setting → List Turn → Type 0
AreUnwritten g turns = AllByRecursion (λ t. WritesNone g (request_of t.frame)) turns

-- a disk other than that of the instance image
abbrev pub IsOtherDisk : Option Instance → ℕ → Type 0
IsOtherDisk None disk = Unit {0}
IsOtherDisk (Some i) disk = disk ≢ i.disk

-- what is held for a line lies in a file, or on such a disk, so that no put changes it
abbrev pub LiesApart : Option Instance → PlanLine → Type 0
LiesApart image (line.Instance disk part) = ⊥
LiesApart image (line.Blob file m) = Unit {0}
LiesApart image (line.Apk disk apk idsig how) = IsOtherDisk image disk
LiesApart image (line.File name file digest) = Unit {0}
LiesApart image (line.Write name file) = Unit {0}
LiesApart image (line.WriteDir name file) = Unit {0}

-- it stays in these turns: it lies apart, or no turn writes to the host
abbrev pub StaysHeld : Setting → List Turn → PlanLine → Type 0
StaysHeld g turns l = LiesApart g.image l ⊎ AreUnwritten g turns

-- a turn that reads an item which is held as its line needs it, and stays so, has its defined reply
abbrev pub IsItemServed : List PlanLine → World → Held → (PlanLine → Type 0) → Turn → Type 0
IsItemServed lines world h Stays turn = (r : ItemRead) (l : PlanLine) (content : List ℕ)
    → request_of turn.frame ≡ read_of r → item_line lines r.item ≡ Some l → Stays l → FitsItem h (world.item r.item) l → world.item r.item ≡ Some content
    → IsDefined r content true turn.sent turn.cause

-- a turn with a READ that its checks let through, of a file which is held as its line needs it, has its defined reply
abbrev pub IsFileServed : List PlanLine → World → Held → Moment → Turn → Type 0
IsFileServed lines world h old turn = (m : Result Message Bad) (f : MeasuredFile) (offset size : ℕ) (k : ℕ) (name : List ℕ) (file : ℕ) (digest : Digest)
    → request_of turn.frame ≡ message_of m → aim_of old.state.fuse m ≡ Ok (reads f offset size)
    → slice_get lines k ≡ Some (line.File name file digest) → f.file ≡ file → (fits : FitsFile h (world.file file) file digest)
    → IsReadDefined (number_of m) offset size fits.known.content true turn.sent turn.cause

-- The defined reply to a get of a record that is held: its text, or want of memory. Neither has a cause.
pub data IsGetDefined (text : List ℕ) : Sent → Option Cause → Type 0 where
  whole : IsGetDefined text (sent_text text) None
  no_room : IsGetDefined text (sent_code 2 12) None

-- A sealed text stands as the record of a UUID: the host holds it in the partition of the UUID, with the size that the machine keeps.
pub record RecordStands (i : Instance) (uuid : List ℕ) (z : Sealing) (m : Moment) : Type 0 where
  pub named : z.uuid ≡ uuid
  pub part : Part
  pub found : find_part m.state.parts uuid ≡ Some part
  pub held : Held
  pub held_is : m.told.held ≡ Some held
  pub holds : HoldsRecord held (image_with i m.state.parts) i.secret part z

-- a turn with a get of a UUID whose record stands has its defined reply
abbrev pub IsGetServed : Setting → Moment → Turn → Type 0
IsGetServed g old turn = (i : Instance) (uuid : List ℕ) (z : Sealing)
    → request_of turn.frame ≡ get_of uuid → g.image ≡ Some i → RecordStands i uuid z old → IsGetDefined z.text turn.sent turn.cause

-- a record that is put in a turn: it stands after it
pub record IsWritten (i : Instance) (uuid text : List ℕ) (new : Moment) : Type 0 where
  pub sealing : Sealing
  pub text_is : sealing.text ≡ text
  pub stands : RecordStands i uuid sealing new

-- a turn with a put into a UUID of 16 bytes that is answered with 0 has put its record
abbrev pub IsPutKept : Setting → Moment → Turn → Moment → Type 0
IsPutKept g old turn new = (i : Instance) (uuid text : List ℕ) (now : Held)
    → request_of turn.frame ≡ put_of uuid text → g.image ≡ Some i → length uuid ≡ 16 → old.told.held ≡ Some now → turn.sent ≡ sent_code 3 0
    → IsWritten i uuid text new

-- Where an image was held at boot: a record that stands, stands after each turn but a put into its UUID that is answered with 0.
abbrev pub IsRecordKept : Type 0 → Setting → Moment → Turn → Moment → Type 0
IsRecordKept Imaged g old turn new = Imaged → (i : Instance) (uuid : List ℕ) (z : Sealing) → g.image ≡ Some i
    → ((text : List ℕ) → request_of turn.frame ≡ put_of uuid text → turn.sent ≡ sent_code 3 0 → ⊥)
    → RecordStands i uuid z old → RecordStands i uuid z new

-- The defined reply to a put that may be made: 0, or want of memory. Neither has a cause.
pub data IsPutDefined : Sent → Option Cause → Type 0 where
  written : IsPutDefined (sent_code 3 0) None
  out_of_memory : IsPutDefined (sent_code 3 12) None

-- a turn with a put of a text that fits, while entropy is left, into a partition whose sectors may be written then, has its
-- defined reply
abbrev pub IsPutServed : Setting → Moment → Turn → Type 0
IsPutServed g old turn = (i : Instance) (uuid text : List ℕ) (p : Part) (now : Held)
    → request_of turn.frame ≡ put_of uuid text → g.image ≡ Some i → fits_in old.state.parts uuid (length text) ≡ Ok p
    → 12 ≤ length old.state.entropy → old.told.held ≡ Some now → MayBeWritten now (image_with i old.state.parts) p
    → IsPutDefined turn.sent turn.cause

-- a run with each read of its turns served
abbrev pub RunServed : Known → Held → (PlanLine → Type 0) → Setting → World → Moment → List Turn → Moment → Type 0
RunServed plan h Stays g world old [] new = old ≡ new
RunServed plan h Stays g world old (turn ∷ turns) new = (mid : Moment) × IsEarly old.told.heard × Step g world old turn mid
    × IsItemServed plan.lines world h Stays turn × IsFileServed plan.lines world h old turn × RunServed plan h Stays g world mid turns new

-- a run, in the world without contents, with each get and each put of its turns served, and its records kept
abbrev pub RunKept : Type 0 → Setting → Moment → List Turn → Moment → Type 0
RunKept Imaged g old [] new = old ≡ new
RunKept Imaged g old (turn ∷ turns) new = (mid : Moment) × IsEarly old.told.heard × Step g nowhere old turn mid
    × IsGetServed g old turn × IsPutServed g old turn × IsPutKept g old turn mid × IsRecordKept Imaged g old turn mid
    × RunKept Imaged g mid turns new

-- Over the host that a store list makes, where it holds what each line of the plan needs, boot doesn't end with a fault of a line:
-- status 8 doesn't come.
abbrev pub BootsAreServed : Type 0
BootsAreServed = (files : Option Files) (plan store entropy : List ℕ) (fault : BootFault) (world : World)
    (u : UnbootedOver files plan store entropy fault) → AllOnlyRead u.made.planned.plan.lines → Fits u.made.planned.plan world u.made.stock.held → ⊥

-- A session of `serve`, over the host that a store list makes, whose turns these are. It is a run in which each read of an item, and
-- each READ of a file, that the host holds at first as its line needs it has its defined reply: its bytes, or 22 where too many were
-- asked for, or want of memory, and no cause. Of an item on the instance image's disk that is said of a session whose turns write
-- nothing to the host. What the host holds for other lines is no premise, nor is which calls fail: the host is honest, and of such
-- a request none does.
abbrev pub SessionsAreServed : Type 0
SessionsAreServed = (files : Option Files) (plan store entropy : List ℕ) (old new : Streams) (ended : Result (Unit {0}) SessionEnd)
    (s : SatOver files plan store entropy old new ended) (turns : List Turn) (world : World)
    → AllOnlyRead s.made.planned.plan.lines
    → (r : Recorded (setting_of s.made.planned.plan s.opened) (first_state s.made.planned.plan s.opened) (sealings_of s.opened) s.booted s.mid s.calls s.records s.finish turns)
    → IsWorld (setting_of s.made.planned.plan s.opened) (first_state s.made.planned.plan s.opened) world (heard_of s.booted ++ heard_of (calls_of turns))
    → AreSealed (setting_of s.made.planned.plan s.opened) world (moment (first_state s.made.planned.plan s.opened) s.mid (heard_of s.booted) (sealings_of s.opened)) turns
    (moment r.state s.finish (heard_of s.booted ++ heard_of (calls_of turns)) r.sealed) r.plain
    → RunServed s.made.planned.plan s.made.stock.held (StaysHeld (setting_of s.made.planned.plan s.opened) turns) (setting_of s.made.planned.plan s.opened) world
    (moment (first_state s.made.planned.plan s.opened) s.mid (heard_of s.booted) (sealings_of s.opened)) turns
    (moment r.state s.finish (heard_of s.booted ++ heard_of (calls_of turns)) r.sealed)

-- In such a session each get of a record that stands has its text, or want of memory; each put that may be made is answered with 0,
-- or with want of memory, and one that is answered with 0 has put its record. Where the host holds at first what the instance line
-- needs, a record stands until the next put into its UUID. Nothing is asked of digests or of seals: the host holds what it answers.
abbrev pub RecordsAreServed : Type 0
RecordsAreServed = (files : Option Files) (plan store entropy : List ℕ) (old new : Streams) (ended : Result (Unit {0}) SessionEnd)
    (s : SatOver files plan store entropy old new ended) (turns : List Turn)
    → AllOnlyRead s.made.planned.plan.lines
    → (r : Recorded (setting_of s.made.planned.plan s.opened) (first_state s.made.planned.plan s.opened) (sealings_of s.opened) s.booted s.mid s.calls s.records s.finish turns)
    → RunKept (FitsInstance s.made.planned.plan s.made.stock.held) (setting_of s.made.planned.plan s.opened)
    (moment (first_state s.made.planned.plan s.opened) s.mid (heard_of s.booted) (sealings_of s.opened)) turns
    (moment r.state s.finish (heard_of s.booted ++ heard_of (calls_of turns)) r.sealed)

-- Where the host holds at first what each line of the plan needs, and what it holds for items stays, each frame of such a session
-- that asks for no record has no cause: an honest host causes no failure of it, and no line of the log names one.
abbrev pub HonestHostsCauseNone : Type 0
HonestHostsCauseNone = (files : Option Files) (plan store entropy : List ℕ) (old new : Streams) (ended : Result (Unit {0}) SessionEnd)
    (s : SatOver files plan store entropy old new ended) (turns : List Turn) (world : World)
    → AllOnlyRead s.made.planned.plan.lines
    → (r : Recorded (setting_of s.made.planned.plan s.opened) (first_state s.made.planned.plan s.opened) (sealings_of s.opened) s.booted s.mid s.calls s.records s.finish turns)
    → IsWorld (setting_of s.made.planned.plan s.opened) (first_state s.made.planned.plan s.opened) world (heard_of s.booted ++ heard_of (calls_of turns))
    → AreSealed (setting_of s.made.planned.plan s.opened) world (moment (first_state s.made.planned.plan s.opened) s.mid (heard_of s.booted) (sealings_of s.opened)) turns
    (moment r.state s.finish (heard_of s.booted ++ heard_of (calls_of turns)) r.sealed) r.plain
    → Fits s.made.planned.plan world s.made.stock.held
    → ((k : ℕ) (l : PlanLine) → item_line s.made.planned.plan.lines k ≡ Some l → StaysHeld (setting_of s.made.planned.plan s.opened) turns l)
    → AllByRecursion (λ t. AsksNoRecord (setting_of s.made.planned.plan s.opened) (request_of t.frame) → t.cause ≡ None) turns

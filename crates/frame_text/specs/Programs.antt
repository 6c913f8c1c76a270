-- What the two programs do: the input is read to its end, and then what is made of it is written.
use Rattle.std.specs.Prelude.{◌≡◌, ◌<◌, ◌⊎◌, ℕ, List, ◌++◌, Option, codes}
use Rattle.std.specs.Fmt.{decimal}
use Rattle.std.specs.Io.KnownBytes.{Appends, Consumes, IsAtEnd}
use Rattle.host_traits.specs.Streams.{SomePrefix}
use Rattle.host_traits.specs.Told.{Rose}
use Rattle.text_lines.specs.Ends.{kind_word}
use Rattle.text_lines.specs.declared.kinds.PlanKind.{PlanKind}
use Rattle.frame_text.specs.declared.faults.FrameKind.{FrameKind}
use Rattle.frame_text.specs.declared.faults.FrameKind.TheVariants as kinds
use Rattle.frame_text.specs.declared.status.Status.{Status}
use Rattle.frame_text.specs.declared.status.Status.TheVariants as statuses
use Rattle.frame_text.specs.Requests.{AreSame}
use Rattle.frame_text.specs.Reading.{IsBadLine, IsBadFrame}

-- a source gave these bytes, and then ended
pub record IsAll (left_old left_new : Option (List ℕ)) (bytes : List ℕ) : Type 0 where
  pub read : Consumes left_old left_new bytes
  pub ended : IsAtEnd left_new

abbrev pub line_feed : List ℕ
line_feed = codes "\n"

abbrev pub frame_word : FrameKind → List ℕ
frame_word kinds.Frame = codes "frame"
frame_word kinds.End = codes "end"

-- the lines on standard error

abbrev pub bad_line : ℕ → PlanKind → List ℕ
bad_line line kind = codes "mkframes: line " ++ decimal line ++ codes ": " ++ kind_word kind ++ line_feed

abbrev pub bad_frame : ℕ → FrameKind → List ℕ
bad_frame byte kind = codes "dumpframes: byte " ++ decimal byte ++ codes ": " ++ frame_word kind ++ line_feed

abbrev pub mkframes_usage : List ℕ
mkframes_usage = codes "usage: mkframes <TEXT >FRAMES\n"

abbrev pub dumpframes_usage : List ℕ
dumpframes_usage = codes "usage: dumpframes <FRAMES >TEXT\n"

abbrev pub status_number : Status → ℕ
status_number statuses.Done = 0
status_number statuses.Bad = 1
status_number statuses.Usage = 2
status_number statuses.Read = 5
status_number statuses.Write = 6
status_number statuses.Memory = 10

-- what a source, the output and the log hold or have left, and how often each failed
pub record Ends : Type 0 where
  pub input : Option (List ℕ)
  pub out : Option (List ℕ)
  pub log : Option (List ℕ)

pub record Faults : Type 0 where
  pub input : ℕ
  pub out : ℕ
  pub log : ℕ

-- writing some bytes failed, and a front part of them went out
pub record WroteSome (old new : Option (List ℕ)) (before after : ℕ) (bytes : List ℕ) : Type 0 where
  pub part : SomePrefix old new bytes
  pub rose : Rose before after

-- writing failed: of the frames of all of the input; of the line that names its first bad line; or of the line that says how the
-- program is called, and then nothing was read
abbrev pub MakesSome : ℕ → Ends → Ends → Faults → Faults → Type 0
MakesSome words old new before after =
    ((words ≡ 0) × (text : List ℕ) × (bytes : List ℕ) × IsAll old.input new.input text × AreSame text bytes × WroteSome old.out new.out before.out after.out bytes × (new.log ≡ old.log))
    ⊎ ((words ≡ 0) × (text : List ℕ) × (line : ℕ) × (kind : PlanKind) × IsAll old.input new.input text × IsBadLine text line kind × (new.out ≡ old.out) × WroteSome old.log new.log before.log after.log (bad_line line kind))
    ⊎ ((0 < words) × (new.input ≡ old.input) × (new.out ≡ old.out) × WroteSome old.log new.log before.log after.log mkframes_usage)

-- the same of the text of frames
abbrev pub DumpsSome : ℕ → Ends → Ends → Faults → Faults → Type 0
DumpsSome words old new before after =
    ((words ≡ 0) × (text : List ℕ) × (bytes : List ℕ) × IsAll old.input new.input bytes × AreSame text bytes × WroteSome old.out new.out before.out after.out text × (new.log ≡ old.log))
    ⊎ ((words ≡ 0) × (bytes : List ℕ) × (byte : ℕ) × (kind : FrameKind) × IsAll old.input new.input bytes × IsBadFrame bytes byte kind × (new.out ≡ old.out) × WroteSome old.log new.log before.log after.log (bad_frame byte kind))
    ⊎ ((0 < words) × (new.input ≡ old.input) × (new.out ≡ old.out) × WroteSome old.log new.log before.log after.log dumpframes_usage)

-- the frames of all of the input were written; or the line that names its first bad line; or the words aren't none, and nothing
-- was read
abbrev pub Makes : ℕ → Ends → Ends → Faults → Faults → Status → Type 0
Makes words old new before after statuses.Done = (words ≡ 0) × (text : List ℕ) × (bytes : List ℕ) × IsAll old.input new.input text × AreSame text bytes × Appends old.out new.out bytes × (new.log ≡ old.log)
Makes words old new before after statuses.Bad = (words ≡ 0) × (text : List ℕ) × (line : ℕ) × (kind : PlanKind) × IsAll old.input new.input text × IsBadLine text line kind × (new.out ≡ old.out) × Appends old.log new.log (bad_line line kind)
Makes words old new before after statuses.Usage = (0 < words) × (new.input ≡ old.input) × (new.out ≡ old.out) × Appends old.log new.log mkframes_usage
Makes words old new before after statuses.Read = (words ≡ 0) × (new.out ≡ old.out) × (new.log ≡ old.log) × Rose before.input after.input
Makes words old new before after statuses.Write = MakesSome words old new before after
Makes words old new before after statuses.Memory = (words ≡ 0) × (new.out ≡ old.out) × (new.log ≡ old.log)

-- the same of the text of frames
abbrev pub Dumps : ℕ → Ends → Ends → Faults → Faults → Status → Type 0
Dumps words old new before after statuses.Done = (words ≡ 0) × (text : List ℕ) × (bytes : List ℕ) × IsAll old.input new.input bytes × AreSame text bytes × Appends old.out new.out text × (new.log ≡ old.log)
Dumps words old new before after statuses.Bad = (words ≡ 0) × (bytes : List ℕ) × (byte : ℕ) × (kind : FrameKind) × IsAll old.input new.input bytes × IsBadFrame bytes byte kind × (new.out ≡ old.out) × Appends old.log new.log (bad_frame byte kind)
Dumps words old new before after statuses.Usage = (0 < words) × (new.input ≡ old.input) × (new.out ≡ old.out) × Appends old.log new.log dumpframes_usage
Dumps words old new before after statuses.Read = (words ≡ 0) × (new.out ≡ old.out) × (new.log ≡ old.log) × Rose before.input after.input
Dumps words old new before after statuses.Write = DumpsSome words old new before after
Dumps words old new before after statuses.Memory = (words ≡ 0) × (new.out ≡ old.out) × (new.log ≡ old.log)

-- Names that the server is for, and laws of what it answers over them.
use Rattle.std.specs.Prelude.{◌≡◌, ℕ, IsSome, Option, Some, None, Result, Ok, Err}
use Rattle.mg_base.specs.declared.errno.Errno.TheVariants.{Enosys}
use Rattle.verity_path.specs.declared.device.Cause.{Cause}
use Rattle.authfs_dirs.specs.declared.kind.Kind.{Kind}
use Rattle.authfs_dirs.specs.declared.kind.Kind.TheVariants.{Dir, ReadOnly, Writable}
use Rattle.authfs_dirs.specs.Names.{Node, node_at}
use Rattle.fuse_codec.specs.Message.{Message, Bad, bad_opcode}
use Rattle.fuse_codec.specs.Reply.{Answer}
use Rattle.fuse_server.specs.State.{State, WritableFile, Writables, file_at, writable_at}
use Rattle.fuse_server.specs.FileRows.{Around}
use Rattle.fuse_server.specs.Rows.{FuseRow}
use Rattle.fuse_server.specs.Aims.{aim_of}
use Rattle.fuse_server.specs.Effects.{Next}

-- a directory that the host doesn't have, or a file that is there
abbrev pub IsServedKind : State → Kind → Type 0
IsServedKind s (Dir None) = Unit {0}
IsServedKind s (Dir (Some host)) = ⊥
IsServedKind s (ReadOnly file) = IsSome (file_at s.files file)
IsServedKind s (Writable file) = IsSome (writable_at s.writables file)

-- each node is such
abbrev pub AreServed : State → Type 0
AreServed s = (n : ℕ) (x : Node) → node_at s.names n ≡ Some x → IsServedKind s x.kind

-- each writable file stands at the number that it has at the host
abbrev pub AreNumbered : Writables → Type 0
AreNumbered files = (number : ℕ) (f : WritableFile) → writable_at files number ≡ Some f → f.file ≡ number

-- an opcode that is no operation's
abbrev pub IsUnknown : Result Message Bad → Type 0
IsUnknown (Ok m) = ⊥
IsUnknown (Err (bad_opcode unique op)) = Unit {0}
IsUnknown (Err other) = ⊥

-- a message was answered so, with this state after it
pub record IsAnswered (s : State) (m : Result Message Bad) (a : Around) (answer : Answer) (c : Option Cause) (new : State) : Type 0 where
  pub old_is : a.old ≡ s.writables
  pub new_is : a.new ≡ new.writables
  pub row : FuseRow (aim_of s m) a answer c
  pub next : Next s m answer new

-- Law: whatever is answered, the read-only files stay.
abbrev pub FilesStay : Type 0
FilesStay = (s : State) (m : Result Message Bad) (a : Answer) (new : State) → Next s m a new → new.files ≡ s.files

-- Law: whatever is answered, such names stay so.
abbrev pub ServedStay : Type 0
ServedStay = (s : State) (m : Result Message Bad) (a : Around) (answer : Answer) (c : Option Cause) (new : State) →
    IsAnswered s m a answer c new → AreServed s → AreServed new

-- Law: whatever is answered, the writable files stand at their numbers.
abbrev pub NumbersStay : Type 0
NumbersStay = (s : State) (m : Result Message Bad) (a : Around) (answer : Answer) (c : Option Cause) (new : State) →
    IsAnswered s m a answer c new → AreNumbered s.writables → AreNumbered new.writables

-- Law: over such names ENOSYS is answered to unknown opcodes alone.
abbrev pub AllIsServed : Type 0
AllIsServed = (s : State) (m : Result Message Bad) → AreServed s → aim_of s m ≡ Err Enosys → IsUnknown m

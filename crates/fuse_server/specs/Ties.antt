-- What open handles and nodes say of one another, and the law that it stays so.
use Rattle.std.specs.Prelude.{◌≡◌, ℕ, ◌+◌, ◌≤◌, ◌==◌, false, List, [], ◌∷◌, length, Option, Some, None, Result, if◌then◌else◌}
use Rattle.verity_path.specs.declared.device.Cause.{Cause}
use Rattle.authfs_dirs.specs.Names.{Node, Names, node_at}
use Rattle.authfs_files.specs.Open.{AreRising}
use Rattle.fuse_codec.specs.Message.{Message, Bad}
use Rattle.fuse_codec.specs.Reply.{Answer}
use Rattle.fuse_server.specs.State.{State, Files, Writables}
use Rattle.fuse_server.specs.FileRows.{Around}
use Rattle.fuse_server.specs.Serving.{IsAnswered}

-- how many of these handles are a node's
abbrev pub handles_of : ℕ → List (ℕ × ℕ) → ℕ
handles_of node [] = 0
handles_of node (e ∷ es) = if node == e.1 then handles_of node es + 1 else handles_of node es

-- how many open handles a node counts; one that doesn't live counts none
abbrev pub pins_of : Option Node → ℕ
pins_of None = 0
pins_of (Some x) = x.pins

-- The numbers of open handles rise from 1 on, none above the last one given; at most 4,096 are open; and each node counts as
-- many as it has, so that the node of each open handle lives.
pub record AreTied (s : State) : Type 0 where
  pub rising : AreRising 1 s.open_handles s.given
  pub few : length s.open_handles ≤ 4096
  pub pins : (n : ℕ) → pins_of (node_at s.names n) ≡ handles_of n s.open_handles

-- Law: where no node counts a handle, a new server is such.
abbrev pub TiedAtFirst : Type 0
TiedAtFirst = (names : Names) (files : Files) (writables : Writables) → ((n : ℕ) → pins_of (node_at names n) ≡ 0) →
    AreTied (record { ready = false; names = names; open_handles = []; given = 0; files = files; writables = writables })

-- Law: whatever is answered, it stays so.
abbrev pub TiesStay : Type 0
TiesStay = (s : State) (m : Result Message Bad) (a : Around) (answer : Answer) (c : Option Cause) (new : State) →
    AreTied s → IsAnswered s m a answer c new → AreTied new

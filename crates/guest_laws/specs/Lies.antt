-- What a mismatch says where the content is known: the answer that it blames isn't the content's page.
use Rattle.std.specs.Prelude.{◌≡◌, ◌≢◌, ℕ, List, slice_get, Some, Result, Ok}
use Rattle.host_traits.specs.declared.calls.Said.TheVariants.{Bytes}
use Rattle.host_traits.specs.Told.{Exchanges, heard_of}
use Rattle.sha_tree.specs.declared.measure.Measure.{Measure}
use Rattle.sha_tree.specs.Tree.{page}
use Rattle.verity_path.specs.Calls.{call_for, piece_for}
use Rattle.verity_path.specs.Order.{IsLast}
use Rattle.verity_path.specs.declared.device.Cause.TheVariants.{Mismatch as OfMismatch}
use Rattle.verity_path.specs.declared.device.Device.{Device}
use Rattle.verity_path.specs.declared.states.Mismatch.{Mismatch}
use Rattle.verity_path.specs.declared.walk.Layout.{Layout}
use Rattle.ro_file.specs.Files.{MeasuredFile, layout_of}
use Rattle.fuse_codec.specs.Message.{Message, Bad}
use Rattle.fuse_server.specs.Aims.{reads, aim_of}
use Rattle.guest_rules.specs.Machine.{Setting, World, Salted, Moment, Turn, ItemRead, IsItem, message_of, request_of, read_of}
use Rattle.guest_rules.specs.Step.{Step}
use Rattle.guest_rules.specs.Run.{IsWorld, IsFile, AreOpened}

-- the last of these answers is to the call for the page that is named, and what stands in it at the page's place isn't the
-- content's page
pub record IsLie (layout : Layout) (m : Measure) (content : List ℕ) (own : Exchanges) (x : Mismatch) : Type 0 where
  pub bytes : List ℕ
  pub last : IsLast (call_for layout m.blocks x.level x.index) (Bytes bytes) own
  pub other : piece_for layout m.blocks x.level x.index bytes ≢ page content m.salt x.level x.index

-- In a world that meets the premises, where it has an item's content, a mismatch that a read of the item is answered with names such
-- an answer to the read's own calls.
abbrev pub ItemMismatchesLie : Type 0
ItemMismatchesLie = (g : Setting) (world : World) (old : Moment) (turn : Turn) (new : Moment) (r : ItemRead) (it : Device) (content : List ℕ) (x : Mismatch)
    → Step g world old turn new → request_of turn.frame ≡ read_of r → slice_get g.items r.item ≡ Some it → IsItem it → world.item r.item ≡ Some content
    → IsWorld g old.state world new.heard → turn.cause ≡ Some (OfMismatch x)
    → IsLie it.layout it.measure content (heard_of turn.own) x

-- the same of a READ of a read-only file, where the files were opened before
abbrev pub ReadMismatchesLie : Type 0
ReadMismatchesLie = (g : Setting) (world : World) (old : Moment) (turn : Turn) (new : Moment) (m : Result Message Bad) (n : ℕ) (f : MeasuredFile)
    (offset size : ℕ) (c : Salted) (x : Mismatch)
    → Step g world old turn new → request_of turn.frame ≡ message_of m → aim_of old.state.fuse m ≡ Ok (reads f offset size)
    → IsFile old.state n f → world.file f.file ≡ Some c → AreOpened old.state old.heard
    → IsWorld g old.state world new.heard → turn.cause ≡ Some (OfMismatch x)
    → IsLie (layout_of f) f.measure c.content (heard_of turn.own) x

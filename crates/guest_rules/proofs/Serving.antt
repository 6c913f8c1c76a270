-- Reads over a faithful host that holds what they are of: each has its defined reply, and over an honest host no call of it fails.
use Rattle.std.proofs.Common.{◌≡◌, ℕ, List, length, take, drop, ap, sym, ◌∙◌, subst, arith, Option, Some, None, Result, Ok}
use Rattle.std.specs.Prelude.{slice_get}
use Rattle.std.proofs.lemmas.Option.{slice_get_within}
use Rattle.mg_base.specs.declared.errno.Errno.{Errno}
use Rattle.host_traits.specs.declared.calls.Call.{Call}
use Rattle.host_traits.specs.declared.calls.Said.{Said}
use Rattle.host_traits.specs.Held.{Held}
use Rattle.host_traits.specs.Told.{Exchanges, heard_of, failures_of}
use Rattle.host_traits.specs.Did.{IsIn, Each, reads as reading, Trace}
use Rattle.host_traits.proofs.Doing.{each_so, each_heard}
use Rattle.session_frames.specs.Replies.{Sent, message_sent}
use Rattle.sha_tree.specs.Tree.{block_count}
use Rattle.sha_tree.specs.Measured.{HasTree}
use Rattle.sha_tree.specs.Path.{NoClash}
use Rattle.sha_tree.proofs.Sound.{measured_tree}
use Rattle.verity_path.specs.Pieces.{IsHashed}
use Rattle.verity_path.specs.Range.{IsSlice, IsReadBlame}
use Rattle.verity_path.proofs.Ranges.{cut_content}
use Rattle.verity_path.specs.declared.device.Cause.{Cause}
use Rattle.verity_path.specs.declared.device.Device.{Device}
use Rattle.ro_file.specs.Files.{MeasuredFile, layout_of}
use Rattle.fuse_codec.specs.Message.{Message, Bad}
use Rattle.fuse_codec.specs.Reply.{Answer}
use Rattle.fuse_server.specs.Aims.{Aim, reads, aim_of, number_of}
use Rattle.fuse_server.specs.FileRows.{Around}
use Rattle.fuse_server.specs.Rows.{FuseRow, ReadRow, read_bytes, read_blamed, read_no_room, IsForFuse, IsFileRead}
use Rattle.instance_image.specs.Sealings.{Sealing}
use Rattle.guest_rules.specs.Machine.{Setting, World, State, Moment, Turn, ItemRead, Request, message_of, read_of, request_of, IsItem, size_of}
use Rattle.guest_rules.specs.ItemRow.{IsForItem, ItemRow, no_item, too_large, served, blamed, no_memory}
use Rattle.guest_rules.specs.MessageRow.{Heard, MessageRow, around_message}
use Rattle.guest_rules.specs.Step.{Step, IsFor, Row, trace, heard_in}
use Rattle.guest_rules.specs.Run.{IsWorld}
use Rattle.guest_rules.specs.Faithful.{HoldsDevice, IsDefined, over_limit, whole, no_room, IsReadDefined, slice, no_memory as short_of_memory, ReadsAreServed, FileReadsAreServed}
use Rattle.guest_rules.proofs.Standing.{Known, item_apart, file_apart, readable, world_last, known_last, known_by}
use Rattle.guest_rules.proofs.Reading.{IsInside, not_blamed, after, stays, calm_by}
use Rattle.guest_rules.proofs.Holding.{AreServed}

same_item : (a b : Device) → Some a ≡ Some b → a ≡ b
same_item a b e = cc

-- ---- reads of items

-- the bytes of a read in a world with the content
slice_is : (o : Option (List ℕ)) (content : List ℕ) (t : Trace) (it : Device) (r : ItemRead) (bytes : List ℕ) → o ≡ Some content
    → IsSlice o t.heard it.measure (size_of it) r.offset r.size bytes → take r.size (drop r.offset content) ≡ bytes
slice_is None content t it r bytes is s = absurd (cc)
slice_is (Some other) content t it r bytes is s =
    let same : content ≡ other = cc in
    ap (λ x. take r.size (drop r.offset x)) same ∙ sym s

-- the item's row of a read
row_of : (g : Setting) (world : World) (run : List Sealing) (h : Heard) (request : Request) (old new : State) (sent : Sent) (cause : Option Cause) (r : ItemRead) → request ≡ read_of r
    → Row g world run h request old new sent cause → ItemRow g.items world h.trace r sent cause
row_of g world run h request old new sent cause r e row =
    (subst (λ q. Row g world run h q old new sent cause) e row).1

-- the calls of a read are those for its item
pub calls_of : (g : Setting) (s : State) (request : Request) (r : ItemRead) (it : Device) (call : Call) (given : List ℕ) → request ≡ read_of r → slice_get g.items r.item ≡ Some it
    → IsFor g s request call given → reading (IsForItem it r) call given
calls_of g s request r it call given e at f =
    let there = subst (λ q. IsFor g s q call given) e f in
    subst (λ (z : Device). reading (IsForItem z r) call given) (same_item there.0 it (sym there.1 ∙ at)) there.2

inside_item : (it : Device) → IsInside it.measure (size_of it)
inside_item it b small = omega (arith, small)

module _ (g : Setting) (s : State) (world : World) (t : Trace) (h : Held) (r : ItemRead) (it : Device) (content : List ℕ) (at : slice_get g.items r.item ≡ Some it) (item : IsItem it)
    (is : world.item r.item ≡ Some content) (w : IsWorld g s world t.heard) (for : (call : Call) (said : Said) → IsIn call said t.own → IsForItem it r call)
    (nothing : (cause : Cause) → IsReadBlame it.layout it.measure (IsForItem it r) t cause → ⊥) where
  defined : (sent : Sent) (cause : Option Cause) → ItemRow g.items world t r sent cause → IsDefined r content t.scarce sent cause
  defined sent cause (no_item absent none own) = absurd (omega (arith, slice_get_within g.items r.item it at))
  defined sent cause (too_large there large none own) = over_limit large
  defined sent cause (served other bytes there fits none all right shown) =
      rw (← slice_is (world.item r.item) content t other r bytes is shown) (whole fits)
  defined sent cause (blamed other c there fits blame order right) =
      let same : other ≡ it = same_item other it (sym there ∙ at) in
      absurd (nothing c (subst (λ (z : Device). IsReadBlame z.layout z.measure (IsForItem z r) t c) same blame))
  defined sent cause (no_memory other there fits scarce order right) = no_room fits scarce.scarce

-- the reply to a read whose answers are what is held, and of whose calls none failed
pub defined_over : (g : Setting) (world : World) (old : Moment) (turn : Turn) (new : Moment) (h : Held) (r : ItemRead) (it : Device) (content : List ℕ)
    → Step g world old turn new → request_of turn.frame ≡ read_of r → slice_get g.items r.item ≡ Some it → IsItem it → world.item r.item ≡ Some content
    → IsWorld g old.state world new.heard → AreServed h (heard_of turn.own) → HoldsDevice h it content → failures_of turn.own ≡ 0
    → IsDefined r content new.told.scarce turn.sent turn.cause
defined_over g world old turn new h r it content step request at item is w truly holds none =
    let measured = w.items r.item it content at is in
    let tree = measured_tree it.measure content measured in
    let own : IsWorld g old.state world (heard_of turn.own) = world_last g old.state world old.heard (heard_of turn.own) (subst (λ (x : Exchanges). IsWorld g old.state world x) step.heard w) in
    let for : (call : Call) (said : Said) → IsIn call said (heard_of turn.own) → IsForItem it r call = λ call said i.
    let c = each_heard (IsFor g old.state (request_of turn.frame)) turn.own step.calls call said i in
    (calls_of g old.state _ r it call c.0 request at c.1).0 in
    let nothing = not_blamed h it.layout it.measure (size_of it) r.offset r.size content tree item.most (inside_item it) holds (trace old turn new)
    (item_apart g old.state world (heard_of turn.own) r.item it content at is own) truly for none in
    defined g old.state world (trace old turn new) h r it content at item is own for nothing turn.sent turn.cause (row_of g world old.sealings (heard_in old turn new) _ old.state new.state turn.sent turn.cause r request step.row)

pub all_served : ReadsAreServed
all_served g world old turn new h r it content step request at item is w told holds calm =
    let tree = measured_tree it.measure content (w.items r.item it content at is) in
    let each : Each (reading (IsForItem it r)) turn.own = each_so (IsFor g old.state (request_of turn.frame)) (reading (IsForItem it r)) turn.own
    (λ call given p. calls_of g old.state _ r it call given request at p) step.calls in
    let none = calm_by h it.layout it.measure (size_of it) r.offset r.size content tree item.most (inside_item it) holds old.told new.told turn.own step.talked told each calm in
    let a = after h it.layout it.measure (size_of it) r.offset r.size content tree item.most (inside_item it) holds old.told new.told turn.own step.talked told each in (
      defined_over g world old turn new h r it content step request at item is w a.3 holds none,
      stays h it.layout it.measure (size_of it) r.offset r.size content tree item.most (inside_item it) holds old.told new.told turn.own step.talked told each,
    )

-- ---- READs of files

-- the row of a message
pub message_row : (g : Setting) (world : World) (run : List Sealing) (h : Heard) (request : Request) (old new : State) (sent : Sent) (cause : Option Cause) (m : Result Message Bad)
    → request ≡ message_of m → Row g world run h request old new sent cause → MessageRow world h m old.fuse new.fuse sent cause
message_row g world run h request old new sent cause m e row =
    (subst (λ q. Row g world run h q old new sent cause) e row).2

-- the calls of a READ are those for its file
file_calls_of : (g : Setting) (s : State) (request : Request) (m : Result Message Bad) (f : MeasuredFile) (offset size : ℕ) (call : Call) (given : List ℕ) → request ≡ message_of m
    → aim_of s.fuse m ≡ Ok (reads f offset size) → IsFor g s request call given → reading (IsFileRead f offset size) call given
file_calls_of g s request m f offset size call given e aim c =
    subst (λ (a : Result Aim Errno). IsForFuse a call given) aim (subst (λ q. IsFor g s q call given) e c)

read_row : (m : Result Message Bad) (s : State) (a : Around) (answer : Answer) (c : Option Cause) (f : MeasuredFile) (offset size : ℕ)
    → aim_of s.fuse m ≡ Ok (reads f offset size) → FuseRow (aim_of s.fuse m) a answer c → ReadRow f offset size a.trace answer c
read_row m s a answer c f offset size aim row = (subst (λ (z : Result Aim Errno). FuseRow z a answer c) aim row).1

module _ (f : MeasuredFile) (offset size : ℕ) (t : Trace) (content : List ℕ) (tree : HasTree f.measure content) (size_is : f.size ≡ length content)
    (apart : NoClash (IsHashed t.own content f.measure.salt)) (nothing : (cause : Cause) → IsReadBlame (layout_of f) f.measure (IsFileRead f offset size) t cause → ⊥) (unique : ℕ) where
  file_defined : (a : Answer) (cause : Option Cause) → ReadRow f offset size t a cause → IsReadDefined unique offset size content t.scarce (message_sent unique a) cause
  file_defined a cause (read_bytes bytes none cut all right) =
      rw (cut_content f.measure t.own content f.size offset size bytes tree apart size_is cut) slice
  file_defined a cause (read_blamed c blame order right) = absurd (nothing c blame)
  file_defined a cause (read_no_room scarce order right) = short_of_memory scarce.scarce

inside_file : (f : MeasuredFile) → block_count f.size ≡ f.measure.blocks → IsInside f.measure f.size
inside_file f count b small = omega (arith, count, small)

pub files_served : FileReadsAreServed
files_served g world old turn new h m n f offset size c step request aim there is opened w told holds calm =
    let known = known_by g old.state world old.heard new.heard (heard_of turn.own) step.heard opened w in
    let content_of = known.files n f c there is in
    let tree = content_of.tree in
    let read = readable old.state old.heard opened n f there in
    let own = known_last g old.state world old.heard (heard_of turn.own) (subst (λ (x : Exchanges). Known g old.state world x) step.heard known) in
    let each : Each (reading (IsFileRead f offset size)) turn.own = each_so (IsFor g old.state (request_of turn.frame)) (reading (IsFileRead f offset size)) turn.own
    (λ call given p. file_calls_of g old.state _ m f offset size call given request aim p) step.calls in
    let for : (call : Call) (said : Said) → IsIn call said (heard_of turn.own) → IsFileRead f offset size call =
    λ call said i. (each_heard (reading (IsFileRead f offset size)) turn.own each call said i).1.0 in
    let inside = inside_file f read.blocks in
    let limit = read.limit in
    let apart = file_apart g old.state world (heard_of turn.own) n f c there is own in
    let none = calm_by h (layout_of f) f.measure f.size offset size c.content tree limit inside holds old.told new.told turn.own step.talked told each calm in
    let a = after h (layout_of f) f.measure f.size offset size c.content tree limit inside holds old.told new.told turn.own step.talked told each in
    let nothing = not_blamed h (layout_of f) f.measure f.size offset size c.content tree limit inside holds (trace old turn new) apart a.3 for none in
    let row = message_row g world old.sealings (heard_in old turn new) _ old.state new.state turn.sent turn.cause m request step.row in
    let answer = read_row m old.state (around_message (heard_in old turn new) old.state.fuse new.state.fuse) row.answer turn.cause f offset size aim row.row in (
      subst (λ (z : Sent). IsReadDefined (number_of m) offset size c.content new.told.scarce z turn.cause) (sym row.sent_is)
          (file_defined f offset size (trace old turn new) c.content tree content_of.size apart nothing (number_of m) row.answer turn.cause answer),
      stays h (layout_of f) f.measure f.size offset size c.content tree limit inside holds old.told new.told turn.own step.talked told each,
    )

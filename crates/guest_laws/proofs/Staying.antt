-- What requests leave of what is held where no file is written: a put changes the disk of the instance image, and no request anything
-- else.
use Rattle.std.proofs.Common.{◌≡◌, ◌+◌, ◌∙◌, ℕ, Bool, List, [], ◌∷◌, Option, Some, None, Result, Ok, Err, refl, ap, sym, subst, inl, inr}
use Rattle.std.specs.Prelude.{◌⊎◌}
use Rattle.std.proofs.lemmas.Map.{update_apart}
use Rattle.mg_base.specs.declared.errno.Errno.{Errno}
use Rattle.host_traits.specs.declared.calls.Call.{Call}
use Rattle.host_traits.specs.declared.calls.Call.TheVariants.{BlockWrite}
use Rattle.host_traits.specs.declared.calls.Said.{Said}
use Rattle.host_traits.specs.Held.{Held, serve, found}
use Rattle.host_traits.specs.Told.{Made, Serves, ServesAll, HeldAfter}
use Rattle.host_traits.specs.Did.{Each, reads as reading}
use Rattle.host_traits.proofs.Doing.{each_so}
use Rattle.sha_tree.specs.declared.measure.Measure.{Measure}
use Rattle.sha_tree.specs.Tree.{ancestor}
use Rattle.verity_path.specs.Holding.{HoldsFile, HoldsParts}
use Rattle.ro_file.specs.Files.{layout_of}
use Rattle.fuse_codec.specs.Reply.{Answer}
use Rattle.verity_path.specs.declared.device.Cause.{Cause}
use Rattle.session_frames.specs.Replies.{Sent}
use Rattle.fuse_server.specs.State.{State as Fuse, WritableFile, Writables, writable_at}
use Rattle.fuse_server.specs.Aims.{Aim, says, makes, reads, loads, writes, cuts, syncs, aim_of}
use Rattle.fuse_server.specs.Rows.{IsForFuse, FuseRow}
use Rattle.fuse_server.proofs.Keeping.{OfFiles, all_of}
use Rattle.instance_image.specs.Sealings.{Sealing}
use Rattle.guest_plan.specs.declared.plan.PlanLine.{PlanLine}
use Rattle.guest_plan.specs.declared.plan.PlanLine.TheVariants as line
use Rattle.guest_boot.specs.Booting.{AllOnlyRead}
use Rattle.guest_names.specs.Standing.{files_in, all_emptied, writables_at_boot}
use Rattle.guest_rules.specs.MessageRow.{Heard, around_message}
use Rattle.instance_image.specs.declared.values.Part.{Part}
use Rattle.instance_image.specs.Records.{sectors_of}
use Rattle.instance_image.specs.Access.{payload_size}
use Rattle.guest_rules.specs.Machine.{Instance, Setting, State, World, Moment, Turn, Request, request_of, message_of, read_of, get_of, put_of}
use Rattle.guest_rules.specs.RecordRow.{IsForGet, IsForPut}
use Rattle.guest_rules.specs.Step.{Step, IsFor, Row, heard_in}
use Rattle.guest_rules.proofs.Standing.{put_keeps}
use Rattle.guest_rules.proofs.Holding.{IsReading, of_blocks, keeps_one, reads_keep, pair_is, when_is}
use Rattle.guest_rules.proofs.Devices.{page_reads}
use Rattle.guest_laws.specs.Sessions.{WritesNone, IsOtherDisk}

-- ---- no file is written

abbrev pub NoWritables : State → Type 0
NoWritables s = s.fuse.writables ≡ []

pub none_at : (files : Writables) (n : ℕ) (f : WritableFile) → files ≡ [] → writable_at files n ≡ Some f → ⊥
none_at files n f none at = absurd_some (subst (λ (z : Writables). writable_at z n ≡ Some f) none at) where
  absurd_some : ◌≡◌ {A = Option WritableFile} None (Some f) → ⊥
  absurd_some e = cc

module _ (s new : Fuse) (none : s.writables ≡ []) where
  aim_none : (aim : Result Aim Errno) (h : Heard) (answer : Answer) (cause : Option Cause) → OfFiles s aim → FuseRow aim (around_message h s new) answer cause → new.writables ≡ []
  aim_none (Err e) h answer cause of row = row.0 ∙ none
  aim_none (Ok (says x)) h answer cause of row = row.0 ∙ none
  aim_none (Ok (makes x)) h answer cause of row = row.0 ∙ none
  aim_none (Ok (reads f offset size)) h answer cause of row = row.0 ∙ none
  aim_none (Ok (loads n f offset size)) h answer cause of row = absurd (none_at s.writables n f none of)
  aim_none (Ok (writes n f offset new)) h answer cause of row = absurd (none_at s.writables n f none of.0)
  aim_none (Ok (cuts n f node size)) h answer cause of row = absurd (none_at s.writables n f none of.0)
  aim_none (Ok (syncs n f)) h answer cause of row = absurd (none_at s.writables n f none of)

row_none : (g : Setting) (world : World) (run : List Sealing) (h : Heard) (request : Request) (old new : State) (sent : Sent) (cause : Option Cause) → Row g world run h request old new sent cause → NoWritables old
    → NoWritables new
row_none g world run h (message_of m) old new sent cause row none = aim_none old.fuse new.fuse none (aim_of old.fuse m) h row.2.answer cause (all_of old.fuse m) row.2.row
row_none g world run h (read_of r) old new sent cause row none = ap (λ (s : State). s.fuse.writables) row.0 ∙ none
row_none g world run h (get_of uuid) old new sent cause row none = ap (λ (s : State). s.fuse.writables) row.0 ∙ none
row_none g world run h (put_of uuid text) old new sent cause row none = ap (λ (s : Fuse). s.writables) (put_keeps g.image h.trace uuid text old new sent cause row) ∙ none

-- it stays so
pub still_none : (g : Setting) (world : World) (old : Moment) (turn : Turn) (new : Moment) → Step g world old turn new → NoWritables old.state → NoWritables new.state
still_none g world old turn new step none = row_none g world old.sealings (heard_in old turn new) (request_of turn.frame) old.state new.state turn.sent turn.cause step.row none

-- and it is so after a boot that only reads
none_emptied : (lines : List PlanLine) (standing : Writables) → AllOnlyRead lines → all_emptied standing (files_in lines) ≡ standing
none_emptied [] standing only = refl
none_emptied (line.File name file digest ∷ lines) standing only = none_emptied lines standing only.1
none_emptied (line.Instance disk part ∷ lines) standing only = none_emptied lines standing only.1
none_emptied (line.Blob file m ∷ lines) standing only = none_emptied lines standing only.1
none_emptied (line.Apk disk apk idsig how ∷ lines) standing only = none_emptied lines standing only.1
none_emptied (line.Write name file ∷ lines) standing only = absurd only.0
none_emptied (line.WriteDir name file ∷ lines) standing only = none_emptied lines standing only.1

pub none_first : (lines : List PlanLine) → AllOnlyRead lines → writables_at_boot lines ≡ []
none_first lines only = none_emptied lines [] only

-- ---- requests that write nothing

get_read : (image : Option Instance) (parts : List Part) (uuid : List ℕ) (call : Call) (given : List ℕ) → IsForGet image parts uuid call given → reading IsReading call given
get_read None parts uuid call given f = absurd f
get_read (Some i) parts uuid call given f = (subst IsReading (sym f.0.call_is) (of_blocks i.disk (i.first + f.0.part.sector) (1 + sectors_of f.0.part.size)), f.1)

is_read : (g : Setting) (s : State) (request : Request) (call : Call) (given : List ℕ) → NoWritables s → WritesNone g request → IsFor g s request call given → reading IsReading call given
is_read g s (message_of m) call given none unwritten f = message_read (aim_of s.fuse m) (all_of s.fuse m) f where
  message_read : (aim : Result Aim Errno) → OfFiles s.fuse aim → IsForFuse aim call given → reading IsReading call given
  message_read (Err e) of f = absurd f
  message_read (Ok (says a)) of f = absurd f
  message_read (Ok (makes a)) of f = absurd f
  message_read (Ok (loads n file offset size)) of f = absurd (none_at s.fuse.writables n file none of)
  message_read (Ok (writes n file offset new)) of f = absurd (none_at s.fuse.writables n file none of.0)
  message_read (Ok (cuts n file node size)) of f = absurd (none_at s.fuse.writables n file none of.0)
  message_read (Ok (syncs n file)) of f = absurd (none_at s.fuse.writables n file none of)
  message_read (Ok (reads file offset size)) of f =
      let p = f.0.path in
      (subst IsReading (sym p.call_is) (page_reads (layout_of file) file.measure.blocks p.level (ancestor f.0.block p.level)), f.1)
is_read g s (read_of r) call given none unwritten f =
    let it = f.0 in
    let p = f.2.0.path in
    (subst IsReading (sym p.call_is) (page_reads it.layout it.measure.blocks p.level (ancestor f.2.0.block p.level)), f.2.1)
is_read g s (get_of uuid) call given none unwritten f = get_read g.image s.parts uuid call given f
is_read g s (put_of uuid text) call given none unwritten f = absurd (subst (λ (i : Option Instance). IsForPut i s uuid text call given) unwritten f)

-- a turn that writes nothing changes nothing that is held
pub step_keeps : (g : Setting) (world : World) (old : Moment) (turn : Turn) (new : Moment) (h : Held) → NoWritables old.state → WritesNone g (request_of turn.frame) → Step g world old turn new → old.told.held ≡ Some h → new.told.held ≡ Some h
step_keeps g world old turn new h none unwritten step told =
    let after = subst (λ o. HeldAfter old.told.honest o turn.own new.told.held) told step.talked.held in
    let keeps = reads_keep old.told.honest turn.own h after.0 after.2
    (each_so (IsFor g old.state (request_of turn.frame)) (reading IsReading) turn.own (λ call given f. is_read g old.state (request_of turn.frame) call given none unwritten f) step.calls) in
    after.1 ∙ ap (λ (z : Held). Some z) keeps.0

-- ---- any request

-- all files are the same, and all disks but the instance image's
pub record IsSameBut (image : Option Instance) (h k : Held) : Type 0 where
  pub files : (n : ℕ) → k.file n ≡ h.file n
  pub disks : (d : ℕ) → IsOtherDisk image d → k.disk d ≡ h.disk d

pub same_self : (image : Option Instance) (h : Held) → IsSameBut image h h
same_self image h = record { files = λ n. refl; disks = λ d other. refl }

pub same_on : (image : Option Instance) (a b c : Held) → IsSameBut image a b → IsSameBut image b c → IsSameBut image a c
same_on image a b c p q = record { files = λ n. q.files n ∙ p.files n; disks = λ d other. q.disks d other ∙ p.disks d other }

found_any : {A : Type 0} (o : Option A) (f : A → Option (Said × Held)) (x : Said × Held) (P : Type 0) → ((a : A) → f a ≡ Some x → P) → found o f ≡ Some x → P
found_any None f x P all e = absurd cc
found_any (Some a) f x P all e = all a e

write_same : (i : Instance) (h k : Held) (sector count : ℕ) (given : List ℕ) (said : Said) → serve h (BlockWrite i.disk sector count) given ≡ Some (said, k) → IsSameBut (Some i) h k
unfolding serve
write_same i h k sector count given said e =
    found_any (h.disk i.disk) _ (said, k) (IsSameBut (Some i) h k) (λ d is.
    subst (λ (z : Held). IsSameBut (Some i) h z) (pair_is _ (said, k) (when_is _ _ (said, k) is).1).1
    (record { files = λ n. refl; disks = λ q other. update_apart h.disk i.disk _ q other })) e

-- a write to the disk of the instance image
abbrev IsWriteOn : Option Instance → Call → Type 0
IsWriteOn None call = ⊥
IsWriteOn (Some i) call = (sector : ℕ) × (count : ℕ) × (call ≡ BlockWrite i.disk sector count)

abbrev Touches : Option Instance → Call → List ℕ → Type 0
Touches image call given = reading IsReading call given ⊎ IsWriteOn image call

one_same : (image : Option Instance) (honest : Bool) (h k : Held) (call : Call) (given : List ℕ) (came : Option Said) → Touches image call given → Serves honest h call given came k → IsSameBut image h k
one_same image honest h k call given came (inl r) s = subst (λ (z : Held). IsSameBut image h z) (sym (keeps_one honest h k call given came r.0 s)) (same_self image h)
one_same image honest h k call given None (inr w) s = subst (λ (z : Held). IsSameBut image h z) (sym s.0) (same_self image h)
one_same None honest h k call given (Some said) (inr w) s = absurd w
one_same (Some i) honest h k call given (Some said) (inr w) s = write_same i h k w.0 w.1 given said (subst (λ (c : Call). serve h c given ≡ Some (said, k)) w.2 s)

all_same : (image : Option Instance) (honest : Bool) (own : List Made) (h k : Held) → ServesAll honest h own k → Each (Touches image) own → IsSameBut image h k
all_same image honest [] h k s each = subst (λ (z : Held). IsSameBut image h z) (sym s) (same_self image h)
all_same image honest (m ∷ own) h k s each =
    same_on image h s.0 k (one_same image honest h s.0 m.call m.given m.came each.0 s.1) (all_same image honest own s.0 k s.2 each.1)

put_writes : (image : Option Instance) (s : State) (uuid text : List ℕ) (call : Call) (given : List ℕ) → IsForPut image s uuid text call given → IsWriteOn image call
put_writes None s uuid text call given f = absurd f
put_writes (Some i) s uuid text call given f = (i.first + f.part.sector, 1 + sectors_of (payload_size text), f.call_is)

touches : (g : Setting) (s : State) (request : Request) (call : Call) (given : List ℕ) → NoWritables s → IsFor g s request call given → Touches g.image call given
touches g s (message_of m) call given none f = inl (is_read g s (message_of m) call given none tt f)
touches g s (read_of r) call given none f = inl (is_read g s (read_of r) call given none tt f)
touches g s (get_of uuid) call given none f = inl (is_read g s (get_of uuid) call given none tt f)
touches g s (put_of uuid text) call given none f = inr (put_writes g.image s uuid text call given f)

pub step_same : (g : Setting) (world : World) (old : Moment) (turn : Turn) (new : Moment) (h : Held) → NoWritables old.state → Step g world old turn new → old.told.held ≡ Some h
    → (k : Held) × (new.told.held ≡ Some k) × IsSameBut g.image h k
step_same g world old turn new h none step told =
    let after = subst (λ o. HeldAfter old.told.honest o turn.own new.told.held) told step.talked.held in
    let each = each_so (IsFor g old.state (request_of turn.frame)) (Touches g.image) turn.own (λ call given f. touches g old.state (request_of turn.frame) call given none f) step.calls in
    (after.0, after.1, all_same g.image old.told.honest turn.own h after.0 after.2 each)

-- ---- what stays held

module _ (image : Option Instance) (h k : Held) (same : IsSameBut image h k) where
  pub file_stays : (n size : ℕ) (m : Measure) (content : List ℕ) → HoldsFile h n size m content → HoldsFile k n size m content
  file_stays n size m content f = record { file = f.file; there = same.files n ∙ f.there; size_is = f.size_is; bytes = f.bytes; tree = f.tree }

  pub parts_stay : (d first at : ℕ) (m : Measure) (content : List ℕ) → IsOtherDisk image d → HoldsParts h d first at m content → HoldsParts k d first at m content
  parts_stay d first at m content other p =
      record { disk = p.disk; there = same.disks d other ∙ p.there; sectors = p.sectors; whole = p.whole; blocks = p.blocks; tree = p.tree }

-- A session over a host that holds what the plan needs: no frame of it has a cause.
use Rattle.std.proofs.Common.{if◌then◌else◌, ◌≡◌, ◌+◌, ◌∙◌, ℕ, zero, suc, Bool, true, false, List, [], ◌∷◌, length, Option, Some, None, Result, Ok, Err, refl, ap, sym, inl, inr, arith}
use Rattle.std.specs.Prelude.{slice_get, ◌==◌}
use Rattle.std.specs.List.{AllByRecursion}
use Rattle.std.proofs.lemmas.Option.{slice_get_within}
use Rattle.std.proofs.lemmas.List.{length-append}
use Rattle.std.proofs.lemmas.Bool.Decides.{nat_tests}
use Rattle.mg_base.specs.declared.errno.Errno.{Errno}
use Rattle.mg_base.specs.declared.values.Digest.{Digest}
use Rattle.host_traits.specs.Held.{Held}
use Rattle.host_traits.specs.Told.{Exchanges, heard_of}
use Rattle.host_traits.specs.Did.{Trace}
use Rattle.session_frames.specs.Replies.{Sent}
use Rattle.verity_path.specs.declared.device.Cause.{Cause}
use Rattle.verity_path.specs.declared.device.Device.{Device}
use Rattle.ro_file.specs.Files.{MeasuredFile}
use Rattle.fuse_codec.specs.Reply.{Answer}
use Rattle.fuse_server.specs.State.{State as Fuse, Files, file_at}
use Rattle.fuse_server.specs.Aims.{Aim, says, makes, reads, loads, writes, cuts, syncs, aim_of, number_of}
use Rattle.fuse_server.specs.FileRows.{Around}
use Rattle.fuse_server.specs.Rows.{FuseRow}
use Rattle.fuse_server.proofs.Keeping.{OfFiles, all_of, aim_file}
use Rattle.guest_laws.proofs.Staying.{NoWritables, none_at, still_none, none_first}
use Rattle.guest_plan.specs.Plans.{Known}
use Rattle.guest_plan.specs.declared.plan.PlanLine.{PlanLine}
use Rattle.guest_plan.specs.declared.plan.PlanLine.TheVariants as line
use Rattle.guest_plan.proofs.Whole.{plan_takes}
use Rattle.guest_boot.specs.Booting.{Booted, before_lines, means_of, instance_in}
use Rattle.guest_laws.proofs.Unrecorded.{PlainBoots, PlainPlan, from_plain}
use Rattle.guest_names.specs.Standing.{digest_in, files_at_boot}
use Rattle.guest_names.specs.Promises.{IsPlannedFile}
use Rattle.guest_names.proofs.Making.{files_opened}
use Rattle.instance_image.specs.declared.values.Part.{Part}
use Rattle.instance_image.specs.Sealings.{Sealing}
use Rattle.guest_rules.specs.Machine.{Instance, Setting, State, World, Moment, Turn, ItemRead, Request, message_of, read_of, get_of, put_of, request_of}
use Rattle.guest_rules.specs.RecordRow.{GetRow, no_image, got, PutRow, no_image as put_no_image, refused, no_entropy, put}
use Rattle.guest_rules.specs.ItemRow.{ItemRow, no_item, too_large, served, blamed, no_memory}
use Rattle.guest_rules.specs.Step.{Step, Row, trace, heard_in}
use Rattle.guest_rules.specs.Faithful.{IsDefined, over_limit, whole, no_room, IsReadDefined, slice, no_memory as short_of_memory}
use Rattle.guest_rules.proofs.Standing.{files_kept}
use Rattle.guest_cli.specs.Booted.{setting_of}
use Rattle.guest_laws.specs.Fitting.{Fits, FitsItem, item_line}
use Rattle.guest_laws.specs.Sessions.{AsksNoRecord, StaysHeld, IsItemServed, IsFileServed, RunServed, HonestHostsCauseNone}
use Rattle.guest_laws.proofs.Sat.{sessions_served}

-- ---- defined replies have no cause

defined_none : (r : ItemRead) (content : List ℕ) (b : Bool) (sent : Sent) (cause : Option Cause) → IsDefined r content b sent cause → cause ≡ None
defined_none r content b sent cause (over_limit large) = refl
defined_none r content b sent cause (whole fits) = refl
defined_none r content b sent cause (no_room fits scarce) = refl

read_none : (unique offset size : ℕ) (content : List ℕ) (b : Bool) (sent : Sent) (cause : Option Cause) → IsReadDefined unique offset size content b sent cause → cause ≡ None
read_none unique offset size content b sent cause slice = refl
read_none unique offset size content b sent cause (short_of_memory scarce) = refl

-- ---- each item and each file has its line

item_has_line : (lines : List PlanLine) (s new : Booted) (own : Exchanges) (k n : ℕ) (it : Device) → PlainBoots s lines own new → n ≡ length s.items + k → slice_get new.items n ≡ Some it
    → (l : PlanLine) × (item_line lines k ≡ Some l)
item_has_line [] s new own k n it b e at =
    let small = slice_get_within new.items n it at in
    let same : length new.items ≡ length s.items = ap (λ (z : Booted). length z.items) b.1 in
    absurd (omega (arith, small, same, e))
item_has_line (line.Blob f w ∷ lines) s new own zero n it b e at = (line.Blob f w, refl)
item_has_line (line.Blob f w ∷ lines) s new own (suc k) n it b e at =
    let more : length b.2.items ≡ length s.items + 1 = ap (λ (z : Booted). length z.items) b.4.1 ∙ length-append s.items _ in
    item_has_line lines b.2 new b.1 k n it b.5 (omega (arith, e, more)) at
item_has_line (line.Apk d a i w ∷ lines) s new own zero n it b e at = (line.Apk d a i w, refl)
item_has_line (line.Apk d a i w ∷ lines) s new own (suc k) n it b e at =
    let more : length b.2.items ≡ length s.items + 1 = ap (λ (z : Booted). length z.items) b.4.new_is ∙ length-append s.items _ in
    item_has_line lines b.2 new b.1 k n it b.5 (omega (arith, e, more)) at
item_has_line (line.File name f digest ∷ lines) s new own k n it b e at =
    let more : length b.2.items ≡ length s.items = ap (λ (z : Booted). length z.items) b.4.new_is in
    item_has_line lines b.2 new b.1 k n it b.5 (omega (arith, e, more)) at
item_has_line (line.Instance d name ∷ lines) s new own k n it b e at =
    let more : length b.2.items ≡ length s.items = ap (λ (z : Booted). length z.items) b.4.1 in
    item_has_line lines b.2 new b.1 k n it b.5 (omega (arith, e, more)) at
item_has_line (line.WriteDir name f ∷ lines) s new own k n it b e at =
    let more : length b.2.items ≡ length s.items = ap (λ (z : Booted). length z.items) b.4.1 in
    item_has_line lines b.2 new b.1 k n it b.5 (omega (arith, e, more)) at
item_has_line (line.Write name f ∷ lines) s new own k n it b e at = absurd b.4

-- a line that names a file of this number with this digest
record HasLine (lines : List PlanLine) (n : ℕ) (digest : Digest) : Type 0 where
  pub k : ℕ
  pub name : List ℕ
  pub at : slice_get lines k ≡ Some (line.File name n digest)

behind : (l : PlanLine) (lines : List PlanLine) (n : ℕ) (digest : Digest) → HasLine lines n digest → HasLine (l ∷ lines) n digest
behind l lines n digest w = record { k = suc w.k; name = w.name; at = w.at }

same_digest : (a b : Digest) → Some a ≡ Some b → a ≡ b
same_digest a b e = cc

here_or : (b : Bool) (name : List ℕ) (file : ℕ) (d : Digest) (lines : List PlanLine) (n : ℕ) (digest : Digest) → (file == n) ≡ b → (if b then Some d else digest_in lines n) ≡ Some digest
    → (digest_in lines n ≡ Some digest → HasLine lines n digest) → HasLine (line.File name file d ∷ lines) n digest
here_or true name file d lines n digest e is later =
    let same : file ≡ n = grind (arith, nat_tests) in
    let other = same_digest d digest is in
    record { k = 0; name = name; at = rw (same, other) refl }
here_or false name file d lines n digest e is later = behind (line.File name file d) lines n digest (later is)

file_has_line : (lines : List PlanLine) (n : ℕ) (digest : Digest) → digest_in lines n ≡ Some digest → HasLine lines n digest
file_has_line [] n digest is = absurd cc
file_has_line (line.File name file d ∷ lines) n digest is = here_or (file == n) name file d lines n digest refl is (file_has_line lines n digest)
file_has_line (line.Blob f m ∷ lines) n digest is = behind _ lines n digest (file_has_line lines n digest is)
file_has_line (line.Apk d a i how ∷ lines) n digest is = behind _ lines n digest (file_has_line lines n digest is)
file_has_line (line.Instance disk part ∷ lines) n digest is = behind _ lines n digest (file_has_line lines n digest is)
file_has_line (line.Write name file ∷ lines) n digest is = behind _ lines n digest (file_has_line lines n digest is)
file_has_line (line.WriteDir name file ∷ lines) n digest is = behind _ lines n digest (file_has_line lines n digest is)

-- ---- turn by turn

row_none : (items : List Device) (world : World) (r : ItemRead) (t : Trace) (sent : Sent) (cause : Option Cause) → ((it : Device) → slice_get items r.item ≡ Some it → cause ≡ None)
    → ItemRow items world t r sent cause → cause ≡ None
row_none items world r t sent cause f (no_item absent none own) = refl
row_none items world r t sent cause f (too_large there large none own) = refl
row_none items world r t sent cause f (served it bytes at fits none all right shown) = refl
row_none items world r t sent cause f (blamed it c at fits blame order right) = f it at
row_none items world r t sent cause f (no_memory it at fits scarce order right) = refl

aim_none : (fuse : Fuse) (aim : Result Aim Errno) (a : Around) (answer : Answer) (cause : Option Cause) → fuse.writables ≡ [] → OfFiles fuse aim
    → ((f : MeasuredFile) (offset size : ℕ) → aim ≡ Ok (reads f offset size) → cause ≡ None) → FuseRow aim a answer cause → cause ≡ None
aim_none fuse (Err e) a answer cause none of f row = row.1.no_cause
aim_none fuse (Ok (says x)) a answer cause none of f row = row.1.no_cause
aim_none fuse (Ok (makes x)) a answer cause none of f (same, inl row) = row.no_cause
aim_none fuse (Ok (makes x)) a answer cause none of f (same, inr row) = row.no_cause
aim_none fuse (Ok (reads file offset size)) a answer cause none of f row = f file offset size refl
aim_none fuse (Ok (loads n file offset size)) a answer cause none of f row = absurd (none_at fuse.writables n file none of)
aim_none fuse (Ok (writes n file offset new)) a answer cause none of f row = absurd (none_at fuse.writables n file none of.0)
aim_none fuse (Ok (cuts n file node size)) a answer cause none of f row = absurd (none_at fuse.writables n file none of.0)
aim_none fuse (Ok (syncs n file)) a answer cause none of f row = absurd (none_at fuse.writables n file none of)

-- without an instance image, neither a get nor a put has a cause
no_instance : (i : Instance) → Some i ≡ None → ⊥
no_instance i e = cc

get_none : (image : Option Instance) (parts : List Part) (world : World) (run : List Sealing) (t : Trace) (uuid : List ℕ) (sent : Sent) (cause : Option Cause) → image ≡ None
    → GetRow image parts world run t uuid sent cause → cause ≡ None
get_none image parts world run t uuid sent cause none (no_image is quiet) = refl
get_none image parts world run t uuid sent cause none (got i result there outcome known) = absurd (no_instance i (sym there ∙ none))

put_none : (image : Option Instance) (t : Trace) (uuid text : List ℕ) (old new : State) (sent : Sent) (cause : Option Cause) → image ≡ None → PutRow image t uuid text old new sent cause
    → cause ≡ None
put_none image t uuid text old new sent cause none (put_no_image is quiet same) = refl
put_none image t uuid text old new sent cause none (refused i why there fits quiet same) = refl
put_none image t uuid text old new sent cause none (no_entropy i part there fits few quiet same) = refl
put_none image t uuid text old new sent cause none (put i part result there fits some outcome is) = absurd (no_instance i (sym there ∙ none))

-- the content that a line's item has
content_of : (h : Held) (o : Option (List ℕ)) (l : PlanLine) → FitsItem h o l → (content : List ℕ) × (o ≡ Some content)
content_of h o (line.Blob file m) f = (f.bytes, f.content_is)
content_of h o (line.Apk disk apk idsig how) f = (f.bytes, f.content_is)
content_of h o other f = absurd f

module _ (plan : Known) (h : Held) (world : World) (booted : Exchanges) (new : Booted) (entropy : List ℕ) (boots : PlainPlan (means_of plan entropy) plan.lines booted new)
    (planned : (n : ℕ) (f : MeasuredFile) → file_at (files_at_boot plan.lines new.files) n ≡ Some f → IsPlannedFile plan.lines booted n f) (fits : Fits plan world h)
    (Stays : PlanLine → Type 0) (stay : (k : ℕ) (l : PlanLine) → item_line plan.lines k ≡ Some l → Stays l) where
  turn_none : (g : Setting) (old : Moment) (turn : Turn) (mid : Moment) → g.items ≡ new.items → NoWritables old.state → old.state.fuse.files ≡ files_at_boot plan.lines new.files → (request : Request) → request_of turn.frame ≡ request
      → AsksNoRecord g request → Row g world old.sealings (heard_in old turn mid) request old.state mid.state turn.sent turn.cause → IsItemServed plan.lines world h Stays turn → IsFileServed plan.lines world h old turn
      → turn.cause ≡ None
  turn_none g old turn mid items bare same (get_of uuid) is asks row item file = get_none g.image old.state.parts world old.sealings (trace old turn mid) uuid turn.sent turn.cause asks row.1
  turn_none g old turn mid items bare same (put_of uuid text) is asks row item file = put_none g.image (trace old turn mid) uuid text old.state mid.state turn.sent turn.cause asks row
  turn_none g old turn mid items bare same (read_of r) is asks row item file =
      row_none g.items world r (trace old turn mid) turn.sent turn.cause (λ it at.
      let l = item_has_line plan.lines (before_lines boots.tables boots.image plan.secret entropy) new boots.rest r.item r.item it boots.others (omega arith) (ap (λ (xs : List Device). slice_get xs r.item) (sym items) ∙ at) in
      let fit = fits.items r.item l.0 l.1 in
      let c = content_of h (world.item r.item) l.0 fit in
      defined_none r c.0 true turn.sent turn.cause (item r l.0 c.0 is l.1 (stay r.item l.0 l.1) fit c.1)) row.1
  turn_none g old turn mid items bare same (message_of m) is asks row item file =
      aim_none old.state.fuse (aim_of old.state.fuse m) _ row.2.answer turn.cause bare (all_of old.state.fuse m) (λ f offset size aim.
      let there = aim_file old.state.fuse m f offset size aim in
      let p = planned there.0 f (ap (λ (fs : Files). file_at fs there.0) (sym same) ∙ there.1) in
      let l = file_has_line plan.lines there.0 p.digest p.planned in
      let fit = fits.files l.k l.name there.0 p.digest l.at in
      read_none (number_of m) offset size fit.known.content true turn.sent turn.cause
      (file m f offset size l.k l.name there.0 p.digest is aim l.at p.number_is fit)) row.2.row

  run_none : (g : Setting) (turns : List Turn) (old end : Moment) → g.items ≡ new.items → NoWritables old.state → old.state.fuse.files ≡ files_at_boot plan.lines new.files → RunServed plan h Stays g world old turns end
      → AllByRecursion (λ t. AsksNoRecord g (request_of t.frame) → t.cause ≡ None) turns
  run_none g [] old end items bare same run = tt
  run_none g (turn ∷ turns) old end items bare same run =
      let mid : Moment = run.0 in
      let step : Step g world old turn mid = run.2 in
      let kept = files_kept g world old.sealings (heard_in old turn mid) (request_of turn.frame) old.state mid.state turn.sent turn.cause step.row in
      (λ asks. turn_none g old turn mid items bare same (request_of turn.frame) refl asks step.row run.3 run.4, run_none g turns mid end items (still_none g world old turn mid step bare) (kept ∙ same) run.5)

pub causes_none : HonestHostsCauseNone
causes_none files plan store entropy old new ended s turns world unrecorded r w sealed fits stay =
    let known = s.made.planned in
    let grammar = plan_takes known.text known.plan known.is in
    let opens = s.boots.opens in
    let o = s.opened in
    let made : Booted = record { tables = opens.tables; items = o.items; files = o.files; image = o.image; secret = known.plan.secret; entropy = o.left; writings = o.writings } in
    run_none known.plan s.made.stock.held world (heard_of s.booted) made s.bytes (from_plain (instance_in known.plan.lines) (means_of known.plan s.bytes) known.plan.lines (heard_of s.booted) made unrecorded opens.boots)
    (λ n f at. files_opened known.text known.plan s.bytes (heard_of s.booted) made grammar opens.boots n f at) fits
    (StaysHeld (setting_of known.plan o) turns) stay (setting_of known.plan o) turns _ _ refl (none_first known.plan.lines unrecorded) refl (sessions_served files plan store entropy old new ended s turns world unrecorded r w sealed)

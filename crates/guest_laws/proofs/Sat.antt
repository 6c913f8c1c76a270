-- A session over an honest host that holds what the plan's lines need.
use Rattle.std.proofs.Common.{◌≡◌, ◌+◌, ◌*◌, ◌∙◌, ℕ, zero, suc, Bool, true, List, [], ◌∷◌, ◌++◌, length, ◌<◌, ◌≤◌, Option, Some, refl, ap, sym, subst, inl, inr, arith}
use Rattle.std.specs.Prelude.{slice_get}
use Rattle.mg_base.specs.declared.values.Digest.{Digest}
use Rattle.std.proofs.lemmas.List.{length-append}
use Rattle.host_traits.specs.declared.calls.Call.{Call}
use Rattle.host_traits.specs.declared.calls.TapeItem.{TapeItem}
use Rattle.host_traits.specs.Held.{Held}
use Rattle.host_traits.specs.Told.{Told, Exchanges, Made, heard_of, failures_of}
use Rattle.host_traits.specs.Did.{trace_of}
use Rattle.sha_tree.specs.declared.measure.Measure.{Measure}
use Rattle.sha_tree.specs.Tree.{page, pages_at, top}
use Rattle.sha_tree.specs.Measured.{IsMeasured}
use Rattle.verity_path.specs.Holding.{HoldsAt}
use Rattle.verity_path.specs.declared.device.Device.{Device}
use Rattle.verity_path.specs.declared.walk.Layout.{Layout}
use Rattle.ro_file.specs.Files.{MeasuredFile}
use Rattle.ro_file.specs.Contents.{IsContentOf}
use Rattle.fuse_server.specs.Aims.{number_of}
use Rattle.fuse_server.proofs.Keeping.{aim_file}
use Rattle.guest_plan.specs.Plans.{Known}
use Rattle.guest_plan.specs.declared.plan.PlanLine.{PlanLine}
use Rattle.guest_plan.specs.declared.plan.PlanLine.TheVariants as line
use Rattle.guest_boot.specs.Booting.{AreServed, AllOnlyRead, Booted, Means, means_of, instance_in, device_on, before_lines}
use Rattle.guest_boot.proofs.Makes.{device_is_item}
use Rattle.guest_rules.specs.Machine.{Instance, Setting, State, World, Salted, Moment, Turn, IsItem, request_of, moment}
use Rattle.guest_rules.specs.Step.{Step, heard_in}
use Rattle.guest_rules.specs.Run.{Run, IsWorld, AreSealed, AreOpened, calls_of}
use Rattle.guest_rules.specs.Faithful.{HoldsDevice, HoldsContent, IsDefined, IsReadDefined}
use Rattle.guest_rules.proofs.Serving.{all_served, files_served}
use Rattle.guest_rules.proofs.Standing.{run_heard, world_first, world_at, known_by, files_kept, opened_at}
use Rattle.guest_plan.proofs.Whole.{plan_takes}
use Rattle.guest_cli.specs.Booted.{Opened, BootsOver, setting_of, first_state, sealings_of}
use Rattle.guest_cli.specs.Serve.{before, Recorded}
use Rattle.guest_cli.proofs.Opening.{opened_first}
use Rattle.guest_boot.proofs.Plans.{plan_served}
use Rattle.guest_laws.specs.Fitting.{FitsItem, HoldsReadOnly, item_line}
use Rattle.guest_laws.specs.Sessions.{AreUnwritten, LiesApart, StaysHeld, RunServed, SessionsAreServed, BootsAreServed}
use Rattle.guest_laws.proofs.Asking.{AreHeld, boot_held, not_failed}
use Rattle.guest_laws.proofs.Boots.{lines_call, fault_writes, fault_passes}
use Rattle.guest_laws.proofs.Items.{served_line}
use Rattle.guest_laws.proofs.Lines.{same_line, get_last, keeps}
use Rattle.guest_laws.proofs.Unrecorded.{PlainLine, PlainBoots, PlainPlan, from_plain, none_written, reads_only}
use Rattle.guest_laws.proofs.Served.{apk_kept}
use Rattle.guest_laws.proofs.Staying.{NoWritables, still_none, none_first, IsSameBut, same_self, same_on, step_keeps, step_same, file_stays, parts_stay}

-- ---- a line's item is held

-- the device of a `blob` line
blob_line : (file : ℕ) (m : Measure) (lines : List PlanLine) (s new : Booted) (own : Exchanges) (k n : ℕ) → PlainBoots s lines own new → item_line lines k ≡ Some (line.Blob file m) → n ≡ length s.items + k
    → slice_get new.items n ≡ Some (device_on file m)
blob_line file m [] s new own k n b is e = absurd cc
blob_line file m (line.Blob f w ∷ lines) s new own zero n b is e =
    let mine : PlainLine s (line.Blob file m) b.0 b.2 = subst (λ (l : PlanLine). PlainLine s l b.0 b.2) (same_line (line.Blob f w) (line.Blob file m) is) b.4 in
    let made : slice_get b.2.items n ≡ Some (device_on file m) = subst (λ (z : Booted). slice_get z.items n ≡ Some (device_on file m)) (sym mine.1) (get_last s.items (device_on file m) n (omega (arith, e))) in
    keeps lines b.2 new b.1 n (device_on file m) b.5 made
blob_line file m (line.Blob f w ∷ lines) s new own (suc k) n b is e =
    let more : length b.2.items ≡ length s.items + 1 = ap (λ (z : Booted). length z.items) b.4.1 ∙ length-append s.items _ in
    blob_line file m lines b.2 new b.1 k n b.5 is (omega (arith, e, more))
blob_line file m (line.Apk d a i w ∷ lines) s new own zero n b is e = absurd cc
blob_line file m (line.Apk d a i w ∷ lines) s new own (suc k) n b is e =
    let more : length b.2.items ≡ length s.items + 1 = ap (λ (z : Booted). length z.items) b.4.new_is ∙ length-append s.items _ in
    blob_line file m lines b.2 new b.1 k n b.5 is (omega (arith, e, more))
blob_line file m (line.File name f digest ∷ lines) s new own k n b is e =
    let more : length b.2.items ≡ length s.items = ap (λ (z : Booted). length z.items) b.4.new_is in
    blob_line file m lines b.2 new b.1 k n b.5 is (omega (arith, e, more))
blob_line file m (line.Instance d name ∷ lines) s new own k n b is e =
    let more : length b.2.items ≡ length s.items = ap (λ (z : Booted). length z.items) b.4.1 in
    blob_line file m lines b.2 new b.1 k n b.5 is (omega (arith, e, more))
blob_line file m (line.WriteDir name f ∷ lines) s new own k n b is e =
    let more : length b.2.items ≡ length s.items = ap (λ (z : Booted). length z.items) b.4.1 in
    blob_line file m lines b.2 new b.1 k n b.5 is (omega (arith, e, more))
blob_line file m (line.Write name f ∷ lines) s new own k n b is e = absurd b.4

-- the item of a line, its content, and what is held at its places, at first and where only the instance image's disk was changed
record IsKept (image : Option Instance) (h : Held) (world : World) (items : List Device) (l : PlanLine) (k : ℕ) : Type 0 where
  it : Device
  at : slice_get items k ≡ Some it
  item : IsItem it
  content : List ℕ
  content_is : world.item k ≡ Some content
  holds : HoldsDevice h it content
  stays : (now : Held) → IsSameBut image h now → LiesApart image l → HoldsDevice now it content

module _ (image : Option Instance) (means : Means) (lines : List PlanLine) (h : Held) (world : World) (booted : Exchanges) (served : AreServed lines) (new : Booted) (boots : PlainPlan means lines booted new) (true_to : AreHeld h booted)
    (measured : (k : ℕ) (it : Device) (content : List ℕ) → slice_get new.items k ≡ Some it → world.item k ≡ Some content → IsMeasured it.measure content) where
  line_kept : (l : PlanLine) (k : ℕ) → item_line lines k ≡ Some l → FitsItem h (world.item k) l → IsKept image h world new.items l k
  line_kept (line.Blob file m) k at f =
      let said = served_line lines k (line.Blob file m) served at in
      let i = device_is_item file m said.1 in
      record {
        it = device_on file m;
        at = blob_line file m lines (before_lines boots.tables boots.image means.secret means.entropy) new boots.rest k k boots.others at (omega arith);
        item = record { least = i.least; most = i.most; suits = i.suits };
        content = f.bytes;
        content_is = f.content_is;
        holds = f.holds;
        stays = λ now same apart. file_stays image h now same file (4096 * m.blocks) m f.bytes f.holds;
      }
  line_kept (line.Apk disk apk idsig how) k at f =
      let a = apk_kept means lines booted new world h k f.bytes disk apk idsig how f.measure boots served at f.content_is measured f.holds (λ call said i of. true_to call said i) in
      let held = a.held in
      record {
        it = a.it;
        at = a.at;
        item = a.item;
        content = f.bytes;
        content_is = f.content_is;
        holds = a.holds;
        stays = λ now same apart.
            subst (λ (y : Layout). HoldsAt now y a.it.measure f.bytes) (sym held.layout) (parts_stay image h now same disk held.first held.tree a.it.measure f.bytes apart held.holds);
      }
  line_kept other k at f = absurd f

-- ---- a run over what is held

some_is : (a b : List ℕ) → Some a ≡ Some b → a ≡ b
some_is a b e = cc

-- a file that is held as its line needs it has the opened file's content
content_held : (h : Held) (f : MeasuredFile) (digest : Digest) (c : Salted) → IsContentOf f c.content c.salt → HoldsReadOnly h f.file digest c.content c.salt → HoldsContent h f c.content
content_held h f digest c is r =
    let holds = r.holds in
    record {
      file = holds.file;
      there = holds.there;
      size_is = is.size;
      bytes = holds.bytes;
      tree = λ level i some low within.
          holds.tree level i some (subst (λ (n : ℕ). level ≤ top n) (sym is.tree.blocks) low) (subst (λ (n : ℕ). i < pages_at n level) (sym is.tree.blocks) within)
          ∙ ap (λ (s : List ℕ). page c.content s level i) (sym is.salt_is);
    }

some_held : (a b : Held) → Some a ≡ Some b → a ≡ b
some_held a b e = cc

module _ (g : Setting) (world : World) (plan : Known) (h : Held) (all : List Turn)
    (kept : (k : ℕ) (l : PlanLine) → item_line plan.lines k ≡ Some l → FitsItem h (world.item k) l → IsKept g.image h world g.items l k) where
  -- what is held before these turns, the last ones of all
  record IsNow (now : Held) (turns : List Turn) : Type 0 where
    same : IsSameBut g.image h now
    quiet : AreUnwritten g all → (now ≡ h) × AreUnwritten g turns

  holds_now : (now : Held) (turns : List Turn) (l : PlanLine) (k : ℕ) (d : IsKept g.image h world g.items l k) → IsNow now turns → StaysHeld g all l → HoldsDevice now d.it d.content
  holds_now now turns l k d at (inl apart) = d.stays now at.same apart
  holds_now now turns l k d at (inr unwritten) = subst (λ (z : Held). HoldsDevice z d.it d.content) (sym (at.quiet unwritten).0) d.holds

  now_next : (old : Moment) (turn : Turn) (turns : List Turn) (mid : Moment) (now : Held) → Step g world old turn mid → old.told.held ≡ Some now → NoWritables old.state → IsNow now (turn ∷ turns)
      → (next : Held) × (mid.told.held ≡ Some next) × IsNow next turns
  now_next old turn turns mid now step told bare at =
      let next = step_same g world old turn mid now bare step told in (
        next.0,
        next.1,
        record {
          same = same_on g.image h now next.0 at.same next.2;
          quiet = λ unwritten.
              let q = at.quiet unwritten in
              (some_held next.0 now (sym next.1 ∙ step_keeps g world old turn mid now bare q.1.0 step told) ∙ q.0, q.1.1);
        },
      )

  run_served : (turns : List Turn) (old new : Moment) (now : Held) → Run g world old turns new → old.told.held ≡ Some now → NoWritables old.state → IsNow now turns
      → old.told.honest ≡ true → AreOpened old.state old.heard
      → IsWorld g old.state world new.heard → old.told.scarce ≡ true → RunServed plan h (StaysHeld g all) g world old turns new
  run_served [] old new now run told bare at honest opened w scarce = run
  run_served (turn ∷ turns) old new now run told bare at honest opened w scarce =
      let mid : Moment = run.0 in
      let step : Step g world old turn mid = run.2 in
      let later = run_heard g world mid turns new run.3 in
      let here : IsWorld g old.state world mid.heard = world_first g old.state world mid.heard later.0 (subst (λ (x : Exchanges). IsWorld g old.state world x) later.1 w) in
      let wants : mid.told.scarce ≡ true = step.talked.scarce ∙ scarce in
      let same = files_kept g world old.sealings (heard_in old turn mid) (request_of turn.frame) old.state mid.state turn.sent turn.cause step.row in
      let next = now_next old turn turns mid now step told bare at in (
        mid,
        run.1,
        step,
        λ r l content request at_line stays fits is.
            let d = kept r.item l at_line fits in
            let holds = holds_now now (turn ∷ turns) l r.item d at stays in
            let served = (all_served g world old turn mid now r d.it d.content step request d.at d.item d.content_is here told holds (inr honest)).0 in
            let one : d.content ≡ content = some_is d.content content (sym d.content_is ∙ is) in
            subst (λ (z : List ℕ). IsDefined r z true turn.sent turn.cause) one (subst (λ (b : Bool). IsDefined r d.content b turn.sent turn.cause) wants served),
        λ m f offset size k name file digest request aim at_line same_file fits.
            let c : Salted = fits.known in
            let is : world.file f.file ≡ Some c = ap world.file same_file ∙ fits.content_is in
            let holds : HoldsReadOnly h f.file digest c.content c.salt = subst (λ (n : ℕ). HoldsReadOnly h n digest c.content c.salt) (sym same_file) fits.holds in
            let there = aim_file old.state.fuse m f offset size aim in
            let known = known_by g old.state world old.heard mid.heard (heard_of turn.own) step.heard opened here in
            let held = file_stays g.image h now at.same f.file f.size f.measure c.content (content_held h f digest c (known.files there.0 f c there.1 is) holds) in
            let served = (files_served g world old turn mid now m there.0 f offset size c step request aim there.1 is opened here told held (inr honest)).0 in
            subst (λ (b : Bool). IsReadDefined (number_of m) offset size c.content b turn.sent turn.cause) wants served,
        run_served turns mid new next.0 run.3 next.1 (still_none g world old turn mid step bare) next.2 (step.talked.honest ∙ honest)
            (opened_at old.state mid.state old.heard mid.heard (heard_of turn.own) same step.heard opened) (world_at g old.state mid.state world new.heard same w) wants,
      )

module _ (plan : Known) (h : Held) (mid : Told) (booted : List Made) (o : Opened) (entropy : List ℕ) (calls : List Call) (records : List TapeItem) (finish : Told) (turns : List Turn) (world : World) where
  abbrev g : Setting
  g = setting_of plan o

  abbrev first : State
  first = first_state plan o

  turns_served : AreServed plan.lines → AllOnlyRead plan.lines → BootsOver plan entropy (before h) mid booted o → AreOpened first (heard_of booted) → (r : Recorded g first (sealings_of o) booted mid calls records finish turns)
      → IsWorld g first world (heard_of booted ++ heard_of (calls_of turns))
      → AreSealed g world (moment first mid (heard_of booted) (sealings_of o)) turns (moment r.state finish (heard_of booted ++ heard_of (calls_of turns)) r.sealed) r.plain
      → RunServed plan h (StaysHeld g turns) g world (moment first mid (heard_of booted) (sealings_of o)) turns (moment r.state finish (heard_of booted ++ heard_of (calls_of turns)) r.sealed)
  turns_served served unrecorded over there r w sealed =
      let opens = over.opens in
      let told = over.talked.held in
      let boot = boot_held true booted h told.0 told.2 (lines_call plan.lines booted unrecorded (reads_only plan.lines o.writings booted (none_written plan entropy (heard_of booted) o unrecorded opens) over.calls)) in
      let mid_held : mid.held ≡ Some h = told.1 ∙ ap (λ (z : Held). Some z) boot.0 in
      let all : Exchanges = heard_of booted ++ heard_of (calls_of turns) in
      let made : Booted = record { tables = opens.tables; items = o.items; files = o.files; image = o.image; secret = plan.secret; entropy = o.left; writings = o.writings } in
      let kept : (k : ℕ) (l : PlanLine) → item_line plan.lines k ≡ Some l → FitsItem h (world.item k) l → IsKept g.image h world o.items l k = λ k l at fits.
      line_kept g.image (means_of plan entropy) plan.lines h world (heard_of booted) served made (from_plain (instance_in plan.lines) (means_of plan entropy) plan.lines (heard_of booted) made unrecorded opens.boots) boot.1 w.items l k at fits in
      run_served g world plan h turns kept turns (moment first mid (heard_of booted) (sealings_of o)) (moment r.state finish all r.sealed) h (r.run world w sealed) mid_held (none_first plan.lines unrecorded)
      (record { same = same_self g.image h; quiet = λ unwritten. (refl, unwritten) }) over.talked.honest there w over.talked.scarce

pub sessions_served : SessionsAreServed
sessions_served files plan store entropy old new ended s turns world unrecorded r w sealed =
    let planned = s.made.planned in
    let grammar = plan_takes planned.text planned.plan planned.is in
    let served = plan_served planned.text planned.plan grammar in
    let there = opened_first planned.text planned.plan (heard_of s.booted) s.opened s.bytes grammar s.boots.opens in
    turns_served planned.plan s.made.stock.held s.mid s.booted s.opened s.bytes s.calls s.records s.finish turns world served unrecorded s.boots there r w sealed

-- ---- a boot that failed

pub boots_served : BootsAreServed
boots_served files plan store entropy fault world u unrecorded fits =
    let f = u.fails in
    let k = u.made.planned.plan in
    let h : Held = u.made.stock.held in
    let start : Told = before h in
    let told = f.talked.held in
    let calls = lines_call k.lines f.own unrecorded (reads_only k.lines f.writings f.own (fault_writes k u.bytes fault f.writings (trace_of (heard_of f.own) (failures_of f.own) start f.finish) unrecorded f.is) f.calls) in
    let boot = boot_held true f.own h told.0 told.2 calls in
    f.other (fault_passes k u.bytes world h fits (trace_of (heard_of f.own) (failures_of f.own) start f.finish) boot.1 (λ call said one last serves. not_failed start f.finish f.own h call said f.talked refl (inr refl) calls one last serves) fault f.writings unrecorded f.is)

-- Over a host that holds known records alone, a session hears no other sealed form.
use Rattle.std.proofs.Common.{◌≡◌, ◌∙◌, ℕ, ◌*◌, ◌≤◌, false, true, List, [], ◌∷◌, ◌++◌, length, Option, Some, None, Result, Ok, Err, refl, ap, sym, subst, arith, inl, inr, append_assoc, append-nil}
use Rattle.std.specs.Prelude.{nat_lt, if◌then◌else◌, ◌==◌, ◌-◌, min}
use Rattle.std.specs.List.{AllByRecursion}
use Rattle.std.proofs.lemmas.Bool.Decides.{nat_tests}
use Rattle.std.proofs.lemmas.List.{length-take}
use Rattle.mg_base.specs.declared.errno.Errno.{Errno}
use Rattle.host_traits.specs.declared.calls.Call.{Call}
use Rattle.host_traits.specs.declared.calls.Call.TheVariants.{BlockRead, FileRead, TreeRead}
use Rattle.host_traits.specs.declared.calls.Said.{Said}
use Rattle.host_traits.specs.declared.calls.Said.TheVariants.{Bytes}
use Rattle.host_traits.specs.Held.{Held}
use Rattle.host_traits.specs.Told.{Made, ServesAll, HeldAfter, heard_of, exchange_of}
use Rattle.host_traits.specs.Did.{Each, IsIn, reads as reading}
use Rattle.host_traits.proofs.Doing.{each_so}
use Rattle.session_frames.specs.Replies.{Sent}
use Rattle.sha_tree.specs.Tree.{ancestor}
use Rattle.verity_path.specs.declared.device.Cause.{Cause}
use Rattle.verity_path.specs.declared.walk.Layout.{Layout}
use Rattle.verity_path.specs.declared.walk.Layout.TheVariants.{File, Parts}
use Rattle.verity_path.specs.Calls.{call_for}
use Rattle.ro_file.specs.Files.{layout_of}
use Rattle.fuse_server.specs.Aims.{Aim, says, makes, reads, loads, writes, cuts, syncs, aim_of}
use Rattle.fuse_server.specs.State.{State as Fuse}
use Rattle.fuse_server.specs.Rows.{IsForFuse}
use Rattle.fuse_server.proofs.Keeping.{OfFiles, all_of}
use Rattle.instance_image.specs.declared.faults.GetFault.{GetFault}
use Rattle.instance_image.specs.declared.faults.GetFault.TheVariants as gets
use Rattle.instance_image.specs.declared.faults.PutFault.{PutFault}
use Rattle.instance_image.specs.declared.values.Part.{Part}
use Rattle.instance_image.specs.Records.{Kept, IsLaid, fits_in, keep_size}
use Rattle.instance_image.specs.Access.{HasRecord, IsGetCall, GetOutcome, PutOutcome, payload_size, sealing_of}
use Rattle.instance_image.specs.Promised.{PutLeaves}
use Rattle.instance_image.specs.Sealings.{Sealing, OnlySealed}
use Rattle.instance_image.proofs.Others.{records_kept, put_right, one_left}
use Rattle.instance_image.proofs.Hearing.{gets_hear_sealed}
use Rattle.instance_image.proofs.Promises.{none_answered}
use Rattle.guest_rules.specs.Machine.{Instance, Setting, State, World, nowhere, Moment, moment, Turn, Request, message_of, read_of, get_of, put_of, request_of, image_with}
use Rattle.guest_rules.specs.RecordRow.{GetRow, no_image, got, get_cause, IsForGet, IsForPut, PutRow, no_image as no_image_put, refused, no_entropy, put, nonce_of, put_sealings, sealing_if}
use Rattle.guest_rules.specs.Step.{Step, Row, IsFor, most_for, seals, trace, heard_in}
use Rattle.guest_rules.specs.Run.{Run, AreSealed, HeardOnlySealed}
use Rattle.guest_cli.specs.Booted.{setting_of, first_state, sealings_of}
use Rattle.guest_laws.specs.Sessions.{WritesNone, IsGetDefined, whole, no_room}
use Rattle.guest_laws.specs.Seals.{LiesInFile, ReadsNoSectors, HoldsKnown, HonestHostsForgeNone, GetsCauseNone}
use Rattle.guest_laws.proofs.Asking.{boot_held}
use Rattle.guest_laws.proofs.Boots.{lines_call}
use Rattle.guest_laws.proofs.Gets.{get_served}
use Rattle.guest_laws.proofs.Keeping.{first_laid}
use Rattle.guest_laws.proofs.Unrecorded.{none_written, none_sealed, reads_only}
use Rattle.guest_laws.proofs.Laid.{IsImageLaid, row_laid, fault_keeps}
use Rattle.guest_laws.proofs.Puts.{did, laid_in}
use Rattle.guest_laws.proofs.Staying.{NoWritables, none_at, still_none, none_first, step_keeps}

-- ---- calls that read no sectors

abbrev ReadsSectors : Call → Type 0
ReadsSectors (BlockRead disk sector count) = Unit {0}
ReadsSectors other = ⊥

abbrev IsUnsealed : Call → List ℕ → Type 0
IsUnsealed call given = ReadsSectors call → ⊥

heard_one : (call : Call) (came : Option Said) (own : List Made) (disk sector count : ℕ) (bytes : List ℕ) → (ReadsSectors call → ⊥) → (IsIn (BlockRead disk sector count) (Bytes bytes) (heard_of own) → ⊥)
    → IsIn (BlockRead disk sector count) (Bytes bytes) (exchange_of call came ++ heard_of own) → ⊥
heard_one call None own disk sector count bytes unread later i = later i
heard_one call (Some said) own disk sector count bytes unread later (inl e) = unread (subst ReadsSectors (ap (λ (x : Call × Said). x.0) e) tt)
heard_one call (Some said) own disk sector count bytes unread later (inr i) = later i

no_sectors : (own : List Made) → Each IsUnsealed own → (disk sector count : ℕ) (bytes : List ℕ) → IsIn (BlockRead disk sector count) (Bytes bytes) (heard_of own) → ⊥
no_sectors [] each disk sector count bytes i = i
no_sectors (m ∷ own) each disk sector count bytes i = heard_one m.call m.came own disk sector count bytes each.0 (λ later. no_sectors own each.1 disk sector count bytes later) i

none_heard : (salt secret : List ℕ) (sealings : List Sealing) (own : List Made) → Each IsUnsealed own → OnlySealed salt secret sealings (heard_of own)
none_heard salt secret sealings own each z heard = absurd (no_sectors own each heard.disk heard.sector heard.count heard.bytes heard.was_heard)

in_file : (layout : Layout) (count level i : ℕ) → LiesInFile layout → ReadsSectors (call_for layout count level i) → ⊥
in_file (File file size) count level i lies =
    elim (level == 0) as (λ v. ReadsSectors (if v then FileRead file (4096 * i) (min (size - 4096 * i) 4096) else TreeRead file level i) → ⊥) [ true ↦ λ s. s | false ↦ λ s. s ]
in_file (Parts disk first tree) count level i lies = absurd lies

message_asks : (fuse : Fuse) (aim : Result Aim Errno) (call : Call) (given : List ℕ) → fuse.writables ≡ [] → OfFiles fuse aim → IsForFuse aim call given → ReadsSectors call → ⊥
message_asks fuse (Err e) call given none of f s = f
message_asks fuse (Ok (says a)) call given none of f s = f
message_asks fuse (Ok (makes a)) call given none of f s = f
message_asks fuse (Ok (loads n file offset size)) call given none of f s = none_at fuse.writables n file none of
message_asks fuse (Ok (writes n file offset new)) call given none of f s = none_at fuse.writables n file none of.0
message_asks fuse (Ok (cuts n file node size)) call given none of f s = none_at fuse.writables n file none of.0
message_asks fuse (Ok (syncs n file)) call given none of f s = none_at fuse.writables n file none of
message_asks fuse (Ok (reads file offset size)) call given none of f s =
    let p = f.0.path in
    in_file (layout_of file) file.measure.blocks p.level (ancestor f.0.block p.level) tt (subst ReadsSectors p.call_is s)

put_asks : (image : Option Instance) (s : State) (uuid text : List ℕ) (call : Call) (given : List ℕ) → IsForPut image s uuid text call given → ReadsSectors call → ⊥
put_asks None s uuid text call given f sectors = f
put_asks (Some i) s uuid text call given f sectors = subst ReadsSectors f.call_is sectors

-- ---- one turn

defined_none : (text : List ℕ) (sent : Sent) (cause : Option Cause) → IsGetDefined text sent cause → cause ≡ None
defined_none text sent cause whole = refl
defined_none text sent cause no_room = refl

holds_more : (image : Option Instance) (parts : List Part) (h : Held) (x y : List Sealing) → HoldsKnown image parts h x → HoldsKnown image parts h (x ++ y)
holds_more None parts h x y holds = tt
holds_more (Some i) parts h x y holds = λ uuid p found. elim (holds uuid p found) [
  | inl none ↦ inl none
  | inr one ↦ inr (record { sealing = one.sealing; was = one_left x y one.sealing one.was; uuid_is = one.uuid_is; holds = one.holds })
]

module _ (g : Setting) (earlier : List Sealing) (old : Moment) (turn : Turn) (mid : Moment) (step : Step g nowhere old turn mid) (bare : NoWritables old.state) (now : Held) (told : old.told.held ≡ Some now)
    (holds : HoldsKnown g.image old.state.parts now (earlier ++ old.sealings)) where
  row_at : (request : Request) → request_of turn.frame ≡ request → Row g nowhere old.sealings (heard_in old turn mid) request old.state mid.state turn.sent turn.cause
  row_at request is = subst (λ (q : Request). Row g nowhere old.sealings (heard_in old turn mid) q old.state mid.state turn.sent turn.cause) is step.row

  calls_at : (request : Request) → request_of turn.frame ≡ request → Each (IsFor g old.state request) turn.own
  calls_at request is = subst (λ (q : Request). Each (IsFor g old.state q) turn.own) is step.calls

  after : (k : Held) × (mid.told.held ≡ Some k) × ServesAll old.told.honest now turn.own k
  after = subst (λ (o : Option Held). HeldAfter old.told.honest o turn.own mid.told.held) told step.talked.held

  heard_by : (request : Request) → request_of turn.frame ≡ request → ReadsNoSectors g request → (i : Instance) → g.image ≡ Some i → OnlySealed i.salt i.secret (earlier ++ old.sealings) (heard_of turn.own)
  heard_by (message_of m) is unread i image =
      none_heard i.salt i.secret (earlier ++ old.sealings) turn.own
      (each_so (IsFor g old.state (message_of m)) IsUnsealed turn.own (λ call given f. message_asks old.state.fuse (aim_of old.state.fuse m) call given bare (all_of old.state.fuse m) f) (calls_at (message_of m) is))
  heard_by (read_of r) is unread i image =
      none_heard i.salt i.secret (earlier ++ old.sealings) turn.own
      (each_so (IsFor g old.state (read_of r)) IsUnsealed turn.own (λ call given f s.
      let p = f.2.0.path in in_file f.0.layout f.0.measure.blocks p.level (ancestor f.2.0.block p.level) (unread f.0 f.1) (subst ReadsSectors p.call_is s)) (calls_at (read_of r) is))
  heard_by (get_of uuid) is unread i image =
      gets_hear_sealed (image_with i old.state.parts) i.secret uuid (earlier ++ old.sealings) now after.0 old.told.honest turn.own
      (subst (λ (o : Option Instance). HoldsKnown o old.state.parts now (earlier ++ old.sealings)) image holds)
      (subst (λ (q : Request). length turn.own ≤ most_for g old.state q) is step.few)
      (each_so (IsFor g old.state (get_of uuid)) (reading (IsGetCall (image_with i old.state.parts) uuid)) turn.own
      (λ call given f. subst (λ (o : Option Instance). IsForGet o old.state.parts uuid call given) image f) (calls_at (get_of uuid) is)) after.2
  heard_by (put_of uuid text) is unread i image =
      none_heard i.salt i.secret (earlier ++ old.sealings) turn.own
      (each_so (IsFor g old.state (put_of uuid text)) IsUnsealed turn.own (λ call given f. put_asks g.image old.state uuid text call given f) (calls_at (put_of uuid text) is))

  turn_heard : ReadsNoSectors g (request_of turn.frame) → HeardOnlySealed g.image (Some earlier) old.sealings (heard_of turn.own)
  turn_heard unread = by_image g.image refl where
    by_image : (image : Option Instance) → g.image ≡ image → HeardOnlySealed image (Some earlier) old.sealings (heard_of turn.own)
    by_image None e = tt
    by_image (Some i) e = heard_by (request_of turn.frame) refl unread i e

  -- what the host holds after it is known too
  record IsKnownAfter : Type 0 where
    held : Held
    held_is : mid.told.held ≡ Some held
    known : HoldsKnown g.image mid.state.parts held (earlier ++ mid.sealings)

  with_sealings : (request : Request) → request_of turn.frame ≡ request → (earlier ++ old.sealings) ++ seals g old.state request ≡ earlier ++ mid.sealings
  with_sealings request is =
      append_assoc earlier old.sealings (seals g old.state request)
      ∙ ap (λ (x : List Sealing). earlier ++ x) (sym (step.sealings ∙ ap (λ (q : Request). old.sealings ++ seals g old.state q) is))

  still : mid.state.parts ≡ old.state.parts → mid.told.held ≡ Some now → IsKnownAfter
  still parts held = record {
    held = now;
    held_is = held;
    known = subst (λ (x : List Sealing). HoldsKnown g.image mid.state.parts now x) (with_sealings (request_of turn.frame) refl)
        (holds_more g.image mid.state.parts now (earlier ++ old.sealings) (seals g old.state (request_of turn.frame))
        (subst (λ (ps : List Part). HoldsKnown g.image ps now (earlier ++ old.sealings)) (sym parts) holds));
  }

  keeps : (request : Request) → request_of turn.frame ≡ request → WritesNone g request → mid.told.held ≡ Some now
  keeps request is none = step_keeps g nowhere old turn mid now bare (subst (WritesNone g) (sym is) none) step told

  quiet : heard_of turn.own ≡ [] → mid.told.held ≡ Some now
  quiet none = after.1 ∙ ap (λ (h : Held). Some h) (none_answered old.told.honest turn.own now after.0 none after.2)

  module _ (uuid text : List ℕ) (request : request_of turn.frame ≡ put_of uuid text) (i : Instance) (image : g.image ≡ Some i) (laid : IsLaid (image_with i old.state.parts)) (some : 12 ≤ length old.state.entropy) where
    nonce_len : length (nonce_of old.state) ≡ 12
    nonce_len = omega (arith, some, length-take 12 old.state.entropy)

    leaves : (result : Result (Unit {0}) PutFault) → PutOutcome (image_with i old.state.parts) uuid text (image_with i mid.state.parts) result (trace old turn mid)
        → PutLeaves (image_with i old.state.parts) i.secret uuid (nonce_of old.state) text now mid.told.held result
    leaves result outcome =
        let d = did g nowhere old turn mid step i uuid text request image result outcome in
        (put_right (image_with i old.state.parts) i.secret uuid (nonce_of old.state) text old.told mid.told (image_with i mid.state.parts) result laid nonce_len d).leaves now told

    sealed_is : (p : Part) → fits_in old.state.parts uuid (length text) ≡ Ok p → seals g old.state (put_of uuid text) ≡ sealing_of p uuid (nonce_of old.state) text ∷ []
    sealed_is p fits =
        let enough : nat_lt (length old.state.entropy) 12 ≡ false = grind (arith, nat_tests) in
        let z : Sealing = sealing_of p uuid (nonce_of old.state) text in
        ap (λ (o : Option Instance). put_sealings o old.state uuid text) image
        ∙ ap (λ (r : Result Part PutFault). sealing_if r uuid old.state text) fits
        ∙ ap (λ b. if b then [] else z ∷ []) enough

    by_result : (result : Result (Unit {0}) PutFault) → PutOutcome (image_with i old.state.parts) uuid text (image_with i mid.state.parts) result (trace old turn mid) → IsKnownAfter
    by_result (Ok u) outcome =
        let k : Kept = image_with i old.state.parts in
        let known = subst (λ (o : Option Instance). HoldsKnown o old.state.parts now (earlier ++ old.sealings)) image holds in
        let a = records_kept k i.secret uuid (nonce_of old.state) text (earlier ++ old.sealings) now mid.told.held (leaves (Ok tt) outcome) known in
        let parts : mid.state.parts ≡ keep_size old.state.parts uuid (payload_size text) = ap (λ (x : Kept). x.parts) outcome.1.now_is in
        let sealings : (earlier ++ old.sealings) ++ sealing_of a.part uuid (nonce_of old.state) text ∷ [] ≡ earlier ++ mid.sealings =
        ap (λ (x : List Sealing). (earlier ++ old.sealings) ++ x) (sym (sealed_is a.part a.fits)) ∙ with_sealings (put_of uuid text) request in
        record {
          held = a.held;
          held_is = a.held_is;
          known = subst (λ (o : Option Instance). HoldsKnown o mid.state.parts a.held (earlier ++ mid.sealings)) (sym image)
              (subst (λ (ps : List Part). HoldsKnown (Some i) ps a.held (earlier ++ mid.sealings)) (sym parts)
              (subst (λ (x : List Sealing). HoldsKnown (Some i) (keep_size old.state.parts uuid (payload_size text)) a.held x) sealings a.holds));
        }
    by_result (Err why) outcome =
        still (ap (λ (x : Kept). x.parts) (fault_keeps (image_with i old.state.parts) (image_with i mid.state.parts) uuid text why (trace old turn mid) outcome)) (leaves (Err why) outcome)

  by_put : (uuid text : List ℕ) → request_of turn.frame ≡ put_of uuid text → IsImageLaid g.image old.state.parts → (sent : Sent) (cause : Option Cause)
      → PutRow g.image (trace old turn mid) uuid text old.state mid.state sent cause → IsKnownAfter
  by_put uuid text is laid sent cause (no_image_put none none_made same) = still (ap (λ (s : State). s.parts) same) (quiet none_made.own)
  by_put uuid text is laid sent cause (refused i why there fit none_made same) = still (ap (λ (s : State). s.parts) same) (quiet none_made.own)
  by_put uuid text is laid sent cause (no_entropy i part there fit few none_made same) = still (ap (λ (s : State). s.parts) same) (quiet none_made.own)
  by_put uuid text is laid sent cause (put i part result there fit some outcome same) =
      by_result uuid text is i there (laid_in g.image i old.state.parts there laid) some result outcome

  turn_known : IsImageLaid g.image old.state.parts → (request : Request) → request_of turn.frame ≡ request → IsKnownAfter
  turn_known laid (message_of m) is = still (row_at (message_of m) is).1 (keeps (message_of m) is tt)
  turn_known laid (read_of r) is = still (ap (λ (s : State). s.parts) (row_at (read_of r) is).0) (keeps (read_of r) is tt)
  turn_known laid (get_of uuid) is = still (ap (λ (s : State). s.parts) (row_at (get_of uuid) is).0) (keeps (get_of uuid) is tt)
  turn_known laid (put_of uuid text) is = by_put uuid text is laid turn.sent turn.cause (row_at (put_of uuid text) is)

  -- ---- a get

  module _ (honest : old.told.honest ≡ true) (uuid : List ℕ) (request : request_of turn.frame ≡ get_of uuid) (i : Instance) (image : g.image ≡ Some i) where
    stands : (p : Part) → HasRecord (image_with i old.state.parts) uuid p → turn.cause ≡ None
    stands p has = elim (subst (λ (o : Option Instance). HoldsKnown o old.state.parts now (earlier ++ old.sealings)) image holds uuid p has.found) [
      | inl none ↦ absurd (omega (arith, none, has.least))
      | inr one ↦ (
          let at = one.holds in
          defined_none one.sealing.text turn.sent turn.cause (get_served g nowhere old turn mid step honest i uuid one.sealing request image (record {
            named = one.uuid_is;
            part = p;
            found = has.found;
            held = now;
            held_is = told;
            holds = record { disk = at.disk; is = at.is; room = at.room; begins = at.begins; size_is = at.size_is };
          })))
    ]

    by_outcome : (result : Result (List ℕ) GetFault) → GetOutcome (image_with i old.state.parts) i.secret uuid result (trace old turn mid) → turn.cause ≡ get_cause result → turn.cause ≡ None
    by_outcome (Ok text) outcome e = e
    by_outcome (Err gets.NoRecord) outcome e = e
    by_outcome (Err gets.Memory) outcome e = e
    by_outcome (Err (gets.Failed faults)) outcome e = stands outcome.1.for.part outcome.1.for.has
    by_outcome (Err (gets.Short asked came)) outcome e = stands outcome.0.part outcome.0.has
    by_outcome (Err (gets.Changed sector)) outcome e = stands outcome.part outcome.has
    by_outcome (Err (gets.Tag tag)) outcome e = stands outcome.part outcome.has

  by_get : (uuid : List ℕ) → request_of turn.frame ≡ get_of uuid → old.told.honest ≡ true → (sent : Sent) (cause : Option Cause)
      → GetRow g.image old.state.parts nowhere old.sealings (trace old turn mid) uuid sent cause → turn.cause ≡ cause → turn.cause ≡ None
  by_get uuid is honest sent cause (no_image none quiet) e = e
  by_get uuid is honest sent cause (got i result there outcome known) e = by_outcome honest uuid is i there result outcome e

  get_causes_none : old.told.honest ≡ true → (uuid : List ℕ) → request_of turn.frame ≡ get_of uuid → turn.cause ≡ None
  get_causes_none honest uuid is = by_get uuid is honest turn.sent turn.cause (row_at (get_of uuid) is).1 refl

-- ---- a session

run_sealed : (g : Setting) (world : World) (earlier : List Sealing) → world.sealed ≡ Some earlier → (turns : List Turn) (old new : Moment) (run : Run g nowhere old turns new) (now : Held)
    → old.told.held ≡ Some now → NoWritables old.state → IsImageLaid g.image old.state.parts → HoldsKnown g.image old.state.parts now (earlier ++ old.sealings)
    → AllByRecursion (λ t. ReadsNoSectors g (request_of t.frame)) turns → AreSealed g world old turns new run
run_sealed g world earlier known [] old new run now told bare laid holds unread = tt
run_sealed g world earlier known (turn ∷ turns) old new run now told bare laid holds unread =
    let mid : Moment = run.0 in
    let step : Step g nowhere old turn mid = run.2 in
    let next = turn_known g earlier old turn mid step bare now told holds laid (request_of turn.frame) refl in (
      subst (λ (o : Option (List Sealing)). HeardOnlySealed g.image o old.sealings (heard_of turn.own)) (sym known) (turn_heard g earlier old turn mid step bare now told holds unread.0),
      run_sealed g world earlier known turns mid new run.3 next.held next.held_is (still_none g nowhere old turn mid step bare)
          (row_laid g nowhere old.sealings (heard_in old turn mid) (request_of turn.frame) old.state mid.state turn.sent turn.cause step.row laid) next.known unread.1,
    )

pub none_forged : HonestHostsForgeNone
none_forged files plan store entropy old new ended s turns world earlier unrecorded r known fits records unread =
    let p = s.made.planned.plan in
    let h : Held = s.made.stock.held in
    let told = s.boots.talked.held in
    let boot = boot_held true s.booted h told.0 told.2 (lines_call p.lines s.booted unrecorded (reads_only p.lines s.opened.writings s.booted (none_written p s.bytes (heard_of s.booted) s.opened unrecorded s.boots.opens) s.boots.calls)) in
    let g : Setting = setting_of p s.opened in
    let first : State = first_state p s.opened in
    run_sealed g world earlier known turns (moment first s.mid (heard_of s.booted) (sealings_of s.opened)) _ r.plain h (told.1 ∙ ap (λ (z : Held). Some z) boot.0) (none_first p.lines unrecorded)
    (first_laid p s.bytes h (heard_of s.booted) s.opened unrecorded s.boots.opens boot.1 fits)
    (subst (λ (x : List Sealing). HoldsKnown g.image first.parts h x) (sym (ap (λ (z : List Sealing). earlier ++ z) (none_sealed p s.bytes (heard_of s.booted) s.opened unrecorded s.boots.opens) ∙ append-nil earlier)) records) unread

run_gets : (g : Setting) (earlier : List Sealing) (turns : List Turn) (old new : Moment) (run : Run g nowhere old turns new) (now : Held) → old.told.held ≡ Some now → NoWritables old.state → old.told.honest ≡ true
    → IsImageLaid g.image old.state.parts → HoldsKnown g.image old.state.parts now (earlier ++ old.sealings)
    → AllByRecursion (λ t. (uuid : List ℕ) → request_of t.frame ≡ get_of uuid → t.cause ≡ None) turns
run_gets g earlier [] old new run now told bare honest laid holds = tt
run_gets g earlier (turn ∷ turns) old new run now told bare honest laid holds =
    let mid : Moment = run.0 in
    let step : Step g nowhere old turn mid = run.2 in
    let next = turn_known g earlier old turn mid step bare now told holds laid (request_of turn.frame) refl in (
      get_causes_none g earlier old turn mid step bare now told holds honest,
      run_gets g earlier turns mid new run.3 next.held next.held_is (still_none g nowhere old turn mid step bare) (step.talked.honest ∙ honest)
          (row_laid g nowhere old.sealings (heard_in old turn mid) (request_of turn.frame) old.state mid.state turn.sent turn.cause step.row laid) next.known,
    )

pub gets_none : GetsCauseNone
gets_none files plan store entropy old new ended s turns earlier unrecorded r fits records =
    let p = s.made.planned.plan in
    let h : Held = s.made.stock.held in
    let told = s.boots.talked.held in
    let boot = boot_held true s.booted h told.0 told.2 (lines_call p.lines s.booted unrecorded (reads_only p.lines s.opened.writings s.booted (none_written p s.bytes (heard_of s.booted) s.opened unrecorded s.boots.opens) s.boots.calls)) in
    let g : Setting = setting_of p s.opened in
    let first : State = first_state p s.opened in
    run_gets g earlier turns (moment first s.mid (heard_of s.booted) (sealings_of s.opened)) _ r.plain h (told.1 ∙ ap (λ (z : Held). Some z) boot.0) (none_first p.lines unrecorded) s.boots.talked.honest
    (first_laid p s.bytes h (heard_of s.booted) s.opened unrecorded s.boots.opens boot.1 fits)
    (subst (λ (x : List Sealing). HoldsKnown g.image first.parts h x) (sym (ap (λ (z : List Sealing). earlier ++ z) (none_sealed p s.bytes (heard_of s.booted) s.opened unrecorded s.boots.opens) ∙ append-nil earlier)) records)

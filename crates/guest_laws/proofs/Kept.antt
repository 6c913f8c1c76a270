-- A record that stands, stands after each turn but a put into its UUID that is answered with 0.
use Rattle.std.proofs.Common.{◌≡◌, ◌≢◌, ◌∙◌, ℕ, List, [], ◌≤◌, length, Option, Some, Result, Ok, Err, refl, ap, sym, subst, arith}
use Rattle.std.proofs.lemmas.List.{length-take}
use Rattle.host_traits.specs.Held.{Held}
use Rattle.host_traits.specs.Told.{HeldAfter, heard_of}
use Rattle.session_frames.specs.Replies.{Sent, sent_code}
use Rattle.verity_path.specs.declared.device.Cause.{Cause}
use Rattle.instance_image.specs.declared.faults.PutFault.{PutFault}
use Rattle.instance_image.specs.declared.values.Part.{Part}
use Rattle.instance_image.specs.Records.{Kept, IsLaid, find_part, keep_size}
use Rattle.instance_image.specs.Access.{PutOutcome, payload_size}
use Rattle.instance_image.specs.Promised.{PutStands, PutLeaves}
use Rattle.instance_image.specs.Sealings.{Sealing}
use Rattle.instance_image.proofs.Others.{others_kept, put_right}
use Rattle.instance_image.proofs.Promises.{none_answered}
use Rattle.guest_rules.specs.Machine.{Instance, Setting, State, World, Moment, Turn, Request, request_of, message_of, read_of, get_of, put_of, image_with}
use Rattle.guest_rules.specs.RecordRow.{PutRow, no_image, refused, no_entropy, put, put_code, nonce_of}
use Rattle.guest_rules.specs.Step.{Step, Row, trace, heard_in}
use Rattle.guest_laws.specs.Sessions.{WritesNone, RecordStands, IsRecordKept}
use Rattle.guest_laws.proofs.Gets.{same_instance, no_instance}
use Rattle.guest_laws.proofs.Laid.{IsImageLaid, fault_keeps}
use Rattle.guest_laws.proofs.Puts.{did, laid_in}
use Rattle.guest_laws.proofs.Staying.{NoWritables, step_keeps}

-- the same parts, and the same held
module _ (i : Instance) (uuid : List ℕ) (z : Sealing) (old new : Moment) (r : RecordStands i uuid z old) where
  still : new.state.parts ≡ old.state.parts → new.told.held ≡ Some r.held → RecordStands i uuid z new
  still same held =
      let h = r.holds in
      record {
        named = r.named;
        part = r.part;
        found = ap (λ (ps : List Part). find_part ps uuid) same ∙ r.found;
        held = r.held;
        held_is = held;
        holds = record { disk = h.disk; is = h.is; room = h.room; begins = h.begins; size_is = h.size_is };
      }

module _ (g : Setting) (world : World) (old : Moment) (turn : Turn) (new : Moment) (step : Step g world old turn new) (i : Instance) (uuid text : List ℕ)
    (request : request_of turn.frame ≡ put_of uuid text) (image : g.image ≡ Some i) (laid : IsLaid (image_with i old.state.parts))
    (other : List ℕ) (z : Sealing) (apart : turn.sent ≡ sent_code 3 0 → other ≢ uuid) (r : RecordStands i other z old) where
  leaves : (result : Result (Unit {0}) PutFault) → 12 ≤ length old.state.entropy → PutOutcome (image_with i old.state.parts) uuid text (image_with i new.state.parts) result (trace old turn new)
      → PutLeaves (image_with i old.state.parts) i.secret uuid (nonce_of old.state) text r.held new.told.held result
  leaves result some outcome =
      let nonce_len : length (nonce_of old.state) ≡ 12 = omega (arith, some, length-take 12 old.state.entropy) in
      let d = did g world old turn new step i uuid text request image result outcome in
      (put_right (image_with i old.state.parts) i.secret uuid (nonce_of old.state) text old.told new.told (image_with i new.state.parts) result laid nonce_len d).leaves r.held r.held_is

  answered : other ≢ uuid → PutOutcome (image_with i old.state.parts) uuid text (image_with i new.state.parts) (Ok tt) (trace old turn new)
      → PutStands (image_with i old.state.parts) i.secret uuid (nonce_of old.state) text r.held new.told.held → RecordStands i other z new
  answered differs outcome s =
      let n = s.others other r.part z differs r.found r.holds in
      let h = n.holds in
      let parts : new.state.parts ≡ keep_size old.state.parts uuid (payload_size text) = ap (λ (k : Kept). k.parts) outcome.1.now_is in
      record {
        named = r.named;
        part = r.part;
        found = ap (λ (ps : List Part). find_part ps other) parts ∙ others_kept old.state.parts uuid other (payload_size text) differs ∙ r.found;
        held = n.held;
        held_is = n.held_is;
        holds = record { disk = h.disk; is = h.is; room = h.room; begins = h.begins; size_is = h.size_is };
      }

  by_result : (result : Result (Unit {0}) PutFault) → 12 ≤ length old.state.entropy → PutOutcome (image_with i old.state.parts) uuid text (image_with i new.state.parts) result (trace old turn new)
      → (put_code result ≡ 0 → turn.sent ≡ sent_code 3 0) → RecordStands i other z new
  by_result (Ok u) some outcome sent = answered (apart (sent refl)) outcome (leaves (Ok tt) some outcome)
  by_result (Err why) some outcome sent =
      still i other z old new r (ap (λ (k : Kept). k.parts) (fault_keeps (image_with i old.state.parts) (image_with i new.state.parts) uuid text why (trace old turn new) outcome)) (leaves (Err why) some outcome)

  -- without a call nothing that is held changes
  quiet_held : heard_of turn.own ≡ [] → new.told.held ≡ Some r.held
  quiet_held none =
      let after = subst (λ (o : Option Held). HeldAfter old.told.honest o turn.own new.told.held) r.held_is step.talked.held in
      after.1 ∙ ap (λ (h : Held). Some h) (none_answered old.told.honest turn.own r.held after.0 none after.2)

  by_row : (sent : Sent) (cause : Option Cause) → PutRow g.image (trace old turn new) uuid text old.state new.state sent cause → turn.sent ≡ sent → RecordStands i other z new
  by_row sent cause (no_image none quiet same) e = absurd (no_instance i (sym image ∙ none))
  by_row sent cause (refused j why there fit quiet same) e = still i other z old new r (ap (λ (s : State). s.parts) same) (quiet_held quiet.own)
  by_row sent cause (no_entropy j part there fit few quiet same) e = still i other z old new r (ap (λ (s : State). s.parts) same) (quiet_held quiet.own)
  by_row sent cause (put j part result there fit some outcome is) e =
      let same : j ≡ i = same_instance j i (sym there ∙ image) in
      by_result result some (subst (λ (k : Instance). PutOutcome (image_with k old.state.parts) uuid text (image_with k new.state.parts) result (trace old turn new)) same outcome)
      (λ zero. e ∙ ap (λ (n : ℕ). sent_code 3 n) zero)

  put_leaves : RecordStands i other z new
  put_leaves = by_row turn.sent turn.cause (subst (λ (q : Request). Row g world old.sealings (heard_in old turn new) q old.state new.state turn.sent turn.cause) request step.row) refl

pub record_kept : (Imaged : Type 0) (g : Setting) (world : World) (old : Moment) (turn : Turn) (new : Moment) → Step g world old turn new → NoWritables old.state → (Imaged → IsImageLaid g.image old.state.parts)
    → IsRecordKept Imaged g old turn new
record_kept Imaged g world old turn new step bare laid imaged i uuid z image unput r = by_request (request_of turn.frame) refl where
  row_at : (request : Request) → request_of turn.frame ≡ request → Row g world old.sealings (heard_in old turn new) request old.state new.state turn.sent turn.cause
  row_at request is = subst (λ (q : Request). Row g world old.sealings (heard_in old turn new) q old.state new.state turn.sent turn.cause) is step.row

  keeps : (request : Request) → request_of turn.frame ≡ request → WritesNone g request → new.told.held ≡ Some r.held
  keeps request is none = step_keeps g world old turn new r.held bare (subst (WritesNone g) (sym is) none) step r.held_is

  by_request : (request : Request) → request_of turn.frame ≡ request → RecordStands i uuid z new
  by_request (message_of m) is = still i uuid z old new r (row_at (message_of m) is).1 (keeps (message_of m) is tt)
  by_request (read_of q) is = still i uuid z old new r (ap (λ (s : State). s.parts) (row_at (read_of q) is).0) (keeps (read_of q) is tt)
  by_request (get_of u) is = still i uuid z old new r (ap (λ (s : State). s.parts) (row_at (get_of u) is).0) (keeps (get_of u) is tt)
  by_request (put_of u text) is =
      put_leaves g world old turn new step i u text is image (laid_in g.image i old.state.parts image (laid imaged)) uuid z
      (λ sent same. unput text (is ∙ ap (λ (x : List ℕ). put_of x text) (sym same)) sent) r

-- A put that was answered with 0 has left its record.
use Rattle.std.proofs.Common.{◌≡◌, ◌≤◌, ◌∙◌, ℕ, List, length, Option, Some, Result, Ok, Err, refl, ap, sym, subst, inr, true, arith}
use Rattle.std.proofs.lemmas.List.{length-take}
use Rattle.host_traits.specs.declared.calls.Call.{Call}
use Rattle.host_traits.specs.Held.{Held}
use Rattle.host_traits.proofs.Doing.{each_so}
use Rattle.session_frames.specs.Replies.{Sent, sent_code}
use Rattle.verity_path.specs.declared.device.Cause.{Cause}
use Rattle.instance_image.specs.declared.faults.PutFault.{PutFault}
use Rattle.instance_image.specs.declared.faults.PutFault.TheVariants as puts
use Rattle.instance_image.specs.declared.values.Part.{Part}
use Rattle.instance_image.specs.Records.{Kept, IsLaid, find_part, fits_in, keep_size}
use Rattle.instance_image.specs.Promised.{MayBeWritten, PutOrMemory}
use Rattle.instance_image.specs.Access.{PutOutcome, IsPutting, payload_size, sealing_of}
use Rattle.instance_image.specs.Staying.{resized_part}
use Rattle.instance_image.proofs.Accesses.{fits_found}
use Rattle.instance_image.proofs.Others.{sizes_kept, right}
use Rattle.instance_image.proofs.Promises.{DidPut, puts_held, puts_hold}
use Rattle.guest_rules.specs.Machine.{Instance, Setting, World, Moment, Turn, Request, request_of, put_of, image_with}
use Rattle.guest_rules.specs.RecordRow.{PutRow, no_image, refused, no_entropy, put, put_code, put_cause, nonce_of, IsForPut}
use Rattle.guest_rules.specs.Step.{Step, Row, IsFor, most_for, trace, heard_in}
use Rattle.guest_laws.specs.Sessions.{IsWritten, IsPutKept, IsPutDefined, written, out_of_memory, IsPutServed}
use Rattle.guest_laws.proofs.Laid.{IsImageLaid}
use Rattle.guest_laws.proofs.Gets.{same_instance, no_instance}

code_is : (a b : ℕ) → sent_code 3 a ≡ sent_code 3 b → a ≡ b
code_is a b e = cc

fault_code : (why : PutFault) → put_code (Err why) ≡ 0 → ⊥
fault_code puts.NoRecord e = absurd (omega (arith, e))
fault_code (puts.TooLarge text room) e = absurd (omega (arith, e))
fault_code puts.Memory e = absurd (omega (arith, e))
fault_code (puts.Failed faults) e = absurd (omega (arith, e))

module _ (g : Setting) (world : World) (old : Moment) (turn : Turn) (new : Moment) (step : Step g world old turn new) (i : Instance) (uuid text : List ℕ)
    (request : request_of turn.frame ≡ put_of uuid text) (image : g.image ≡ Some i) where
  abbrev kept : Kept
  kept = image_with i old.state.parts

  abbrev nonce : List ℕ
  nonce = nonce_of old.state

  call_is : (call : Call) (given : List ℕ) → IsFor g old.state (request_of turn.frame) call given → IsPutting kept i.secret uuid nonce text call given
  call_is call given f =
      subst (λ (o : Option Instance). IsForPut o old.state uuid text call given) image (subst (λ (q : Request). IsFor g old.state q call given) request f)

  pub did : (r : Result (Unit {0}) PutFault) → PutOutcome kept uuid text (image_with i new.state.parts) r (trace old turn new)
      → DidPut kept i.secret uuid nonce text old.told new.told (image_with i new.state.parts) r
  did r outcome = record {
    own = turn.own;
    talked = step.talked;
    calls = each_so (IsFor g old.state (request_of turn.frame)) (IsPutting kept i.secret uuid nonce text) turn.own call_is step.calls;
    few = subst (λ (q : Request). length turn.own ≤ most_for g old.state q) request step.few;
    stops = step.stops;
    outcome = outcome;
  }

  module _ (now : Held) (uuid_len : length uuid ≡ 16) (told : old.told.held ≡ Some now) where
    leaves : 12 ≤ length old.state.entropy → PutOutcome kept uuid text (image_with i new.state.parts) (Ok tt) (trace old turn new) → IsWritten i uuid text new
    leaves some outcome =
        let nonce_len : length nonce ≡ 12 = omega (arith, some, length-take 12 old.state.entropy) in
        let left = puts_held kept i.secret uuid nonce text now old.told new.told (image_with i new.state.parts) told (did (Ok tt) outcome) in
        let put_now = puts_hold kept i.secret uuid nonce text now new.told.held uuid_len nonce_len left in
        let p : Part = put_now.part in
        let size : ℕ = payload_size text in
        let before : find_part old.state.parts uuid ≡ Some p = (fits_found old.state.parts uuid (length text) p put_now.fits).0 in
        let parts : new.state.parts ≡ keep_size old.state.parts uuid size = ap (λ (k : Kept). k.parts) outcome.1.now_is in
        let record_held = put_now.holds in
        record {
          sealing = sealing_of p uuid nonce text;
          text_is = refl;
          stands = record {
            named = refl;
            part = record p { size = size };
            found = ap (λ (ps : List Part). find_part ps uuid) parts ∙ sizes_kept old.state.parts uuid size ∙ ap (λ (o : Option Part). resized_part o size) before;
            held = put_now.held;
            held_is = put_now.held_is;
            holds = record { disk = record_held.disk; is = record_held.is; room = record_held.room; begins = record_held.begins; size_is = record_held.size_is };
          };
        }

    row_kept : (sent : Sent) (cause : Option Cause) → PutRow g.image (trace old turn new) uuid text old.state new.state sent cause → sent ≡ sent_code 3 0 → IsWritten i uuid text new
    row_kept sent cause (no_image none quiet same) e = absurd (no_instance i (sym image ∙ none))
    row_kept sent cause (refused j why there fits quiet same) e = absurd (fault_code why (code_is (put_code (Err why)) 0 e))
    row_kept sent cause (no_entropy j part there fits few quiet same) e = absurd (omega (arith, code_is 200 0 e))
    row_kept sent cause (put j part (Err why) there fits some outcome is) e = absurd (fault_code why (code_is (put_code (Err why)) 0 e))
    row_kept sent cause (put j part (Ok u) there fits some outcome is) e =
        let same : j ≡ i = same_instance j i (sym there ∙ image) in
        leaves some (subst (λ (k : Instance). PutOutcome (image_with k old.state.parts) uuid text (image_with k new.state.parts) (Ok tt) (trace old turn new)) same outcome)

    is_kept : turn.sent ≡ sent_code 3 0 → IsWritten i uuid text new
    is_kept e = row_kept turn.sent turn.cause (subst (λ (q : Request). Row g world old.sealings (heard_in old turn new) q old.state new.state turn.sent turn.cause) request step.row) e

-- ---- a put that may be made

not_fit : (p : Part) (why : PutFault) → ◌≡◌ {A = Result Part PutFault} (Ok p) (Err why) → ⊥
not_fit p why e = cc

put_defined : (r : Result (Unit {0}) PutFault) → PutOrMemory r → IsPutDefined (sent_code 3 (put_code r)) (put_cause r)
put_defined (Ok u) is = written
put_defined (Err why) is = subst (λ (f : PutFault). IsPutDefined (sent_code 3 (put_code (Err f))) (put_cause (Err f))) (sym is) out_of_memory

module _ (g : Setting) (world : World) (old : Moment) (turn : Turn) (new : Moment) (step : Step g world old turn new) (honest : old.told.honest ≡ true) (i : Instance) (uuid text : List ℕ) (p : Part) (now : Held)
    (request : request_of turn.frame ≡ put_of uuid text) (image : g.image ≡ Some i) (fits : fits_in old.state.parts uuid (length text) ≡ Ok p) (some : 12 ≤ length old.state.entropy) (told : old.told.held ≡ Some now)
    (may : MayBeWritten now (image_with i old.state.parts) p) where
  made : (r : Result (Unit {0}) PutFault) → PutOutcome (image_with i old.state.parts) uuid text (image_with i new.state.parts) r (trace old turn new) → PutOrMemory r
  made r outcome =
      right (image_with i old.state.parts) i.secret uuid (nonce_of old.state) text now p fits may old.told new.told (image_with i new.state.parts) r told (inr honest)
      (did g world old turn new step i uuid text request image r outcome)

  row_served : (sent : Sent) (cause : Option Cause) → PutRow g.image (trace old turn new) uuid text old.state new.state sent cause → IsPutDefined sent cause
  row_served sent cause (no_image none quiet same) = absurd (no_instance i (sym image ∙ none))
  row_served sent cause (refused j why there unfit quiet same) = absurd (not_fit p why (sym fits ∙ unfit))
  row_served sent cause (no_entropy j part there fit few quiet same) = absurd (omega (arith, some, few))
  row_served sent cause (put j part r there fit left outcome is) =
      let same : j ≡ i = same_instance j i (sym there ∙ image) in
      put_defined r (made r (subst (λ (k : Instance). PutOutcome (image_with k old.state.parts) uuid text (image_with k new.state.parts) r (trace old turn new)) same outcome))

  is_served : IsPutDefined turn.sent turn.cause
  is_served = row_served turn.sent turn.cause (subst (λ (q : Request). Row g world old.sealings (heard_in old turn new) q old.state new.state turn.sent turn.cause) request step.row)

pub laid_in : (image : Option Instance) (i : Instance) (parts : List Part) → image ≡ Some i → IsImageLaid image parts → IsLaid (image_with i parts)
laid_in image i parts e l = subst (λ (o : Option Instance). IsImageLaid o parts) e l

pub put_served : (g : Setting) (world : World) (old : Moment) (turn : Turn) (new : Moment) → Step g world old turn new → old.told.honest ≡ true → IsPutServed g old turn
put_served g world old turn new step honest i uuid text p now request image fits some told may = is_served g world old turn new step honest i uuid text p now request image fits some told may

pub put_kept : (g : Setting) (world : World) (old : Moment) (turn : Turn) (new : Moment) → Step g world old turn new → IsPutKept g old turn new
put_kept g world old turn new step i uuid text now request image uuid_len told sent = is_kept g world old turn new step i uuid text request image now uuid_len told sent

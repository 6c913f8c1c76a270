-- A get of a record that an honest host holds.
use Rattle.std.proofs.Common.{◌≡◌, ◌≤◌, ◌∙◌, ℕ, true, List, length, Option, Some, None, Result, Ok, Err, sym, subst, inr}
use Rattle.host_traits.specs.declared.calls.Call.{Call}
use Rattle.host_traits.specs.Held.{Held}
use Rattle.host_traits.specs.Did.{Did, reads as reading}
use Rattle.host_traits.proofs.Doing.{each_so}
use Rattle.session_frames.specs.Replies.{Sent}
use Rattle.verity_path.specs.declared.device.Cause.{Cause}
use Rattle.instance_image.specs.declared.faults.GetFault.{GetFault}
use Rattle.instance_image.specs.declared.values.Part.{Part}
use Rattle.instance_image.specs.Records.{Kept, find_part}
use Rattle.instance_image.specs.Sealings.{Sealing}
use Rattle.instance_image.specs.Access.{GetOutcome, IsGetCall}
use Rattle.instance_image.specs.Promised.{HoldsRecord, IsTextOf}
use Rattle.instance_image.proofs.Promises.{get_right}
use Rattle.guest_rules.specs.Machine.{Instance, Setting, World, Moment, Turn, Request, request_of, get_of, image_with}
use Rattle.guest_rules.specs.RecordRow.{GetRow, no_image, got, get_sent, get_cause, IsForGet}
use Rattle.guest_rules.specs.Step.{Step, Row, IsFor, most_for, trace, heard_in}
use Rattle.guest_laws.specs.Sessions.{IsGetDefined, whole, no_room, IsGetServed}

pub same_instance : (a b : Instance) → Some a ≡ Some b → a ≡ b
same_instance a b e = cc

pub no_instance : (i : Instance) → Some i ≡ None → ⊥
no_instance i e = cc

text_defined : (z : Sealing) (result : Result (List ℕ) GetFault) → IsTextOf z result → IsGetDefined z.text (get_sent result) (get_cause result)
text_defined z (Ok text) is = subst (λ (x : List ℕ). IsGetDefined z.text (get_sent (Ok x)) None) (sym is) whole
text_defined z (Err why) is = subst (λ (f : GetFault). IsGetDefined z.text (get_sent (Err f)) (get_cause (Err f))) (sym is) no_room

module _ (g : Setting) (world : World) (old : Moment) (turn : Turn) (new : Moment) (step : Step g world old turn new) (honest : old.told.honest ≡ true)
    (i : Instance) (uuid : List ℕ) (p : Part) (z : Sealing) (now : Held) (request : request_of turn.frame ≡ get_of uuid) (image : g.image ≡ Some i) (found : find_part old.state.parts uuid ≡ Some p)
    (named : z.uuid ≡ uuid) (told : old.told.held ≡ Some now) (holds : HoldsRecord now (image_with i old.state.parts) i.secret p z) where
  abbrev kept : Kept
  kept = image_with i old.state.parts

  call_is : (call : Call) (given : List ℕ) → IsFor g old.state (request_of turn.frame) call given → reading (IsGetCall kept uuid) call given
  call_is call given f =
      subst (λ (o : Option Instance). IsForGet o old.state.parts uuid call given) image (subst (λ (q : Request). IsFor g old.state q call given) request f)

  did : (result : Result (List ℕ) GetFault) → GetOutcome kept i.secret uuid result (trace old turn new) → Did (IsGetCall kept uuid) 1 old.told new.told (GetOutcome kept i.secret uuid result)
  did result outcome = record {
    own = turn.own;
    talked = step.talked;
    calls = each_so (IsFor g old.state (request_of turn.frame)) (reading (IsGetCall kept uuid)) turn.own call_is step.calls;
    few = subst (λ (q : Request). length turn.own ≤ most_for g old.state q) request step.few;
    stops = step.stops;
    outcome = outcome;
  }

  row_served : (sent : Sent) (cause : Option Cause) → GetRow g.image old.state.parts world old.sealings (trace old turn new) uuid sent cause → IsGetDefined z.text sent cause
  row_served sent cause (no_image none quiet) = absurd (no_instance i (sym image ∙ none))
  row_served sent cause (got j result there outcome known) =
      let same : j ≡ i = same_instance j i (sym there ∙ image) in
      let here : GetOutcome kept i.secret uuid result (trace old turn new) =
      subst (λ (k : Instance). GetOutcome (image_with k old.state.parts) k.secret uuid result (trace old turn new)) same outcome in
      let right = (get_right kept i.secret uuid old.told new.told result (did result here)).right now p z (inr honest) told found named holds in
      text_defined z result right.1

  served : IsGetDefined z.text turn.sent turn.cause
  served =
      let row = subst (λ (q : Request). Row g world old.sealings (heard_in old turn new) q old.state new.state turn.sent turn.cause) request step.row in
      row_served turn.sent turn.cause row.1

pub get_served : (g : Setting) (world : World) (old : Moment) (turn : Turn) (new : Moment) → Step g world old turn new → old.told.honest ≡ true → IsGetServed g old turn
get_served g world old turn new step honest i uuid z request image r = served g world old turn new step honest i uuid r.part z r.held request image r.found r.named r.held_is r.holds

use Rattle.std.proofs.Common.{refl, ◌≡◌, ◌+◌, ◌∙◌, ◌++◌, ◌∷◌, [], List, length, ap, arith, Some, Ok}
use Rattle.std.proofs.lemmas.List.{length-append}
use Rattle.host_traits.specs.Did.{Did}
use Rattle.instance_image.specs.declared.values.Part.{Part}
use Rattle.instance_image.specs.Records.{Kept, IsLaid}
use Rattle.instance_image.specs.Opening.{Opening, opening, Reading, with_part, IsImageCall, kept_of}
use Rattle.instance_image.specs.Steps.{IsSector, HeaderOutcome}
use Rattle.instance_image.proofs.Laying.{end_more, laid_on, laid_none}
use Rattle.instance_image.proofs.Openings.{Headed, refused, begins, goes_on, closes, fails, ends, no_memory, steps}
use Rattle.instance_image.proofs.opening.read_image.Goals as goal

pub returns-in-Err : goal.returns-in-Err
returns-in-Err g c = refused (opening c.args.disk c.args.span c.args.salt.now) _ _ c.in-Err.fault c.requires.some c.in-Err.ensures

pub headers-init : goal.headers-init
headers-init g c = record {
  low = omega arith;
  high = c.requires.some;
  few = rw c.new-parts.ensures.items (omega arith);
  end = rw c.new-parts.ensures.items laid_none;
  laid = rw c.new-parts.ensures.items (record { kept = tt; laid = tt });
  did = rw c.new-parts.ensures.items (begins (opening c.args.disk c.args.span c.args.salt.now) _ _ c.requires.some c.in-Ok.ensures);
}

pub returns-in-Ok-None : goal.returns-in-Ok-None
returns-in-Ok-None g c =
    closes (opening c.args.disk c.args.span c.args.salt.now) (record { parts = c.headers.parts.items; next = c.headers.next }) (length c.headers.parts.items + 1) _ _ _
    c.headers-test.true (omega (arith, c.headers.invariant.few)) c.headers.invariant.did
    (rw (c.as_slice.ensures.value, c.in-Ok-None.field-0-is) at c.in-Ok-None.ensures)

pub returns-in-Err-read_header : goal.returns-in-Err-read_header
returns-in-Err-read_header g c =
    fails (opening c.args.disk c.args.span c.args.salt.now) (record { parts = c.headers.parts.items; next = c.headers.next }) c.in-Err-read_header.fault (length c.headers.parts.items + 1) _ _ _
    c.headers-test.true (omega (arith, c.headers.invariant.few)) c.headers.invariant.did
    (rw c.as_slice.ensures.value at c.in-Err-read_header.ensures)

pub returns-in-Err-push : goal.returns-in-Err-push
returns-in-Err-push g c =
    no_memory (opening c.args.disk c.args.span c.args.salt.now) (record { parts = c.headers.parts.items; next = c.headers.next }) c.in-Ok-Some.part (length c.headers.parts.items + 1) _ _ _
    c.headers-test.true (omega (arith, c.headers.invariant.few)) c.headers.invariant.did
    (rw (c.as_slice.ensures.value, c.in-Ok-Some.field-0-is) at c.in-Ok-Some.ensures)

pub headers-preserved : goal.headers-preserved
headers-preserved g c =
    let o : Opening = opening c.args.disk c.args.span c.args.salt.now in
    let parts : List Part = c.headers.parts.items in
    let p : Part = c.in-Ok-Some.part in
    let r : Reading = record { parts = parts; next = c.headers.next } in
    let k : Kept = kept_of o r in
    let e : Did (IsSector o c.headers.next) 1 (g.H.Host.told c.headers.host) (g.H.Host.told c.read_header.new.host) (HeaderOutcome o r (Ok (Some p))) = rw (c.as_slice.ensures.value, c.in-Ok-Some.field-0-is) at c.in-Ok-Some.ensures in
    let s = steps c.args.span.first c.args.span.sectors r e.outcome.bytes p c.requires.end c.headers.invariant.low c.headers.invariant.few e.outcome.is in
    let from : c.from.result ≡ p.reserved = c.from.ensures in
    let items : c.push.new.self.items ≡ parts ++ p ∷ [] = c.in-Ok-push.ensures.items in
    let long : length (parts ++ p ∷ []) ≡ length parts + 1 = length-append parts (p ∷ []) in
    let on : Did (IsImageCall o) (length parts + 1 + 1) (g.H.Host.told c.args.host.now) (g.H.Host.told c.read_header.new.host) (Headed o (with_part r p)) =
    goes_on o r p (length parts + 1) _ _ _ c.headers-test.true c.headers.invariant.did e in
    let laid : IsLaid (record k { parts = parts ++ p ∷ [] }) = laid_on k p c.headers.invariant.laid s.lies (s.sector_is ∙ c.headers.invariant.end) in
    record {
      low = omega (arith, c.headers.invariant.low);
      high = omega (arith, from, s.end);
      few = omega (arith, ap length items, long, s.few);
      end = rw (items, from, end_more 1 parts p, c.headers.invariant.end) refl;
      laid = rw items laid;
      did = rw (items, from, long) on;
    }

pub returns : goal.returns
returns g c =
    ends (opening c.args.disk c.args.span c.args.salt.now) (record { parts = c.headers.parts.items; next = c.headers.next }) (length c.headers.parts.items + 1) _ _
    (omega (arith, c.headers-test.false, c.headers.invariant.high)) (omega (arith, c.headers.invariant.few)) c.headers.invariant.did

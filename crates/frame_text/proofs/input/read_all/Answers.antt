use Rattle.std.proofs.Common.{◌≡◌, List, ℕ, [], length, take, Option, Some, None, refl, sym, ap, subst, append-nil, rules, arith, inr}
use Rattle.std.specs.Io.KnownBytes.{Consumes}
use Rattle.session_frames.proofs.Sessions.{consumes_then}
use Rattle.frame_text.proofs.input.read_all.Goals as goal

none_yet : (left : Option (List ℕ)) → Consumes left left []
none_yet None = tt
none_yet (Some x) = refl

pub loop-init : goal.loop-init
loop-init g c = record {
  read = subst (Consumes (g.S.Source.left c.args.source.now) (g.S.Source.left c.args.source.now)) (sym c.new-bytes.ensures.items) (none_yet (g.S.Source.left c.args.source.now));
  faults = omega arith;
}

pub loop-preserved : goal.loop-preserved
loop-preserved g c = record {
  read = subst (Consumes (g.S.Source.left c.args.source.now) (g.S.Source.left c.read.new.self)) (sym c.in-Ok-extend_from_slice.ensures.items)
      (consumes_then (g.S.Source.left c.args.source.now) (g.S.Source.left c.loop.source) (g.S.Source.left c.read.new.self) c.loop.bytes.items (take c.in-Ok.count c.read.new.out) c.loop.invariant.read c.in-Ok.ensures.given.0);
  faults = omega (arith, c.loop.invariant.faults, c.in-Ok.ensures.cause.later);
}

pub returns-in-Err-clause-cause : goal.returns-in-Err-clause-cause
returns-in-Err-clause-cause g c = inr (refl, omega (arith, c.in-Err.ensures.cause.failed, c.loop.invariant.faults))

pub returns-then-count-eq0-clause-all : goal.returns-then-count-eq0-clause-all
returns-then-count-eq0-clause-all g c =
    let room : length c.read.new.out ≡ 4096 = search rules in
    let none : take c.in-Ok.count c.read.new.out ≡ [] = ap (λ (n : ℕ). take n c.read.new.out) c.if-count-eq0.true in
    let last : Consumes (g.S.Source.left c.loop.source) (g.S.Source.left c.read.new.self) [] = subst (Consumes (g.S.Source.left c.loop.source) (g.S.Source.left c.read.new.self)) none c.in-Ok.ensures.given.0 in
    record {
      read = subst (Consumes (g.S.Source.left c.args.source.now) (g.S.Source.left c.read.new.self)) (append-nil c.loop.bytes.items)
          (consumes_then (g.S.Source.left c.args.source.now) (g.S.Source.left c.loop.source) (g.S.Source.left c.read.new.self) c.loop.bytes.items [] c.loop.invariant.read last);
      ended = c.in-Ok.ensures.given.1 c.if-count-eq0.true (omega (arith, room));
    }

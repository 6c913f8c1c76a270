use Rattle.std.proofs.Common.{◌≡◌, ap, sym, ◌∙◌, arith}
use Rattle.sha_tree.specs.Tree.{top, ancestor}
use Rattle.sha_tree.proofs.Levels.{ancestor-top}
use Rattle.verity_path.specs.States.{Place}
use Rattle.verity_path.proofs.Walking.{begins, goes_on, next_at, fails, ends}
use Rattle.verity_path.proofs.Right.{right_top, right_below, right_end, right_fault}
use Rattle.verity_path.proofs.walk.walk_page.Goals as goal

pub levels-init : goal.levels-init
levels-init g c =
    let is = c.in-Some-measured.ensures.value in
    let level_is : c.top-level.result ≡ top c.args.measure.now.blocks = c.top-level.ensures.value ∙ ap top c.in-Some.ensures.value in
    let zero_is : ancestor c.args.index c.top-level.result ≡ 0 =
    ap (ancestor c.args.index) level_is ∙ ancestor-top c.args.measure.now.blocks c.args.index c.requires.within c.requires.limit in
    record {
      at = record {
        low = omega arith;
        level_is = ap (λ (a : Place). a.level) is ∙ sym level_is;
        index_is = ap (λ (a : Place). a.index) is ∙ sym zero_is;
        salt_is = ap (λ (a : Place). a.salt) is;
      };
      did = begins c.args.layout.now c.args.measure.now c.args.index _ c.in-Some.ensures.value c.requires.within
          c.in-Some-measured.anchor c.top-level.result _ c.requires.limit level_is (ap (λ (a : Place). a.digest) is);
      held = right_top c.args.layout.now c.args.measure.now c.in-Some-measured.anchor _ (omega (arith, c.requires.within)) (ap (λ (a : Place). a.salt) is)
          (ap (λ (a : Place). a.level) is) (ap (λ (a : Place). a.index) is) (ap (λ (a : Place). a.digest) is);
    }

pub returns-in-Err-clause-did : goal.returns-in-Err-clause-did
returns-in-Err-clause-did g c =
    fails c.args.layout.now c.args.measure.now c.args.index _ c.in-Some.ensures.value c.requires.within
    c.levels.anchor c.levels.level _ _ _ c.in-Err.fault c.levels.invariant.at c.levels.invariant.did c.in-Err.ensures.did

pub returns-in-Err-clause-held : goal.returns-in-Err-clause-held
returns-in-Err-clause-held g c =
    right_fault c.args.layout.now c.args.measure.now c.args.index _ c.in-Some.ensures.value c.requires.within
    c.levels.anchor _ _ _ _ _ c.in-Err.fault c.levels.invariant.did.talked c.in-Err.ensures.did.talked c.levels.invariant.held c.in-Err.ensures.held

pub levels-preserved : goal.levels-preserved
levels-preserved g c = record {
  at = next_at c.args.measure.now c.args.index c.args.layout.now _ c.levels.anchor c.in-Ok.below c.levels.level _
      c.levels-test.true c.levels.invariant.at c.in-Ok.ensures.did.outcome;
  did = goes_on c.args.layout.now c.args.measure.now c.args.index _ c.in-Some.ensures.value c.requires.within
      c.levels.anchor c.in-Ok.below c.levels.level _ _ _ c.levels-test.true c.levels.invariant.at c.levels.invariant.did c.in-Ok.ensures.did;
  held = right_below c.args.layout.now c.args.measure.now c.args.index _ c.in-Some.ensures.value c.requires.within
      c.levels.anchor c.in-Ok.below c.levels.level _ _ _ _ _ _ c.levels.invariant.did.talked c.in-Ok.ensures.did.talked
      c.levels-test.true c.levels.invariant.at c.in-Ok.ensures.did.outcome c.levels.invariant.held c.in-Ok.ensures.held;
}

pub returns-clause-did : goal.returns-clause-did
returns-clause-did g c =
    ends c.args.layout.now c.args.measure.now c.args.index _ c.in-Some.ensures.value c.requires.within
    c.levels.anchor c.levels.level _ _ _ c.fetch.result (omega arith) c.levels.invariant.at c.levels.invariant.did c.fetch.ensures.did

pub returns-clause-held : goal.returns-clause-held
returns-clause-held g c =
    right_end c.args.layout.now c.args.measure.now c.args.index _ c.in-Some.ensures.value c.requires.within
    c.levels.anchor c.levels.level _ _ _ _ _ c.fetch.result c.levels.invariant.did.talked c.fetch.ensures.did.talked
    (omega arith) c.levels.invariant.at c.levels.invariant.held c.fetch.ensures.held

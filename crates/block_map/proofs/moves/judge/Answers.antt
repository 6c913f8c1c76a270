use Rattle.std.proofs.Common.{◌≡◌, ◌<◌, ◌≤◌, ℕ, [], length, get_or, ap, sym, subst, ◌∙◌, arith}
use Rattle.composite_spec.specs.Said.{Composite, composite}
use Rattle.block_map.specs.Disk.{contents, begin_of, Fits}
use Rattle.block_map.proofs.Offsets.{holds_by, begin_end}
use Rattle.block_map.proofs.Components.{file_at, same_count}
use Rattle.block_map.proofs.Ranges.{none_before, one_more, none_after, ahead_next}
use Rattle.block_map.proofs.moves.judge.Goals as goal

pub loop-index-init : goal.loop-index-init
loop-index-init c =
    let s : Composite = composite c.args.spec.now in
    let at : ℕ = c.args.at in
    let index : ℕ = c.holder-index.result in
    record {
      within = omega (arith, c.holder-index.ensures.within);
      ahead = λ lt. (holds_by s at index c.holder-index.ensures.within c.holder-index.ensures.begins c.holder-index.ensures.later (omega (arith, c.requires.some, c.requires.range))).ends;
      passed = none_before s (contents c.args.files.now) at c.args.end index c.requires.is c.holder-index.ensures.within c.holder-index.ensures.begins;
    }

pub returns-then-end-begin : goal.returns-then-end-begin
returns-then-end-begin c =
    let s : Composite = composite c.args.spec.now in
    let past : c.args.end ≤ begin_of s c.loop-index.index = subst (λ (x : ℕ). c.args.end ≤ x) c.begin_of-begin.ensures c.if-end-begin.true in
    (c.requires.range, none_after s (contents c.args.files.now) c.args.at c.args.end c.loop-index.index c.requires.is (omega (arith, same_count c.args.spec.now.components.items)) past c.loop-index.invariant.passed)

pub overflow_sub-last : goal.overflow_sub-last
overflow_sub-last c =
    let s : Composite = composite c.args.spec.now in
    let index : ℕ = c.loop-index.index in
    let lt : index < length s.components = omega (arith, same_count c.args.spec.now.components.items) in
    let k = begin_end s index c.requires.is lt in
    omega (arith, c.begin_of-begin.ensures, c.end_of.ensures, c.min-last.ensures)

pub loop-index-preserved : goal.loop-index-preserved
loop-index-preserved c =
    let s : Composite = composite c.args.spec.now in
    let files = c.args.files.now in
    let index : ℕ = c.loop-index.index in
    let lt : index < length s.components = omega (arith, same_count c.args.spec.now.components.items) in
    let file = file_at files index c.index-files-index.result (omega (arith, c.requires.files)) c.index-files-index.is in
    let size : length (get_or (contents files) index []) ≡ length c.index-files-index.result.items = ap length file in
    let k = begin_end s index c.requires.is lt in
    let fits : Fits s (contents files) c.args.end index = omega (arith, c.begin_of-begin.ensures, c.end_of.ensures, c.min-last.ensures, c.len-in-loop-index.ensures, c.index-files-index.result.ok) in
    record {
      within = omega (arith, lt);
      ahead = λ more. ahead_next s c.args.at index c.requires.is (c.loop-index.invariant.ahead lt) more;
      passed = one_more s (contents files) c.args.at c.args.end index c.loop-index.invariant.passed (sym c.is_writable.ensures ∙ c.if-not-is_writable.false) fits;
    }

pub returns : goal.returns
returns c = (c.requires.range, λ i lt touched. c.loop-index.invariant.passed i (omega (arith, lt, same_count c.args.spec.now.components.items)) touched)

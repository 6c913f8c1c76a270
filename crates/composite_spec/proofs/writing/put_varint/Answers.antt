use Rattle.std.proofs.Common.{◌≡◌, ◌+◌, ◌-◌, ◌/◌, ◌%◌, ℕ, List, [], ◌∷◌, ◌++◌, length, take, ap, sym, ◌∙◌, arith, append_assoc}
use Rattle.composite_spec.specs.Writing.{digits_within}
use Rattle.composite_spec.proofs.Kept.{front_kept}
use Rattle.composite_spec.proofs.Varints.{digits_on, digits_end}
use Rattle.composite_spec.proofs.writing.put_varint.Goals as goal

pub loop-left-preserved : goal.loop-left-preserved
loop-left-preserved c =
    let most : ℕ = c.loop-left.invariant.most in
    let left : ℕ = c.loop-left.left in
    let old : List ℕ = c.loop-left.out.items in
    let new : List ℕ = c.push.new.self.items in
    let digit : ℕ = left % 128 + 128 in
    let pushed : new ≡ old ++ digit ∷ [] = c.in_ok-push.ensures.items in
    let on = digits_on most left c.loop-left.invariant.room (omega arith) in
    let turned : digit ≡ 128 + left % 128 = omega arith in
    record {
      most = most - 1;
      room = omega (arith, c.loop-left.invariant.room);
      so_far = ap (λ (x : List ℕ). x ++ digits_within (most - 1) (left / 128)) pushed ∙ append_assoc old (digit ∷ []) (digits_within (most - 1) (left / 128))
          ∙ ap (λ (x : ℕ). old ++ x ∷ digits_within (most - 1) (left / 128)) turned ∙ ap (λ (x : List ℕ). old ++ x) (sym on) ∙ c.loop-left.invariant.so_far;
      kept = ap (take (length c.args.out.now.items)) pushed ∙ front_kept c.args.out.now.items old (digit ∷ []) c.loop-left.invariant.kept;
    }

pub returns-clause-ok : goal.returns-clause-ok
returns-clause-ok c =
    c.in_ok-push-2.ensures.items ∙ ap (λ (x : List ℕ). c.loop-left.out.items ++ x) (sym (digits_end c.loop-left.invariant.most c.loop-left.left (omega arith))) ∙ c.loop-left.invariant.so_far

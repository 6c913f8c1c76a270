use Rattle.std.proofs.Common.{ℕ, ◌-◌, ◌%◌, ◌∙◌, ap, arith}
use Rattle.sha_tree.specs.Tree.{ancestor}
use Rattle.sha_tree.proofs.Levels.{pages_at-low}
use Rattle.verity_path.specs.States.{Place}
use Rattle.verity_path.proofs.Serving.{below_right}
use Rattle.verity_path.proofs.walk.descend.Goals as goal

pub child-requires-clause-index : goal.child-requires-clause-index
child-requires-clause-index g c =
    let same = ap (λ (a : Place). a.index) c.in-Ok.ensures.did.outcome.1 in
    omega (arith, same, c.requires.within, c.requires.limit, pages_at-low c.args.geometry.now c.args.anchor.now.level)

pub returns-in-Ok-clause-held : goal.returns-in-Ok-clause-held
returns-in-Ok-clause-held g c =
    let at = ap (λ (n : ℕ). n % 128) (c.ancestor_of-slot.ensures.value ∙ ap (λ (l : ℕ). ancestor c.args.block (l - 1)) c.level.ensures) in
    below_right c.args.layout.now c.args.geometry.now c.args.anchor.now _ _ c.args.block _ c.in-Ok.page c.child.result at
    (ap (λ (a : Place). a.digest) c.child.ensures) c.in-Ok.ensures.held

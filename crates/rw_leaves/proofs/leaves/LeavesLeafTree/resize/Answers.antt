use Rattle.std.proofs.Common.{◌∙◌, ap, sym, refl}
use Rattle.leaf_tree.proofs.Working.{worked_none}
use Rattle.leaf_tree.specs.Leaves.{resized}
use Rattle.rw_leaves.specs.Kept.{Kept}
use Rattle.rw_leaves.proofs.leaves.LeavesLeafTree.resize.Goals as goal

pub returns-clause-did : goal.returns-clause-did
returns-clause-did g c =
    worked_none _ _ _ _ _ _ (
      refl,
      λ ds is clash. record {
        now = ap (resized c.args.blocks c.args.last) (is ∙ ap (λ (k : Kept). k.digests) (sym c.self.view_is)) ∙ sym c.in-Ok.ensures.ok;
        backed = λ b. tt;
      },
    )

pub returns-in-Err-clause-did : goal.returns-in-Err-clause-did
returns-in-Err-clause-did g c =
    worked_none _ _ _ _ _ _ ((λ ds is clash. record { now = is ∙ ap (λ (k : Kept). k.digests) (sym c.self.view_is) ∙ sym c.in-Err.ensures.err; backed = λ b. tt }), refl)

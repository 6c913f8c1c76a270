use Rattle.std.proofs.Common.{List, [], subst, sym}
use Rattle.mg_base.specs.declared.values.Digest.{Digest}
use Rattle.sha_tree.specs.Fed.{IsFed}
use Rattle.sha_tree.proofs.LeafCuts.{IsFed-none}
use Rattle.sha_tree.proofs.builder.Builder.new.Goals as goal

pub returns-clause-fed : goal.returns-clause-fed
returns-clause-fed c =
    subst (λ (l : List Digest). IsFed (record { salt = c.args.salt; size = 0; leaves = l; rest = [] }) [])
    (sym c.new-2.ensures.items) (IsFed-none c.args.salt)

use Rattle.std.proofs.Common.{List, ℕ, ap, sym, subst, ◌∙◌, arith}
use Rattle.mg_base.specs.declared.values.Digest.{Digest}
use Rattle.sha_tree.specs.Fed.{Fed, IsFed}
use Rattle.sha_tree.specs.Tree.{AreLeaves, root}
use Rattle.sha_tree.proofs.Digests.{same-root}
use Rattle.sha_tree.proofs.LeafCuts.{stored_put}
use Rattle.sha_tree.proofs.builder.Builder.finish.Goals as goal

pub returns-clause-stored : goal.returns-clause-stored
returns-clause-stored c = λ bytes h.
    let fed = subst (λ (f : Fed). IsFed f bytes) (sym c.self.view_is) h in
    let leaves = subst (λ (l : List Digest). AreLeaves bytes c.self.inside.salt l) (sym c.deref.ensures.value) (c.in_ok-close.ensures.leaves bytes fed.cut) in
    stored_put bytes _ _ _ _ _ _ _ leaves (ap (λ (f : Fed). f.salt) c.self.view_is) (c.in-Some.ensures.value ∙ c.len.ensures ∙ sym c.deref.ensures.len) c.top-top.ensures.value c.in_ok-stored.ensures.items (c.in_ok-put_levels.ensures bytes leaves)

pub returns-clause-root : goal.returns-clause-root
returns-clause-root c = λ bytes h.
    let fed = subst (λ (f : Fed). IsFed f bytes) (sym c.self.view_is) h in
    let leaves = subst (λ (l : List Digest). AreLeaves bytes c.self.inside.salt l) (sym c.deref-2.ensures.value) (c.in_ok-close.ensures.leaves bytes fed.cut) in
    c.tree_root-root.ensures ∙ same-root bytes _ _ leaves (omega (arith, c.top-top.ensures.blocks, c.in-Some.ensures.value, c.len.ensures, c.deref-2.ensures.len))
    ∙ ap (λ (s : List ℕ). root bytes s) (ap (λ (f : Fed). f.salt) c.self.view_is)

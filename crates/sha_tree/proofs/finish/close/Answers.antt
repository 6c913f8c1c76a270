use Rattle.std.proofs.Common.{◌≡◌, ℕ, ◌-◌, ◌≤◌, List, ◌++◌, length, take, replicate, ap, sym, subst, ◌∙◌, arith, length-take}
use Rattle.mg_base.specs.declared.values.Digest.{Digest}
use Rattle.sha_tree.specs.Tree.{AreLeaves, padded}
use Rattle.sha_tree.specs.Fed.{IsCut}
use Rattle.sha_tree.proofs.LeafCuts.{AreLeaves-whole, AreLeaves-rest}
use Rattle.sha_tree.proofs.finish.close.Goals as goal

-- the rest of a page, and zeros
cleared : (page new : List ℕ) (filled : ℕ) → length page ≡ 4096 → filled ≤ 4096 → new ≡ take filled page ++ replicate (4096 - filled) 0 → new ≡ padded (take filled page)
cleared page new filled long low is =
    let n : filled ≡ length (take filled page) = omega (arith, length-take filled page) in
    is ∙ ap (λ (k : ℕ). take filled page ++ replicate {A = ℕ} (4096 - k) 0) n

pub returns-in-Ok-clause-leaves : goal.returns-in-Ok-clause-leaves
returns-in-Ok-clause-leaves c = λ bytes h.
    let whole = c.clear_from.ensures in
    subst (λ (l : List Digest). AreLeaves bytes c.args.salt.now l) (sym c.in-Ok.ensures.items)
    (AreLeaves-rest _ c.args.leaves.now.items (take c.args.filled c.args.page.now) bytes c.clear_from.new.self c.hash_page-digest.result h
    (omega (arith, length-take c.args.filled c.args.page.now)) (cleared c.args.page.now c.clear_from.new.self c.args.filled whole.len (omega arith) whole.value) c.hash_page-digest.ensures)

pub returns-else-filled-gt0-clause-leaves : goal.returns-else-filled-gt0-clause-leaves
returns-else-filled-gt0-clause-leaves c = λ bytes h.
    let none : c.args.filled ≡ 0 = omega arith in
    AreLeaves-whole _ _ bytes (subst (λ (k : ℕ). IsCut c.args.salt.now c.args.leaves.now.items (take k c.args.page.now) bytes) none h)

use Rattle.std.proofs.Common.{◌≡◌, ℕ, ◌<◌, ◌≤◌, ◌∙◌, ap, sym, arith, length, List}
use Rattle.sha_tree.specs.Tree.{pages_at, top}
use Rattle.sha_tree.specs.Digests.{leaf, digest_at, tree_root}
use Rattle.sha_tree.proofs.Levels.{pages_at-top}
use Rattle.sha_tree.proofs.Digests.{none-root, some-root}
use Rattle.sha_tree.proofs.leaves.tree_root.Goals as goal

pub returns-then-leaves-eq0 : goal.returns-then-leaves-eq0
returns-then-leaves-eq0 c = sym (none-root c.args.salt.now (leaf c.args.leaves.now) (length c.args.leaves.now) (omega arith))

top_there : (count geometry level : ℕ) → geometry ≡ count → level ≡ top geometry → 0 < count → count ≤ 1048576 → 0 < pages_at count level
top_there count geometry level same is some limit =
    let one = pages_at-top count some limit in
    rw (is, same) (omega arith)

pub page_digest-requires-clause-within : goal.page_digest-requires-clause-within
page_digest-requires-clause-within c = top_there _ _ _ c.in-Some.ensures.value c.top.ensures.value (omega arith) c.requires

top_digest : (salt : List ℕ) (f : ℕ → List ℕ) (n geometry level : ℕ) (digest : List ℕ) → geometry ≡ n → level ≡ top geometry → 0 < n → digest ≡ digest_at salt f n level 0 → digest ≡ tree_root salt f n
top_digest salt f n geometry level digest same is some hash =
    hash ∙ ap (λ (l : ℕ). digest_at salt f n l 0) (is ∙ ap top same) ∙ sym (some-root salt f n some)

pub returns : goal.returns
returns c = top_digest _ _ _ _ _ _ c.in-Some.ensures.value c.top.ensures.value (omega arith) c.page_digest.ensures

use Rattle.std.proofs.Common.{◌≡◌, ◌≤◌, ◌*◌, ◌∙◌, ℕ, length, ap, subst, arith}
use Rattle.sha_tree.specs.Tree.{block_count, tree_pages}
use Rattle.sha_tree.proofs.Stored.{length-stored}
use Rattle.guest_images.proofs.Trees.{tree_some, tree_fits}
use Rattle.guest_images.proofs.measuring.signed.Goals as goal

pub write_idsig-requires-clause-some : goal.write_idsig-requires-clause-some
write_idsig-requires-clause-some c =
    let t = c.requires.tree in
    let size = t.1.size in
    let len : length c.args.tree.now.stored.items ≡ 4096 * tree_pages (block_count (length t.0)) = ap length t.1.stored ∙ length-stored t.0 c.args.salt.now in
    let enough : 2 ≤ block_count (length t.0) = subst (λ (n : ℕ). 2 ≤ block_count n) size c.requires.enough in
    let h = tree_some (block_count (length t.0)) (omega (arith, c.requires.few, size)) enough in
    rw (c.deref.ensures.value, len) (omega (arith, h))

pub write_idsig-requires-clause-size : goal.write_idsig-requires-clause-size
write_idsig-requires-clause-size c =
    let t = c.requires.tree in
    let size = t.1.size in
    let len : length c.args.tree.now.stored.items ≡ 4096 * tree_pages (block_count (length t.0)) = ap length t.1.stored ∙ length-stored t.0 c.args.salt.now in
    rw (c.deref.ensures.value, len) (tree_fits (length t.0) (omega (arith, c.requires.few, size)))

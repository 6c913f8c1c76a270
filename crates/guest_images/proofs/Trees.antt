-- A tree over two blocks or more has a page.
use Rattle.std.proofs.Common.{◌≤◌, ◌<◌, ◌*◌, ◌^◌, ℕ, zero, suc, arith}
use Rattle.sha_tree.specs.Tree.{block_count, tree_pages, top, levels_above, pages_at}
use Rattle.sha_tree.proofs.Levels.{place-inside, tree_pages-low}

top_some : (n : ℕ) → 2 ≤ n → 0 < top n
unfolding top levels_above
top_some n some = grind arith

pages_some : (n level : ℕ) → 1 ≤ n → 0 < pages_at n level
unfolding pages_at
pages_some n zero some = omega arith
pages_some n (suc level) some = let h : 0 < pages_at n level = pages_some n level some in omega (arith, h)

pub tree_some : (n : ℕ) → n ≤ 1048576 → 2 ≤ n → 1 ≤ tree_pages n
tree_some n limit some = let h = place-inside n 1 0 limit (omega arith) (top_some n some) (pages_some n 1 (omega arith)) in omega (arith, h)

pub tree_fits : (size : ℕ) → size ≤ 2 ^ 30 → 4096 * tree_pages (block_count size) ≤ 2 ^ 30
tree_fits size limit = let h = tree_pages-low (block_count size) (omega arith) in omega (arith, h)

use Rattle.std.proofs.Common.{◌≡◌, ◌&&◌, ℕ, if◌then◌else◌}
use Rattle.std.specs.Prelude.{nat_le, nat_lt, replicate}
use Rattle.sha_tree.specs.Tree.{pages_at}
use Rattle.mem_files.specs.Files.{page_in, stored_page}
use Rattle.mem_files.proofs.verity.tree_of.Given as goal

abbrev pub invariant-levels : goal.invariant-levels
invariant-levels l = (level i : ℕ) → page_in l.tree level i ≡ (if nat_lt 0 level && nat_le level l.below && nat_lt i (pages_at l.geometry level) then stored_page l.geometry l.stored level i else replicate 4096 0)

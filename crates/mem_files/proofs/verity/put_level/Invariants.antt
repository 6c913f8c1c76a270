use Rattle.std.proofs.Common.{◌≡◌, ◌&&◌, ℕ, if◌then◌else◌}
use Rattle.std.specs.Prelude.{nat_eq, nat_lt}
use Rattle.mem_files.specs.Files.{page_in, stored_page}
use Rattle.mem_files.proofs.verity.put_level.Given as goal

abbrev pub invariant-pages : goal.invariant-pages
invariant-pages l = (level i : ℕ) → page_in l.tree level i ≡ (if nat_eq l.level level && nat_lt i l.index then stored_page l.geometry l.stored level i else page_in l.initial.tree level i)

use Rattle.std.proofs.Common.{◌≡◌, ◌<◌, ℕ, length}
use Rattle.mem_files.specs.Files.{at}
use Rattle.mem_files.proofs.page_map.drop_from.Given as goal

abbrev pub invariant-pages : goal.invariant-pages
invariant-pages l = (q : ℕ) → q < l.limit → at l.pages.entries q ≡ at l.initial.pages.entries q

abbrev pub decreases-pages : goal.decreases-pages
decreases-pages l = length l.pages.entries

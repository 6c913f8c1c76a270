use Rattle.std.proofs.Common.{◌≡◌, ◌≤◌, ◌-◌, ◌++◌, drop}
use Rattle.mem_files.specs.Files.{bytes_in}
use Rattle.mem_files.proofs.page_map.fill.Given as goal

abbrev pub invariant-pieces : goal.invariant-pieces
invariant-pieces l = record {
  few : l.done ≤ l.count;
  filled : l.out ≡ bytes_in l.pages.entries l.at l.done ++ drop l.done l.initial.out;
}

abbrev pub decreases-pieces : goal.decreases-pieces
decreases-pieces l = l.count - l.done

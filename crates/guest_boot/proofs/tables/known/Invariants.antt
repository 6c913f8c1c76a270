use Rattle.std.proofs.Common.{◌≡◌, drop}
use Rattle.guest_boot.specs.Finding.{table_on}
use Rattle.guest_boot.proofs.tables.known.Given as goal

abbrev pub invariant-loop-place : goal.invariant-loop-place
invariant-loop-place l = table_on l.disk (drop l.place l.tables) ≡ table_on l.disk l.tables

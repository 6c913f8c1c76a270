use Rattle.composite_spec.specs.Said.{composite}
use Rattle.block_map.specs.Disk.{NoAliasBelow}
use Rattle.block_map.proofs.Firsts.{Knows}
use Rattle.block_map.proofs.aliases.judge_aliases.Given as goal

abbrev pub invariant-loop-b : goal.invariant-loop-b
invariant-loop-b l = record {
  clear : NoAliasBelow (composite l.spec) l.b;
  knows : Knows (composite l.spec) l.b l.firsts;
}

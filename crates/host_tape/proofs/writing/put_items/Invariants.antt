use Rattle.std.proofs.Common.{◌≡◌, ◌++◌, take}
use Rattle.std.specs.List.{AllByRecursion}
use Rattle.host_tape.specs.Tape.{IsItem, items_bytes}
use Rattle.host_tape.proofs.writing.put_items.Given as goal

abbrev pub invariant-loop-item : goal.invariant-loop-item
invariant-loop-item l = record {
  so_far : l.out.items ≡ l.fn.out.items ++ items_bytes (take l.item-index l.items);
  each : AllByRecursion IsItem (take l.item-index l.items);
}

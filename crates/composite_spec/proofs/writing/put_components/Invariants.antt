use Rattle.std.proofs.Common.{◌≡◌, ◌++◌, map, take}
use Rattle.composite_spec.specs.Said.{placed}
use Rattle.composite_spec.specs.Writing.{components_bytes}
use Rattle.composite_spec.proofs.writing.put_components.Given as goal

abbrev pub invariant-loop-component : goal.invariant-loop-component
invariant-loop-component l = l.out.items ≡ l.fn.out.items ++ components_bytes (map placed (take l.component-index l.components))

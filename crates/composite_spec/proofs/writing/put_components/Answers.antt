use Rattle.std.proofs.Common.{◌<◌, length, map, take, subst, sym}
use Rattle.std.specs.Prelude.{string_bytes}
use Rattle.composite_spec.specs.declared.kinds.Component.{Component}
use Rattle.composite_spec.specs.Said.{placed}
use Rattle.composite_spec.specs.Writing.{components_bytes}
use Rattle.composite_spec.proofs.Kept.{kept_on, path_at}
use Rattle.composite_spec.proofs.writing.put_components.Goals as goal

pub put_component-requires : goal.put_component-requires
put_component-requires c =
    let item : Component = c.component-item.result in
    subst (λ (x : Component). length (string_bytes x.path) < 256) (sym c.component-item.is) (path_at c.args.components.now c.loop-component.component-index item c.requires c.loop-component-test.true).few

pub returns-in_err-put_component-clause-kept : goal.returns-in_err-put_component-clause-kept
returns-in_err-put_component-clause-kept c =
    kept_on c.args.out.now.items c.loop-component.out.items c.put_component.new.out.items (components_bytes (map placed (take c.loop-component.component-index c.args.components.now))) c.loop-component.invariant c.put_component.ensures.kept

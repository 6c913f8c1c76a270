use Rattle.std.proofs.Common.{[], sym, ◌∙◌, arith}
use Rattle.block_map.specs.Disk.{path_of}
use Rattle.block_map.proofs.Components.{at_placed, same_count}
use Rattle.block_map.proofs.aliases.path_at.Goals as goal

pub returns : goal.returns
returns c =
    let cs = c.args.spec.now.components.items in
    c.as_str.ensures.value ∙ sym (at_placed path_of cs c.args.index c.index.result.now [] (omega (arith, same_count cs)) c.index.ensures)

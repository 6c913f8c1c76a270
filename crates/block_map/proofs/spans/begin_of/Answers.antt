use Rattle.std.proofs.Common.{sym, arith}
use Rattle.composite_spec.specs.Said.{offset_of}
use Rattle.block_map.proofs.Components.{at_placed, same_count}
use Rattle.block_map.proofs.spans.begin_of.Goals as goal

pub returns : goal.returns
returns c = sym (at_placed offset_of c.args.spec.now.components.items c.args.index c.index.result.now 0 (omega (arith, same_count c.args.spec.now.components.items)) c.index.ensures)

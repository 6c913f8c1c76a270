use Rattle.std.proofs.Common.{sym, false, arith}
use Rattle.block_map.specs.Disk.{write_of}
use Rattle.block_map.proofs.Components.{at_placed, same_count}
use Rattle.block_map.proofs.spans.is_writable.Goals as goal

pub returns : goal.returns
returns c = sym (at_placed write_of c.args.spec.now.components.items c.args.index c.index.result.now false (omega (arith, same_count c.args.spec.now.components.items)) c.index.ensures)

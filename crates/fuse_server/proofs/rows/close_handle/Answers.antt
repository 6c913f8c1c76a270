use Rattle.std.proofs.Common.{sym}
use Rattle.fuse_server.specs.Parts.{state_of}
use Rattle.fuse_server.proofs.Nodes.{held_open}
use Rattle.fuse_server.proofs.rows.close_handle.Goals as goal

pub close-requires : goal.close-requires
close-requires c = held_open (state_of c.args.parts.now) c.args.fh c.args.node (sym c.in-Ok.ensures)

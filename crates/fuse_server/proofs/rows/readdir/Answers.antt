use Rattle.std.proofs.Common.{sym}
use Rattle.fuse_server.specs.Parts.{state_of}
use Rattle.fuse_server.proofs.Nodes.{dir_live}
use Rattle.fuse_server.proofs.rows.readdir.Goals as goal

pub list-requires-clause-dir : goal.list-requires-clause-dir
list-requires-clause-dir c = dir_live (state_of c.args.parts.now) c.args.node (sym c.in-Ok.ensures)

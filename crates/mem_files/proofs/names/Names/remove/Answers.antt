use Rattle.std.proofs.Common.{false}
use Rattle.mem_files.proofs.NameKeys.{renamed}
use Rattle.mem_files.proofs.names.Names.remove.Goals as goal

pub returns : goal.returns
returns c = λ other.
    let u = c.remove.ensures.updates in
    rw (← c.self.view_is) (renamed false c.args.name.now c.self.inside.names.keys c.remove.new.self.keys u.1 u.3 other)

use Rattle.std.proofs.Common.{◌≡◌, true, rules}
use Rattle.mem_files.proofs.NameKeys.{renamed}
use Rattle.mem_files.proofs.names.Names.add.Goals as goal

pub returns-clause-ok : goal.returns-clause-ok
returns-clause-ok c = λ other.
    let u = c.in-Ok-insert.ensures.updates in
    let name : c.in-Ok.key.items ≡ c.args.name.now = search rules in
    rw (← c.self.view_is, ← name) (renamed true c.in-Ok.key.items c.self.inside.names.keys c.insert.new.self.keys u.1 u.3 other)

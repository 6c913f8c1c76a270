use Rattle.ro_file.proofs.Serving.{read_right}
use Rattle.ro_file.proofs.files.RoFile.read.Goals as goal

pub returns-clause-did : goal.returns-clause-did
returns-clause-did g c = rw (← c.self.view_is) c.read_range.ensures.did

pub returns-clause-held : goal.returns-clause-held
returns-clause-held g c = read_right c.args.self.now c.args.at c.args.len _ _ _ _ (rw (← c.self.view_is) c.read_range.ensures.held)

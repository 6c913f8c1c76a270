use Rattle.std.proofs.Common.{ap, ◌∙◌}
use Rattle.mem_files.specs.Files.{has_name}
use Rattle.mem_files.proofs.NameKeys.{has_key}
use Rattle.mem_files.proofs.names.Names.has.Goals as goal

pub returns : goal.returns
returns c = c.contains.ensures ∙ has_key c.args.name.now c.self.inside.names.keys ∙ ap (λ names. has_name names c.args.name.now) c.self.view_is

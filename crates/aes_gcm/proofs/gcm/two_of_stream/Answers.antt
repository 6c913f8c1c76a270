use Rattle.std.proofs.Common.{◌∙◌, ap}
use Rattle.aes_core.specs.Aes.{cipher}
use Rattle.aes_gcm.proofs.gcm.two_of_stream.Goals as goal

pub returns-clause-first : goal.returns-clause-first
returns-clause-first c = c.encrypt_two.ensures.first ∙ ap (cipher c.args.aes.now) c.counter-first.ensures

pub returns-clause-second : goal.returns-clause-second
returns-clause-second c = c.encrypt_two.ensures.second ∙ ap (cipher c.args.aes.now) c.counter-second.ensures

use Rattle.std.proofs.Common.{◌∙◌, ap}
use Rattle.aes_core.specs.Aes.{cipher}
use Rattle.aes_gcm.proofs.gcm.of_stream.Goals as goal

pub returns : goal.returns
returns c = c.encrypt.ensures ∙ ap (cipher c.args.aes.now) c.counter-block.ensures

use Rattle.std.proofs.Common.{◌/◌, ◌^◌}
use Rattle.std.proofs.lemmas.Nat.{and_mask}
use Rattle.aes_gcm.proofs.ghash.byte_of.Goals as goal

pub returns : goal.returns
returns c = and_mask (c.args.x / 2 ^ c.args.at) 8

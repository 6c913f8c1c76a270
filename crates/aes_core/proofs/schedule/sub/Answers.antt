use Rattle.std.proofs.Common.{arith}
use Rattle.aes_core.proofs.Entries.{sbox_entry}
use Rattle.aes_core.proofs.schedule.sub.Goals as goal

pub returns : goal.returns
returns c = sbox_entry c.args.x (omega arith)

use Rattle.std.proofs.Common.{sym, arith}
use Rattle.guid_crc.proofs.Divided.{remainder-byte}
use Rattle.guid_crc.proofs.crc.with_byte.Goals as goal

pub returns : goal.returns
returns c = sym (remainder-byte c.args.register c.args.byte (omega arith))

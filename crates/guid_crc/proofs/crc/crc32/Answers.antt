use Rattle.std.proofs.Common.{arith}
use Rattle.guid_crc.specs.Remainder.{ones}
use Rattle.guid_crc.proofs.Divided.{remainder-none, remainder-more}
use Rattle.guid_crc.proofs.crc.crc32.Goals as goal

pub loop-byte-init : goal.loop-byte-init
loop-byte-init c = remainder-none ones

pub loop-byte-preserved : goal.loop-byte-preserved
loop-byte-preserved c =
    remainder-more ones c.loop-byte.register c.with_byte-next.result c.loop-byte.byte-index c.args.bytes.now (omega arith) c.loop-byte.invariant c.with_byte-next.ensures

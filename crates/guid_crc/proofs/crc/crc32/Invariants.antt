use Rattle.std.proofs.Common.{◌≡◌, take}
use Rattle.guid_crc.specs.Remainder.{remainder, message_bits, ones}
use Rattle.guid_crc.proofs.crc.crc32.Given as goal

abbrev pub invariant-loop-byte : goal.invariant-loop-byte
invariant-loop-byte l = l.register ≡ remainder ones (message_bits (take l.byte-index l.bytes))

use Rattle.std.proofs.Common.{◌∙◌}
use Rattle.gpt.proofs.ImageLaws.{head_is, tail_is}
use Rattle.gpt.proofs.writing.image_of.Goals as goal

pub returns-clause-head : goal.returns-clause-head
returns-clause-head c =
    head_is c.taken-sum.result c.crc32-array_crc.result c.in_ok-head.head.items c.as_slice-bytes.result.now c.in_ok-primary.primary c.plain_header.result c.args.disk c.args.parts.now
    c.taken-sum.ensures (c.as_slice-bytes.ensures.value ∙ c.in_ok-array.ensures.text) c.crc32-array_crc.ensures c.plain_header.ensures c.in_ok-primary.ensures c.in_ok-head.ensures

pub returns-clause-tail : goal.returns-clause-tail
returns-clause-tail c =
    tail_is c.taken-sum.result c.crc32-array_crc.result c.in_ok-tail.tail.items c.as_slice-bytes.result.now c.in_ok-alternate.alternate c.plain_header-2.result c.args.disk c.args.parts.now
    c.taken-sum.ensures (c.as_slice-bytes.ensures.value ∙ c.in_ok-array.ensures.text) c.crc32-array_crc.ensures c.plain_header-2.ensures c.in_ok-alternate.ensures c.in_ok-tail.ensures

use Rattle.gpt.specs.Header.{le32, signature}
use Rattle.gpt.specs.Runs.{header_front}
use Rattle.gpt.proofs.Joins.{weaker, joined5}
use Rattle.gpt.proofs.putting.put_front.Goals as goal

pub returns : goal.returns
unfolding header_front
returns c =
    weaker c.put_u32-4.result
    (λ last. joined5 c.args.out.now.items (signature) (le32 c.args.header.now.revision) (le32 c.args.header.now.size) (le32 c.args.header.now.crc) (le32 c.args.header.now.reserved) c.put.new.out.items c.put_u32.new.out.items c.put_u32-2.new.out.items c.put_u32-3.new.out.items c.put_u32-4.new.out.items c.in_ok-put.ensures.text c.in_ok-put_u32.ensures c.in_ok-put_u32-2.ensures c.in_ok-put_u32-3.ensures last)
    c.put_u32-4.ensures

use Rattle.gpt.specs.Header.{le32, le64}
use Rattle.gpt.specs.Runs.{header_back}
use Rattle.guid_crc.specs.Guids.{disk_form}
use Rattle.gpt.proofs.Joins.{weaker, joined5}
use Rattle.gpt.proofs.putting.put_back.Goals as goal

pub returns : goal.returns
unfolding header_back
returns c =
    weaker c.put_u32-3.result
    (λ last. joined5 c.args.out.now.items (disk_form c.args.header.now.disk.0) (le64 c.args.header.now.array) (le32 c.args.header.now.count) (le32 c.args.header.now.entry_size) (le32 c.args.header.now.array_crc) c.put_guid.new.out.items c.put_u64.new.out.items c.put_u32.new.out.items c.put_u32-2.new.out.items c.put_u32-3.new.out.items c.in_ok-put_guid.ensures.text c.in_ok-put_u64.ensures c.in_ok-put_u32.ensures c.in_ok-put_u32-2.ensures last)
    c.put_u32-3.ensures

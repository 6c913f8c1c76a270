use Rattle.gpt.specs.Header.{le64}
use Rattle.guid_crc.specs.Guids.{disk_form}
use Rattle.gpt.specs.Entries.{entry_text, IsEntry}
use Rattle.std.proofs.Common.{◌≡◌, length, arith, rules}
use Rattle.gpt.proofs.Joins.{weaker, joined6}
use Rattle.gpt.proofs.putting.put_entry.Goals as goal

pub returns-clause-text : goal.returns-clause-text
unfolding entry_text
returns-clause-text c =
    weaker c.put.result
    (λ last. joined6 c.args.out.now.items (disk_form c.args.entry.now.kind.0) (disk_form c.args.entry.now.unique.0) (le64 c.args.entry.now.first) (le64 c.args.entry.now.last) (le64 c.args.entry.now.attributes) (c.args.entry.now.name) c.put_guid.new.out.items c.put_guid-2.new.out.items c.put_u64.new.out.items c.put_u64-2.new.out.items c.put_u64-3.new.out.items c.put.new.out.items c.in_ok-put_guid.ensures.text c.in_ok-put_guid-2.ensures.text c.in_ok-put_u64.ensures c.in_ok-put_u64-2.ensures c.in_ok-put_u64-3.ensures last)
    c.put.ensures.text

pub returns-clause-fits : goal.returns-clause-fits
returns-clause-fits c =
    let name : length c.args.entry.now.name ≡ 72 = search rules in
    let fits : IsEntry c.args.entry.now = record {
      kind = c.put_guid.ensures.fits;
      unique = c.put_guid-2.ensures.fits;
      first = omega arith;
      last = omega arith;
      attributes = omega arith;
      name = name;
      bytes = c.put.ensures.bytes;
    } in
    weaker c.put.result (λ _. fits) c.put.ensures.text

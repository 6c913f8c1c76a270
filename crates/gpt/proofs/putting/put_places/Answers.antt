use Rattle.gpt.specs.Header.{le64}
use Rattle.gpt.specs.Runs.{header_places}
use Rattle.gpt.proofs.Joins.{weaker, joined4}
use Rattle.gpt.proofs.putting.put_places.Goals as goal

pub returns : goal.returns
unfolding header_places
returns c =
    weaker c.put_u64-4.result
    (λ last. joined4 c.args.out.now.items (le64 c.args.header.now.own) (le64 c.args.header.now.other) (le64 c.args.header.now.first_usable) (le64 c.args.header.now.last_usable) c.put_u64.new.out.items c.put_u64-2.new.out.items c.put_u64-3.new.out.items c.put_u64-4.new.out.items c.in_ok-put_u64.ensures c.in_ok-put_u64-2.ensures c.in_ok-put_u64-3.ensures last)
    c.put_u64-4.ensures

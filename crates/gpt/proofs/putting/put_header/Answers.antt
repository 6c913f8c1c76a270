use Rattle.gpt.specs.Runs.{header_front, header_places, header_back}
use Rattle.gpt.specs.Header.{header_text}
use Rattle.gpt.proofs.Joins.{weaker, joined3}
use Rattle.gpt.proofs.putting.put_header.Goals as goal

pub returns : goal.returns
unfolding header_front header_places header_back header_text
returns c =
    weaker c.put_back.result
    (λ last. joined3 c.args.out.now.items (header_front c.args.header.now) (header_places c.args.header.now) (header_back c.args.header.now) c.put_front.new.out.items c.put_places.new.out.items c.put_back.new.out.items c.in_ok-put_front.ensures c.in_ok-put_places.ensures last)
    c.put_back.ensures

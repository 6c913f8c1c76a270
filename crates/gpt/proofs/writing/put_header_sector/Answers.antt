use Rattle.gpt.specs.Header.{header_text}
use Rattle.gpt.specs.Image.{zeros}
use Rattle.gpt.proofs.Joins.{weaker, joined2}
use Rattle.gpt.proofs.writing.put_header_sector.Goals as goal

pub returns : goal.returns
returns c =
    weaker c.put_zeros.result
    (λ last. joined2 c.args.out.now.items (header_text c.args.header.now) (zeros 420) c.put_header.new.out.items c.put_zeros.new.out.items c.in_ok-put_header.ensures last)
    c.put_zeros.ensures

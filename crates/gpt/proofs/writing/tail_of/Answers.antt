use Rattle.std.proofs.Common.{◌++◌, List, ℕ, ap, ◌∙◌}
use Rattle.gpt.specs.Image.{zeros, header_sector}
use Rattle.gpt.proofs.Joins.{joined3}
use Rattle.gpt.proofs.writing.tail_of.Goals as goal

pub returns : goal.returns
returns c =
    let sector = header_sector c.args.header.now in
    let array = c.args.array.now in
    joined3 c.new-out.result.items (zeros 3584) array sector c.put_zeros.new.out.items c.put.new.out.items c.put_header_sector.new.out.items
    c.in_ok-put_zeros.ensures c.in_ok-put.ensures.text c.in_ok-put_header_sector.ensures
    ∙ ap (λ (o : List ℕ). o ++ (zeros 3584 ++ (array ++ sector))) c.new-out.ensures.items

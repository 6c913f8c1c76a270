use Rattle.std.proofs.Common.{◌++◌, List, ℕ, ap, ◌∙◌}
use Rattle.gpt.specs.Image.{zeros, mbr_with, header_sector}
use Rattle.gpt.proofs.Joins.{joined4}
use Rattle.gpt.proofs.writing.head_of.Goals as goal

pub returns : goal.returns
returns c =
    let sector = header_sector c.args.header.now in
    let array = c.args.array.now in
    let mbr = mbr_with c.others_of.result in
    joined4 c.new-out.result.items mbr sector array (zeros 3072) c.put_mbr.new.out.items c.put_header_sector.new.out.items c.put.new.out.items c.put_zeros.new.out.items
    c.in_ok-put_mbr.ensures c.in_ok-put_header_sector.ensures c.in_ok-put.ensures.text c.in_ok-put_zeros.ensures
    ∙ ap (λ (o : List ℕ). o ++ (mbr ++ (sector ++ (array ++ zeros 3072)))) c.new-out.ensures.items
    ∙ ap (λ (n : ℕ). mbr_with n ++ (sector ++ (array ++ zeros 3072))) c.others_of.ensures

use Rattle.std.proofs.Common.{◌∷◌, []}
use Rattle.gpt.specs.Header.{le32}
use Rattle.gpt.specs.Image.{zeros, mbr_with}
use Rattle.gpt.proofs.Joins.{weaker, joined6}
use Rattle.gpt.proofs.writing.put_mbr.Goals as goal

pub returns : goal.returns
unfolding mbr_with
returns c =
    weaker c.put-2.result
    (λ last. joined6 c.args.out.now.items (zeros 446) (0 ∷ 0 ∷ 2 ∷ 0 ∷ 0xee ∷ 0xff ∷ 0xff ∷ 0xff ∷ []) (le32 1) (le32 c.args.others) (zeros 48) (0x55 ∷ 0xaa ∷ []) c.put_zeros.new.out.items c.put.new.out.items c.put_u32.new.out.items c.put_u32-2.new.out.items c.put_zeros-2.new.out.items c.put-2.new.out.items c.in_ok-put_zeros.ensures c.in_ok-put.ensures.text c.in_ok-put_u32.ensures c.in_ok-put_u32-2.ensures c.in_ok-put_zeros-2.ensures last)
    c.put-2.ensures.text

use Rattle.sha_tree.proofs.Cuts.{IsCut-filled, IsCut-whole}
use Rattle.sha_tree.proofs.builder.absorb.Goals as goal

pub returns-then-filled-piece-eq4096-clause-cut : goal.returns-then-filled-piece-eq4096-clause-cut
returns-then-filled-piece-eq4096-clause-cut c = λ bytes h.
    IsCut-filled _ _ _ c.args.filled c.args.page.now c.args.piece.now c.put.new.self bytes c.hash_page.result
    c.bytes-before.ensures.len c.if-filled-piece-eq4096.true c.put.ensures.value c.bytes-after.ensures.len c.hash_page.ensures c.push_reserved-then-filled-piece-eq4096.ensures.items h

pub returns-then-piece-eq4096-clause-cut : goal.returns-then-piece-eq4096-clause-cut
returns-then-piece-eq4096-clause-cut c = λ bytes h.
    IsCut-whole _ _ _ c.args.filled c.args.page.now c.args.piece.now bytes c.hash_block.result
    c.requires.fits c.if-piece-eq4096.true c.hash_block.ensures c.push_reserved.ensures.items h

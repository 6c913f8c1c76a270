use Rattle.std.proofs.Common.{refl}
use Rattle.verity_path.proofs.Fetching.{short, good, other}
use Rattle.verity_path.proofs.Serving.{failed_right, memory_right, short_right, good_right, other_right}
use Rattle.verity_path.proofs.walk.fetch_page.Goals as goal

pub returns-then-got-piece-clause-did : goal.returns-then-got-piece-clause-did
returns-then-got-piece-clause-did g c =
    short c.args.layout.now c.args.geometry.now _ _ c.args.anchor.now c.level-level.ensures c.index-index.ensures _ _ _ c.in-Ok.ensures.asked
    c.piece_of-piece.result c.piece_of-piece.ensures c.len-got.result c.len-got.ensures c.args.page.now c.args.page.now c.if-got-piece.true refl

pub returns-in-Ok-meets-clause-did : goal.returns-in-Ok-meets-clause-did
returns-in-Ok-meets-clause-did g c =
    good c.args.layout.now c.args.geometry.now _ _ c.args.anchor.now c.level-level.ensures c.index-index.ensures _ _ _ c.in-Ok.ensures.asked
    c.piece_of-piece.result c.piece_of-piece.ensures c.len-got.result c.len-got.ensures c.if-got-piece.false c.in-Ok.ensures.fills
    c.args.page.now _ c.in-Ok-meets.ensures.page _ c.in-Ok-meets.ensures.met

pub returns-in-Err-clause-did : goal.returns-in-Err-clause-did
returns-in-Err-clause-did g c =
    other c.args.layout.now c.args.geometry.now _ _ c.args.anchor.now c.level-level.ensures c.index-index.ensures _ _ _ c.in-Ok.ensures.asked
    c.piece_of-piece.result c.piece_of-piece.ensures c.len-got.result c.len-got.ensures c.if-got-piece.false c.in-Ok.ensures.fills
    c.args.page.now _ c.in-Err.ensures.page c.in-Err.mismatch c.in-Err.ensures.differs c.in-Err.ensures.expected c.in-Err.ensures.found c.in-Err.ensures.level c.in-Err.ensures.index

pub returns-in-Err-Failed-clause-held : goal.returns-in-Err-Failed-clause-held
returns-in-Err-Failed-clause-held g c = failed_right c.args.layout.now c.args.geometry.now _ _ c.args.anchor.now c.level-level.ensures c.index-index.ensures c.requires.low c.requires.within _ _
    c.ask.new.raw c.in-Err-Failed.field-0 c.in-Err-Failed.field-0-is c.in-Err-Failed.ensures.asked _ c.args.page.now

pub returns-in-Err-Memory-clause-held : goal.returns-in-Err-Memory-clause-held
returns-in-Err-Memory-clause-held g c = memory_right c.args.layout.now c.args.geometry.now _ _ c.args.anchor.now c.level-level.ensures c.index-index.ensures c.requires.low c.requires.within _ _
    c.ask.new.raw c.in-Err-Memory.field-0 c.in-Err-Memory.field-0-is c.in-Err-Memory.ensures.asked c.args.page.now

pub returns-then-got-piece-clause-held : goal.returns-then-got-piece-clause-held
returns-then-got-piece-clause-held g c = short_right c.args.layout.now c.args.geometry.now _ _ c.args.anchor.now c.level-level.ensures c.index-index.ensures c.requires.low c.requires.within _ _
    _ c.in-Ok.ensures.asked c.piece_of-piece.result c.piece_of-piece.ensures c.len-got.result c.len-got.ensures c.args.page.now c.if-got-piece.true

pub returns-in-Ok-meets-clause-held : goal.returns-in-Ok-meets-clause-held
returns-in-Ok-meets-clause-held g c = good_right c.args.layout.now c.args.geometry.now _ _ c.args.anchor.now c.level-level.ensures c.index-index.ensures c.requires.low c.requires.within _ _
    _ c.in-Ok.ensures.asked c.piece_of-piece.result c.piece_of-piece.ensures c.len-got.result c.len-got.ensures _ c.in-Ok-meets.ensures.page _

pub returns-in-Err-clause-held : goal.returns-in-Err-clause-held
returns-in-Err-clause-held g c = other_right c.args.layout.now c.args.geometry.now _ _ c.args.anchor.now c.level-level.ensures c.index-index.ensures c.requires.low c.requires.within _ _
    _ c.in-Ok.ensures.asked c.piece_of-piece.result c.piece_of-piece.ensures c.len-got.result c.len-got.ensures _ c.in-Err.ensures.page c.in-Err.mismatch c.in-Err.ensures.differs c.in-Err.ensures.expected c.in-Err.ensures.found

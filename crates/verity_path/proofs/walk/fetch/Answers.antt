use Rattle.verity_path.proofs.Serving.{proved_right}
use Rattle.verity_path.proofs.walk.fetch.Goals as goal

pub returns-in-Ok-clause-held : goal.returns-in-Ok-clause-held
returns-in-Ok-clause-held g c =
    proved_right c.args.layout.now c.args.geometry.now c.args.anchor.now _ _ _ c.in-Ok.field-0 c.new.result c.new.ensures.page c.in-Ok.ensures.held

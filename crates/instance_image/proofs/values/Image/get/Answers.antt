use Rattle.instance_image.proofs.Promises.{get_right}
use Rattle.instance_image.proofs.values.Image.get.Goals as goal

pub returns-clause-held : goal.returns-clause-held
returns-clause-held g c = get_right c.args.self.now c.args.secret.now c.args.uuid.now.0 _ _ c.read_record.result c.read_record.ensures

use Rattle.std.proofs.Common.{◌≡◌, length, rules}
use Rattle.instance_image.specs.Opening.{opening}
use Rattle.instance_image.proofs.Found.{image_right}
use Rattle.instance_image.proofs.opening.open_image.Goals as goal

pub returns-clause-held : goal.returns-clause-held
returns-clause-held g c =
    let len : length c.args.salt.now ≡ 64 = search rules in
    image_right (opening c.args.disk c.args.span c.args.salt.now) _ _ c.read_image.result c.requires.some len c.read_image.ensures

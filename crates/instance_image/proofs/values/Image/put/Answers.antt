use Rattle.std.proofs.Common.{◌≡◌, length, rules}
use Rattle.instance_image.proofs.Others.{put_right}
use Rattle.instance_image.proofs.values.Image.put.Goals as goal

pub returns-clause-held : goal.returns-clause-held
returns-clause-held g c =
    let nonce : length c.args.nonce.now ≡ 12 = search rules in
    put_right c.args.self.now c.args.secret.now c.args.uuid.now.0 c.args.nonce.now c.args.text.now _ _ c.write_record.new.self c.write_record.result
    c.write_record.ensures.laid nonce c.write_record.ensures.did

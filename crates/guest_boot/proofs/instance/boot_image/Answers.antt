use Rattle.guest_boot.proofs.Instances.{image_no_part, image_boots, image_refused}
use Rattle.guest_boot.proofs.instance.boot_image.Goals as goal

pub returns-in-Err : goal.returns-in-Err
returns-in-Err g c = image_no_part c.args.tables.now.items c.args.disk c.args.part.now c.args.salt.now c.part_on.new.tables.items _ _ c.in-Err.why c.in-Err.ensures.did

pub returns-in-Ok-open_image : goal.returns-in-Ok-open_image
returns-in-Ok-open_image g c =
    image_boots c.args.tables.now.items c.args.disk c.args.part.now c.args.salt.now c.part_on.new.tables.items _ _ _ c.in-Ok.span c.in-Ok.ensures.did c.in-Ok-open_image.image c.in-Ok-open_image.ensures.opened

pub returns-in-Err-open_image : goal.returns-in-Err-open_image
returns-in-Err-open_image g c =
    rw c.image_cause.ensures (image_refused c.args.tables.now.items c.args.disk c.args.part.now c.args.salt.now c.part_on.new.tables.items _ _ _ c.in-Ok.span c.in-Ok.ensures.did c.in-Err-open_image.fault c.in-Err-open_image.ensures.opened)

use Rattle.guest_images.proofs.ImageListed.{parts_named}
use Rattle.guest_images.proofs.imaging.make_image.Goals as goal

pub image_of-requires-clause-named : goal.image_of-requires-clause-named
image_of-requires-clause-named g c = parts_named c.in-Ok.list.parts.items c.in-Ok.ensures.outcome.is.each

use Rattle.aes_core.proofs.Looks.{looked, places_ok}
use Rattle.aes_core.proofs.lanes.look.Goals as goal

pub swizzle : goal.swizzle
swizzle c = places_ok c.args.places c.fits-places.0 c.requires

pub returns : goal.returns
returns c = looked c.args.table c.args.places c.fits-places.0

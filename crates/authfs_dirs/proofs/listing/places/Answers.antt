use Rattle.authfs_dirs.specs.Inodes.{node_of}
use Rattle.authfs_dirs.proofs.ListingLemmas.{from_zero, from_one, from_more}
use Rattle.authfs_dirs.proofs.listing.places.Goals as goal

pub returns-then-cookie-eq0-clause-start : goal.returns-then-cookie-eq0-clause-start
returns-then-cookie-eq0-clause-start c = λ m n. rw c.if-cookie-eq0.true (from_zero m n _ (node_of c.args.inode.now) c.args.inode.now.names.slots c.place_after-place.ensures.entries c.place_after-place.ensures.rising)

pub returns-then-cookie-eq1-clause-start : goal.returns-then-cookie-eq1-clause-start
returns-then-cookie-eq1-clause-start c = λ m n. rw c.if-cookie-eq1.true (from_one m n _ (node_of c.args.inode.now) c.args.inode.now.names.slots c.place_after-place.ensures.entries c.place_after-place.ensures.rising)

pub returns-clause-start : goal.returns-clause-start
returns-clause-start c = λ m n. from_more m n c.args.cookie c.place_after-place.result (node_of c.args.inode.now) c.args.inode.now.names.slots c.if-cookie-eq0.false c.if-cookie-eq1.false c.place_after-place.ensures.place

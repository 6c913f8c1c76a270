use Rattle.std.proofs.Common.{sym}
use Rattle.authfs_dirs.specs.Lines.{lines_of}
use Rattle.authfs_dirs.proofs.ListingLemmas.{puts_by, puts_none}
use Rattle.authfs_dirs.proofs.listing.put_place.Goals as goal

pub returns-in-Ok : goal.returns-in-Ok
returns-in-Ok c = puts_by (lines_of c.args.nodes.now.entries c.args.number c.args.inode.now) c.args.size c.args.place c.in-Some.line c.args.out.now.items c.put_whole.new.out.items c.in-Ok.fits (sym c.in-Some.ensures.at) c.requires.within c.in-Ok.ensures

pub returns-in-None : goal.returns-in-None
returns-in-None c = puts_none (lines_of c.args.nodes.now.entries c.args.number c.args.inode.now) c.args.size c.args.place c.args.out.now.items (sym c.in-None.ensures.at) c.requires.within

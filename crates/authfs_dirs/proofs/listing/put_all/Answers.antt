use Rattle.std.proofs.Common.{◌≡◌, sym, ap, ◌∙◌, arith, length}
use Rattle.authfs_dirs.specs.Dirents.{whole}
use Rattle.authfs_dirs.specs.Lines.{lines_of}
use Rattle.authfs_dirs.specs.Inodes.{seen}
use Rattle.authfs_dirs.proofs.ListingLemmas.{all_put, length_lines, placed_bound}
use Rattle.authfs_dirs.proofs.listing.put_all.Goals as goal

pub returns : goal.returns
returns c =
    let m = seen c.args.nodes.now.entries in
    let x = c.args.inode.now in
    let ls = lines_of c.args.nodes.now.entries c.args.number x in
    let ends : c.loop-place.place ≡ length ls = omega (arith, length_lines m c.args.number x.parent x.names.slots, c.places-start.ensures.end, c.places-start.ensures.order) in
    record {
      all = sym (all_put ls c.args.size c.loop-place.place c.loop-place.out.items ends) ∙ c.loop-place.invariant.0 ∙ ap (whole c.args.size) (sym (c.places-start.ensures.start m c.args.number));
      bound = c.loop-place.invariant.1;
    }

pub returns-in-Ok-false-clause-bound : goal.returns-in-Ok-false-clause-bound
returns-in-Ok-false-clause-bound c = placed_bound (lines_of c.args.nodes.now.entries c.args.number c.args.inode.now) c.args.size c.loop-place.place c.loop-place.out.items c.put_place.new.out.items _ c.in-Ok-false.ensures c.loop-place.invariant.1

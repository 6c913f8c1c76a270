use Rattle.std.proofs.Common.{◌≢◌, ◌-◌, Some, refl}
use Rattle.std.specs.Prelude.{slice_get}
use Rattle.authfs_dirs.specs.Dirents.{dot, dot_dot}
use Rattle.authfs_dirs.specs.Lines.{lines, line_of}
use Rattle.authfs_dirs.specs.Inodes.{seen}
use Rattle.authfs_dirs.proofs.ListingLemmas.{third, line_of_row}
use Rattle.authfs_dirs.proofs.listing.line_at.Goals as goal

pub returns-in-Some-clause-at : goal.returns-in-Some-clause-at
unfolding lines
returns-in-Some-clause-at c =
    let m = seen c.args.nodes.now.entries in
    let not0 : c.args.place ≢ 0 = c.if-place-eq0.false in
    let not1 : c.args.place ≢ 1 = c.if-place-eq1.false in
    rw (third (line_of m) (Some (dot c.args.number)) (Some (dot_dot c.args.number c.args.inode.now.parent)) c.args.inode.now.names.slots c.args.place not0 not1, line_of_row m (slice_get c.args.inode.now.names.slots (c.args.place - 2)), ← c.in-Some.ensures.entry, c.kind_number.ensures) refl

pub returns-in-None-clause-at : goal.returns-in-None-clause-at
unfolding lines
returns-in-None-clause-at c =
    let m = seen c.args.nodes.now.entries in
    let not0 : c.args.place ≢ 0 = c.if-place-eq0.false in
    let not1 : c.args.place ≢ 1 = c.if-place-eq1.false in
    rw (third (line_of m) (Some (dot c.args.number)) (Some (dot_dot c.args.number c.args.inode.now.parent)) c.args.inode.now.names.slots c.args.place not0 not1, line_of_row m (slice_get c.args.inode.now.names.slots (c.args.place - 2)), ← c.in-None.ensures.entry) refl

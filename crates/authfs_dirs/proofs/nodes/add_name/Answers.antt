use Rattle.std.proofs.Common.{◌≡◌, Some, refl}
use Rattle.std.specs.Prelude.{IsSome}
use Rattle.authfs_dirs.specs.Names.{with_name}
use Rattle.authfs_dirs.specs.Inodes.{inode_at}
use Rattle.authfs_dirs.proofs.SeenLemmas.{seen_changed}
use Rattle.authfs_dirs.proofs.nodes.add_name.Goals as goal

pub returns-in-Some-clause-nodes : goal.returns-in-Some-clause-nodes
returns-in-Some-clause-nodes c =
    let there : Some c.in-Some.inode.now ≡ inode_at c.args.nodes.now.entries c.args.parent = c.in-Some.ensures.value in
    let here : IsSome (inode_at c.args.nodes.now.entries c.args.parent) = rw (← there) refl in
    let w = c.get_mut.follows.holds (record { kind = c.in-Some.inode.now.kind; lookups = c.in-Some.inode.now.lookups; pins = c.in-Some.inode.now.pins; parent = c.in-Some.inode.now.parent; names = c.add.new.self }) in
    seen_changed c.args.nodes.now.entries _ c.args.parent c.in-Some.inode.now _ (with_name c.args.name c.args.number) there (rw (c.add.ensures.entries, c.add.ensures.next) refl) (w.3 here).0

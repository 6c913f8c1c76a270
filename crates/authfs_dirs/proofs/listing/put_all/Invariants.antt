use Rattle.std.proofs.Common.{◌≡◌, ◌≤◌, ◌++◌, ◌-◌, length, drop}
use Rattle.authfs_dirs.specs.Dirents.{whole}
use Rattle.authfs_dirs.specs.Lines.{lines_of, present}
use Rattle.authfs_dirs.proofs.listing.put_all.Given as goal

-- what is there and what would still be put are the whole listing
abbrev pub invariant-loop-place : goal.invariant-loop-place
invariant-loop-place l =
    (l.out.items ++ whole (l.size - length l.out.items) (present (drop l.place (lines_of l.nodes.entries l.number l.inode))) ≡ whole l.size (present (drop l.initial.start (lines_of l.nodes.entries l.number l.inode))))
    × (length l.out.items ≤ l.size)

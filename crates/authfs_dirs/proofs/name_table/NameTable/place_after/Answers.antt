use Rattle.std.proofs.Common.{map}
use Rattle.authfs_dirs.specs.Tables.{slot_of}
use Rattle.authfs_dirs.proofs.TableLemmas.{rises}
use Rattle.authfs_dirs.proofs.name_table.NameTable.place_after.Goals as goal

pub place_after-requires : goal.place_after-requires
place_after-requires c = rw c.as_slice.ensures.value (rises 3 c.self.inside.next (map slot_of c.self.inside.rows.items) c.self.invariant.rising)

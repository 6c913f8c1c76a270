use Rattle.guest_files.proofs.Refusals.{disk_stops, composite_stops, verity_stops}
use Rattle.guest_files.proofs.stocking.add_line.Goals as goal

pub returns-in-Disk-clause-err : goal.returns-in-Disk-clause-err
returns-in-Disk-clause-err g c = rw c.in-Disk.is (disk_stops _ c.in-Disk.n c.in-Disk.file _ _ c.add_disk.result (rw c.as_str.ensures at c.add_disk.ensures.err))

pub returns-in-Composite-clause-err : goal.returns-in-Composite-clause-err
returns-in-Composite-clause-err g c = rw c.in-Composite.is (composite_stops _ c.in-Composite.n c.in-Composite.file _ _ c.add_composite.result (rw c.as_str-in-Composite.ensures at c.add_composite.ensures.err))

pub returns-in-Verity-clause-err : goal.returns-in-Verity-clause-err
returns-in-Verity-clause-err g c = rw c.in-Verity.is (verity_stops _ c.in-Verity.n c.in-Verity.file c.in-Verity.salt _ _ c.add_verity.result (rw c.as_str-in-Verity.ensures at c.add_verity.ensures.err))

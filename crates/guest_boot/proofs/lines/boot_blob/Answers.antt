use Rattle.std.proofs.Common.{subst, sym}
use Rattle.guest_boot.specs.Booting.{AreItems}
use Rattle.guest_boot.proofs.Makes.{items_push, device_is_item}
use Rattle.guest_boot.proofs.lines.boot_blob.Goals as goal

pub returns-in-Ok-clause-items : goal.returns-in-Ok-clause-items
returns-in-Ok-clause-items c = subst AreItems (sym c.in-Ok.ensures.items) (items_push _ _ c.requires.items (device_is_item c.args.file c.args.measure.now c.requires.measure))

pub returns-in-Err-clause-items : goal.returns-in-Err-clause-items
returns-in-Err-clause-items c = subst AreItems (sym c.in-Err.ensures.items) c.requires.items

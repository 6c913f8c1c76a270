use Rattle.std.proofs.Common.{take}
use Rattle.host_tape.specs.Tape.{items_bytes}
use Rattle.host_tape.proofs.Kept.{kept_on}
use Rattle.host_tape.proofs.writing.put_items.Goals as goal

pub returns-in_err-put_item-clause-kept : goal.returns-in_err-put_item-clause-kept
returns-in_err-put_item-clause-kept c =
    kept_on c.args.out.now.items c.loop-item.out.items c.put_item.new.out.items (items_bytes (take c.loop-item.item-index c.args.items.now)) c.loop-item.invariant.so_far c.put_item.ensures.kept

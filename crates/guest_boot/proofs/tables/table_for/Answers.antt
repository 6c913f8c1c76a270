use Rattle.std.proofs.Common.{arith}
use Rattle.guest_boot.proofs.Finds.{known_before, read_now, no_room}
use Rattle.guest_boot.proofs.tables.table_for.Goals as goal

pub returns-in-Some-clause-did : goal.returns-in-Some-clause-did
returns-in-Some-clause-did g c = known_before c.args.tables.now.items c.args.disk c.in-Some.place _ (rw c.as_slice.ensures.value at c.in-Some.ensures.known)

pub returns-in-Err-push-clause-did : goal.returns-in-Err-push-clause-did
returns-in-Err-push-clause-did g c =
    no_room c.args.tables.now.items c.args.disk c.in-Ok.table _ _ c.push.new.self.items (rw c.as_slice.ensures.value at c.in_default.ensures.known) c.in-Ok.ensures

pub returns-clause-did : goal.returns-clause-did
returns-clause-did g c =
    read_now c.args.tables.now.items c.args.disk _ _ c.in-Ok.table c.push.new.self.items c.len-place.result (rw c.as_slice.ensures.value at c.in_default.ensures.known) c.in-Ok.ensures c.in-Ok-push.ensures.items
    (omega (arith, c.len-place.ensures, c.args.tables.now.ok))

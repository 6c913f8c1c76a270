use Rattle.std.proofs.Common.{Option, Ok, Err, refl, subst}
use Rattle.host_traits.specs.Did.{Did}
use Rattle.sha_tree.specs.declared.measure.Measure.{Measure}
use Rattle.apk_verity.specs.Opening.{opening, IsIdsigCall}
use Rattle.guest_boot.specs.Booting.{plain_of, DeviceOutcome}
use Rattle.guest_boot.proofs.Makes.{apk_no_parts, apk_unopened, apk_opened, copied_is}
use Rattle.guest_boot.proofs.lines.boot_apk.Goals as goal

pub returns-in-Err-clause-did : goal.returns-in-Err-clause-did
returns-in-Err-clause-did g c = apk_no_parts (plain_of c.args.boot.now) c.args.disk c.args.apk.now c.args.idsig.now c.args.how.now _ _ c.in-Err.why c.parts_on.new.tables.items (plain_of (record { tables = c.parts_on.new.tables; items = c.args.boot.now.items; files = c.args.boot.now.files; image = c.args.boot.now.image; entropy = c.args.boot.now.entropy })) c.in-Err.ensures.did

pub returns-in-Ok-add_device-clause-did : goal.returns-in-Ok-add_device-clause-did
returns-in-Ok-add_device-clause-did g c =
    apk_opened (plain_of c.args.boot.now) c.args.disk c.args.apk.now c.args.idsig.now c.args.how.now _ _ _ c.parts_on.new.tables.items c.in-Ok.parts c.in-Ok.ensures.did _ c.add_device.new.items.items c.in-Ok-add_device.field-0 refl
    (subst (λ (m : Option Measure). Did (IsIdsigCall (opening c.args.disk c.in-Ok.parts.0 c.in-Ok.parts.1 m)) 1 (g.H.Host.told c.parts_on.new.host) (g.H.Host.told c.add_device.new.host)
    (DeviceOutcome c.args.disk c.in-Ok.parts m c.args.boot.now.items.items c.add_device.new.items.items (Ok c.in-Ok-add_device.field-0))) (copied_is _ _ c.measure_in.ensures.value) c.in-Ok-add_device.ensures.did)

pub returns-in-Err-add_device-clause-did : goal.returns-in-Err-add_device-clause-did
returns-in-Err-add_device-clause-did g c =
    apk_unopened (plain_of c.args.boot.now) c.args.disk c.args.apk.now c.args.idsig.now c.args.how.now _ _ _ c.parts_on.new.tables.items c.in-Ok.parts c.in-Ok.ensures.did
    (plain_of (record { tables = c.parts_on.new.tables; items = c.add_device.new.items; files = c.args.boot.now.files; image = c.args.boot.now.image; entropy = c.args.boot.now.entropy })) c.add_device.new.items.items c.in-Err-add_device.why
    (subst (λ (m : Option Measure). Did (IsIdsigCall (opening c.args.disk c.in-Ok.parts.0 c.in-Ok.parts.1 m)) 1 (g.H.Host.told c.parts_on.new.host) (g.H.Host.told c.add_device.new.host)
    (DeviceOutcome c.args.disk c.in-Ok.parts m c.args.boot.now.items.items c.add_device.new.items.items (Err c.in-Err-add_device.why))) (copied_is _ _ c.measure_in.ensures.value) c.in-Err-add_device.ensures.did)

use Rattle.std.proofs.Common.{Option, Ok, Err, subst}
use Rattle.host_traits.specs.Did.{Did}
use Rattle.sha_tree.specs.declared.measure.Measure.{Measure}
use Rattle.apk_verity.specs.Opening.{opening, IsIdsigCall}
use Rattle.guest_boot.specs.Booting.{DeviceOutcome}
use Rattle.guest_boot.proofs.Recording.{ungot, unopened, opened_by, opened_first, is_empty}
use Rattle.guest_boot.proofs.lines.boot_measured.Goals as goal

pub keep_measure-requires : goal.keep_measure-requires
keep_measure-requires g c = is_empty c.args.image.now c.args.secret.now c.args.uuid.now.0 c.in-Ok.measure c.in-None.is _ c.in-Ok.ensures.did.outcome.1

pub returns-in-Err-clause-did : goal.returns-in-Err-clause-did
returns-in-Err-clause-did g c =
    ungot c.args.disk c.args.parts c.args.uuid.now.0 c.args.secret.now c.args.image.now c.args.entropy.now c.args.items.now.items (record { image = c.args.image.now; entropy = c.args.entropy.now; items = c.args.items.now.items }) c.in-Err.why _ _ c.in-Err.ensures.did

pub returns-in-Err-add_device-clause-did : goal.returns-in-Err-add_device-clause-did
returns-in-Err-add_device-clause-did g c =
    unopened c.args.disk c.args.parts c.args.uuid.now.0 c.args.secret.now c.args.image.now c.args.entropy.now c.args.items.now.items c.in-Ok.measure _ _ _ c.in-Ok.ensures.did
    (record { image = c.args.image.now; entropy = c.args.entropy.now; items = c.add_device.new.items.items }) c.in-Err-add_device.why c.add_device.new.items.items
    (subst (λ (m : Option Measure). Did (IsIdsigCall (opening c.args.disk c.args.parts.0 c.args.parts.1 m)) 1 (g.H.Host.told c.got_measure.new.host) (g.H.Host.told c.add_device.new.host)
    (DeviceOutcome c.args.disk c.args.parts m c.args.items.now.items c.add_device.new.items.items (Err c.in-Err-add_device.why))) c.as_ref.ensures.value c.in-Err-add_device.ensures.did)

pub returns-in-Some-clause-did : goal.returns-in-Some-clause-did
returns-in-Some-clause-did g c =
    opened_by c.args.disk c.args.parts c.args.uuid.now.0 c.args.secret.now c.args.image.now c.args.entropy.now c.args.items.now.items c.in-Ok.measure _ _ _ c.in-Ok.ensures.did
    c.add_device.new.items.items c.in-Ok-add_device.found
    (subst (λ (m : Option Measure). Did (IsIdsigCall (opening c.args.disk c.args.parts.0 c.args.parts.1 m)) 1 (g.H.Host.told c.got_measure.new.host) (g.H.Host.told c.add_device.new.host)
    (DeviceOutcome c.args.disk c.args.parts m c.args.items.now.items c.add_device.new.items.items (Ok c.in-Ok-add_device.found))) c.as_ref.ensures.value c.in-Ok-add_device.ensures.did)
    c.in-Some.field-0 c.in-Some.is

pub returns-in-None-clause-did : goal.returns-in-None-clause-did
returns-in-None-clause-did g c =
    opened_first c.args.disk c.args.parts c.args.uuid.now.0 c.args.secret.now c.args.image.now c.args.entropy.now c.args.items.now.items c.in-Ok.measure _ _ _ c.in-Ok.ensures.did
    c.add_device.new.items.items c.in-Ok-add_device.found
    (subst (λ (m : Option Measure). Did (IsIdsigCall (opening c.args.disk c.args.parts.0 c.args.parts.1 m)) 1 (g.H.Host.told c.got_measure.new.host) (g.H.Host.told c.add_device.new.host)
    (DeviceOutcome c.args.disk c.args.parts m c.args.items.now.items c.add_device.new.items.items (Ok c.in-Ok-add_device.found))) c.as_ref.ensures.value c.in-Ok-add_device.ensures.did)
    c.in-None.is c.keep_measure.new.image c.keep_measure.new.entropy _ c.keep_measure.result c.keep_measure.ensures

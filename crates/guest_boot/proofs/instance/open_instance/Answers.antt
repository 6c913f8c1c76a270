use Rattle.std.proofs.Common.{◌≡◌, length, Some, refl, arith}
use Rattle.std.proofs.lemmas.Option.{slice_get_read}
use Rattle.guest_plan.specs.Plans.{known}
use Rattle.guest_boot.specs.Booting.{InstanceLine, instance_in}
use Rattle.guest_boot.proofs.Instances.{is_numbered, not_unsalted, instance_boots, instance_fails}
use Rattle.guest_boot.proofs.instance.open_instance.Goals as goal

pub unreachable-requires : goal.unreachable-requires
unreachable-requires g c =
    not_unsalted c.requires.plan.0 (known c.args.plan.now) (record { at = c.in-Some.at; disk = c.in-Some.disk; part = c.in-Some.part.now }) c.requires.plan.1 (rw c.deref.ensures.value at c.in-Some.ensures) c.in_default-salt.is

pub index-requires : goal.index-requires
index-requires g c =
    let within = is_numbered c.requires.plan.0 (known c.args.plan.now) (record { at = c.in-Some.at; disk = c.in-Some.disk; part = c.in-Some.part.now }) c.requires.plan.1 (rw c.deref.ensures.value at c.in-Some.ensures) in
    omega (arith, within, c.args.plan.now.numbers.ok)

pub returns-in-Ok : goal.returns-in-Ok
returns-in-Ok g c =
    instance_boots c.args.plan.now.salt c.args.plan.now.lines.items c.args.plan.now.numbers.items (record { at = c.in-Some.at; disk = c.in-Some.disk; part = c.in-Some.part.now }) (rw c.deref.ensures.value at c.in-Some.ensures)
    c.in-Some-salt.salt c.in-Some-salt.is _ _ c.boot_image.new.tables.items c.in-Ok.image (rw c.requires.none at c.in-Ok.ensures)

pub returns-in-Err : goal.returns-in-Err
returns-in-Err g c =
    let i : InstanceLine = record { at = c.in-Some.at; disk = c.in-Some.disk; part = c.in-Some.part.now } in
    let is : instance_in c.args.plan.now.lines.items ≡ Some i = rw c.deref.ensures.value at c.in-Some.ensures in
    let numbers = c.args.plan.now.numbers.items in
    let within = is_numbered c.requires.plan.0 (known c.args.plan.now) i c.requires.plan.1 is in
    instance_fails c.args.plan.now.salt c.args.plan.now.lines.items numbers i is c.in-Some-salt.salt c.in-Some-salt.is _ _ c.boot_image.new.tables.items c.index.result.now c.in-Err.why
    (slice_get_read numbers (length numbers) c.in-Some.at c.index.result.now refl within c.index.ensures) (rw c.requires.none at c.in-Err.ensures)

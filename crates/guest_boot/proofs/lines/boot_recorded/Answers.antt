use Rattle.std.proofs.Common.{refl}
use Rattle.guest_boot.proofs.Outcomes.{not_found, found_then}
use Rattle.guest_boot.proofs.lines.boot_recorded.Goals as goal

pub returns-in-Err-clause-did : goal.returns-in-Err-clause-did
returns-in-Err-clause-did g c = not_found c.args.secret.now c.args.boot.now c.args.disk c.args.apk.now c.args.idsig.now c.args.uuid.now.0 _ _
    (record { tables = c.parts_on.new.tables; items = c.args.boot.now.items; files = c.args.boot.now.files; image = c.args.boot.now.image; entropy = c.args.boot.now.entropy }) c.parts_on.new.tables.items c.in-Err.why c.in-Err.ensures.did

pub returns-clause-did : goal.returns-clause-did
returns-clause-did g c =
    found_then c.args.secret.now c.args.boot.now c.args.disk c.args.apk.now c.args.idsig.now c.args.uuid.now.0 _ _ _ c.in-Ok.parts
    (record { tables = c.parts_on.new.tables; items = c.args.boot.now.items; files = c.args.boot.now.files; image = c.args.boot.now.image; entropy = c.args.boot.now.entropy })
    c.boot_found.new.boot (λ earlier. refl) c.boot_found.result c.in-Ok.ensures.did c.boot_found.ensures.did

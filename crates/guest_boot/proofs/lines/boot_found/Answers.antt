use Rattle.std.proofs.Common.{Some, refl}
use Rattle.guest_boot.proofs.Outcomes.{with_records}
use Rattle.guest_boot.proofs.lines.boot_found.Goals as goal

pub returns-clause-did : goal.returns-clause-did
returns-clause-did g c =
    with_records c.args.disk c.args.parts c.args.uuid.now.0 c.args.secret.now c.args.boot.now c.in-Some.secret c.in-Some-image.image c.boot_measured.new.image
    c.args.boot.now.entropy c.boot_measured.new.entropy c.args.boot.now.items.items c.boot_measured.new.items.items
    (record {
      tables = c.args.boot.now.tables;
      items = c.boot_measured.new.items;
      files = c.args.boot.now.files;
      image = Some c.boot_measured.new.image;
      entropy = c.boot_measured.new.entropy;
    }) c.boot_measured.result _ _ c.in-Some.is c.in-Some-image.is (λ i k w. refl) (λ k w. refl) c.boot_measured.ensures.did

use Rattle.std.proofs.Common.{◌≡◌, ◌∙◌, Ok, ap, subst, sym}
use Rattle.guest_plan.specs.declared.plan.How.{How}
use Rattle.guest_plan.specs.declared.plan.How.TheVariants as measures
use Rattle.guest_plan.specs.declared.plan.PlanLine.TheVariants as line
use Rattle.std.specs.Global.{Vec}
use Rattle.verity_path.specs.declared.device.Device.{Device}
use Rattle.guest_boot.specs.Booting.{is_recorded, AreItems}
use Rattle.guest_boot.proofs.Outcomes.{did_line, did_instance, did_blob, did_apk, did_recorded, did_file, did_write, did_writedir}
use Rattle.guest_boot.proofs.lines.boot_line.Goals as goal

pub returns-in-Instance-clause-did : goal.returns-in-Instance-clause-did
returns-in-Instance-clause-did g c =
    did_line c.args.secret.now c.args.boot.now c.args.boot.now _ _ (Ok tt) c.args.line.now _ c.in-Instance.is (did_instance c.args.secret.now c.args.boot.now c.args.boot.now _ c.in-Instance.disk c.in-Instance.part)

pub returns-in-Blob-clause-did : goal.returns-in-Blob-clause-did
returns-in-Blob-clause-did g c = did_line c.args.secret.now c.args.boot.now c.boot_blob.new.boot _ _ _ _ _ c.in-Blob.is (did_blob c.args.secret.now c.args.boot.now c.boot_blob.new.boot _ c.in-Blob.file c.in-Blob.measure c.boot_blob.result c.boot_blob.ensures.value)

pub returns-in-Kept-clause-did : goal.returns-in-Kept-clause-did
returns-in-Kept-clause-did g c =
    let l = line.Apk c.in-Apk.disk c.in-Apk.apk c.in-Apk.idsig (measures.Kept c.in-Kept.uuid) in
    let is : c.args.line.now ≡ l = c.in-Apk.is ∙ ap (λ (how : How). line.Apk c.in-Apk.disk c.in-Apk.apk c.in-Apk.idsig how) c.in-Kept.is in
    did_line c.args.secret.now c.args.boot.now c.boot_recorded.new.boot _ _ c.boot_recorded.result c.args.line.now l is
    (did_recorded c.args.secret.now c.args.boot.now c.boot_recorded.new.boot _ _ c.in-Apk.disk c.in-Apk.apk c.in-Apk.idsig c.in-Kept.uuid c.boot_recorded.result c.boot_recorded.ensures.did)

pub boot_recorded-requires-clause-secret : goal.boot_recorded-requires-clause-secret
boot_recorded-requires-clause-secret g c =
    (c.requires.records (ap is_recorded (c.in-Apk.is ∙ ap (λ (how : How). line.Apk c.in-Apk.disk c.in-Apk.apk c.in-Apk.idsig how) c.in-Kept.is))).0

pub boot_recorded-requires-clause-image : goal.boot_recorded-requires-clause-image
boot_recorded-requires-clause-image g c =
    (c.requires.records (ap is_recorded (c.in-Apk.is ∙ ap (λ (how : How). line.Apk c.in-Apk.disk c.in-Apk.apk c.in-Apk.idsig how) c.in-Kept.is))).1

pub returns-in_default : goal.returns-in_default
returns-in_default g c = record {
  did = did_line c.args.secret.now c.args.boot.now c.boot_apk.new.boot _ _ c.boot_apk.result c.args.line.now (line.Apk c.in-Apk.disk c.in-Apk.apk c.in-Apk.idsig c.in-Apk.how) c.in-Apk.is
      (did_apk c.args.secret.now c.args.boot.now c.boot_apk.new.boot _ _ c.in-Apk.disk c.in-Apk.apk c.in-Apk.idsig c.in-Apk.how c.boot_apk.result c.in_default.not-Kept c.boot_apk.ensures.did);
  items = c.boot_apk.ensures.items;
}

pub returns-in-File-clause-did : goal.returns-in-File-clause-did
returns-in-File-clause-did g c = did_line c.args.secret.now c.args.boot.now c.boot_file.new.boot _ _ _ _ _ c.in-File.is (did_file c.args.secret.now c.args.boot.now c.boot_file.new.boot _ _ c.in-File.name c.in-File.file c.in-File.digest c.boot_file.result c.boot_file.ensures.did)

pub returns-in-File-clause-items : goal.returns-in-File-clause-items
returns-in-File-clause-items g c = subst (λ (v : Vec Device). AreItems v.items) (sym c.boot_file.ensures.items) c.requires.items

pub returns-in-Write-clause-did : goal.returns-in-Write-clause-did
returns-in-Write-clause-did g c = did_line c.args.secret.now c.args.boot.now c.args.boot.now _ _ _ _ _ c.in-Write.is (did_write c.args.secret.now c.args.boot.now _ _ c.in-Write.name c.in-Write.file c.boot_write.result c.boot_write.ensures)

pub returns-in-WriteDir-clause-did : goal.returns-in-WriteDir-clause-did
returns-in-WriteDir-clause-did g c =
    did_line c.args.secret.now c.args.boot.now c.args.boot.now _ _ (Ok tt) c.args.line.now _ c.in-WriteDir.is (did_writedir c.args.secret.now c.args.boot.now c.args.boot.now _ c.in-WriteDir.name c.in-WriteDir.file)

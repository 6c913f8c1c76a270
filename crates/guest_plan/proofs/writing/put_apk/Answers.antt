use Rattle.std.specs.Fmt.{decimal}
use Rattle.text_lines.specs.Spelling.{◌then◌}
use Rattle.guest_plan.specs.Spelling.{how_text}
use Rattle.guest_plan.proofs.Written.{apk_joined}
use Rattle.guest_plan.proofs.writing.put_apk.Goals as goal

pub returns : goal.returns
returns c =
    apk_joined c.put_apk_measure.result c.args.out.now.items c.put_apk_place.new.out.items c.put_apk_measure.new.out.items (decimal c.args.disk) c.args.apk.now (c.args.idsig.now then how_text c.args.how.now) c.in_ok-put_apk_place.ensures c.put_apk_measure.ensures

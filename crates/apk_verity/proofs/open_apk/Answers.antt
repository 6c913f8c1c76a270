use Rattle.std.proofs.Common.{ap, ◌∙◌}
use Rattle.std.specs.Prelude.{option_copied}
use Rattle.apk_verity.specs.Opening.{opening, opened}
use Rattle.apk_verity.proofs.Outcomes.{answered}
use Rattle.idsig_v4.proofs.Spelled.{read_again}
use Rattle.apk_verity.proofs.Serving.{failed_right, memory_right, answered_right}
use Rattle.apk_verity.proofs.open_apk.Goals as goal

pub returns-clause-opened : goal.returns-clause-opened
returns-clause-opened g c =
    let o = opening c.args.disk c.args.apk c.args.idsig (option_copied c.args.measure) in
    answered o c.min-count.result c.min-count.ensures c.device_of.result _ _ _ c.in-Ok.ensures.asked c.in-Ok.ensures.fills (c.device_of.ensures.value ∙ ap (opened o) c.layout.ensures)

pub returns-clause-held : goal.returns-clause-held
returns-clause-held g c =
    let o = opening c.args.disk c.args.apk c.args.idsig (option_copied c.args.measure) in
    answered_right o c.min-count.result c.min-count.ensures c.requires.idsig_some _ _ read_again _ c.device_of.result c.in-Ok.ensures.asked
    (c.device_of.ensures.value ∙ ap (opened o) c.layout.ensures)

pub returns-in-Err-Failed-clause-held : goal.returns-in-Err-Failed-clause-held
returns-in-Err-Failed-clause-held g c =
    let o = opening c.args.disk c.args.apk c.args.idsig (option_copied c.args.measure) in
    failed_right o c.min-count.result c.min-count.ensures c.requires.idsig_some _ _ c.block_read.new.raw c.in-Err-Failed.field-0 c.in-Err-Failed.field-0-is c.in-Err-Failed.ensures.asked _

pub returns-in-Err-Memory-clause-held : goal.returns-in-Err-Memory-clause-held
returns-in-Err-Memory-clause-held g c =
    let o = opening c.args.disk c.args.apk c.args.idsig (option_copied c.args.measure) in
    memory_right o c.min-count.result c.min-count.ensures c.requires.idsig_some _ _ c.block_read.new.raw c.in-Err-Memory.field-0 c.in-Err-Memory.field-0-is c.in-Err-Memory.ensures.asked

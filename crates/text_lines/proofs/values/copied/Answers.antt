use Rattle.text_lines.proofs.Spelled.{utf8_printed}
use Rattle.text_lines.proofs.values.copied.Goals as goal

pub returns-in-Err : goal.returns-in-Err
returns-in-Err c = absurd (c.in-Err.ensures.cases.0 (utf8_printed c.args.text.now c.requires))

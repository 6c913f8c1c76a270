use Rattle.text_lines.proofs.Numbers.{digits_utf8, unparsed}
use Rattle.text_lines.proofs.values.value_of.Goals as goal

pub returns-in-Err-parse : goal.returns-in-Err-parse
returns-in-Err-parse c = unparsed c.args.text.now c.in-Ok.text.now c.parse.result c.in-Err-parse.field-0 c.in-Err-parse.is c.in-Ok.ensures.cases.0 c.requires.digits c.requires.some c.parse.ensures.value.0

pub returns-in-Err : goal.returns-in-Err
returns-in-Err c = absurd (c.in-Err.ensures.cases.0 (digits_utf8 c.args.text.now c.requires.digits))

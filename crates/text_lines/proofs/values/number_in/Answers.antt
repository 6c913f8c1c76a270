use Rattle.std.proofs.Common.{arith}
use Rattle.text_lines.proofs.Public.{number_found, number_only}
use Rattle.text_lines.proofs.values.number_in.Goals as goal

pub returns-clause-found : goal.returns-clause-found
returns-clause-found c = number_found c.args.low c.args.limit c.args.text.now c.parse_number.result (omega arith) c.parse_number.ensures.value

pub returns-clause-only : goal.returns-clause-only
returns-clause-only c = number_only c.args.low c.args.limit c.args.text.now c.parse_number.result (omega arith) c.parse_number.ensures.value

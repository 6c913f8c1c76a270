use Rattle.std.proofs.Common.{◌^◌, arith}
use Rattle.text_lines.proofs.Public.{number64_found, number_only}
use Rattle.text_lines.proofs.values.number64.Goals as goal

pub returns-clause-found : goal.returns-clause-found
returns-clause-found c = number64_found c.args.text.now c.parse_number64.result c.parse_number64.ensures.value

pub returns-clause-only : goal.returns-clause-only
returns-clause-only c = λ n is below. number_only 0 (2 ^ 64) c.args.text.now c.parse_number64.result (omega arith) c.parse_number64.ensures.value n is (omega arith) below

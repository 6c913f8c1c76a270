use Rattle.text_lines.proofs.Public.{hex_found, hex_only}
use Rattle.text_lines.proofs.values.hex32.Goals as goal

pub returns-clause-found : goal.returns-clause-found
returns-clause-found c = hex_found 32 c.args.text.now c.parse_hex32.result c.parse_hex32.ensures.value

pub returns-clause-only : goal.returns-clause-only
returns-clause-only c = hex_only 32 c.args.text.now c.parse_hex32.result c.parse_hex32.ensures.value

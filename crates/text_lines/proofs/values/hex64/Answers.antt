use Rattle.text_lines.proofs.Public.{hex_found, hex_only}
use Rattle.text_lines.proofs.values.hex64.Goals as goal

pub returns-clause-found : goal.returns-clause-found
returns-clause-found c = hex_found 64 c.args.text.now c.parse_hex64.result c.parse_hex64.ensures.value

pub returns-clause-only : goal.returns-clause-only
returns-clause-only c = hex_only 64 c.args.text.now c.parse_hex64.result c.parse_hex64.ensures.value

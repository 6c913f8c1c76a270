use Rattle.text_lines.proofs.Public.{salt_found, salt_only}
use Rattle.text_lines.proofs.values.page_salt.Goals as goal

pub returns-clause-found : goal.returns-clause-found
returns-clause-found c = salt_found c.args.text.now c.parse_salt.result c.parse_salt.ensures.value

pub returns-clause-only : goal.returns-clause-only
returns-clause-only c = salt_only c.args.text.now c.parse_salt.result c.parse_salt.ensures.value

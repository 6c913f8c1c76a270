use Rattle.std.proofs.Common.{subst}
use Rattle.text_lines.specs.Lists.{TellsList}
use Rattle.guest_images.proofs.Listed.{parts_found, parts_each, parts_again}
use Rattle.guest_images.proofs.parts.read_parts.Goals as goal

pub returns-clause-found : goal.returns-clause-found
returns-clause-found c = parts_found c.args.bytes.now c.read_list.result c.read_list.ensures

pub returns-clause-only : goal.returns-clause-only
returns-clause-only c = λ k h. subst (TellsList c.read_list.result) (parts_again c.args.bytes.now k h) c.read_list.ensures

pub returns-clause-each : goal.returns-clause-each
returns-clause-each c = parts_each c.args.bytes.now c.read_list.result c.read_list.ensures

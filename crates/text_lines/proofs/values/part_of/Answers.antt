use Rattle.std.proofs.Common.{sym, ◌∙◌}
use Rattle.text_lines.proofs.Spelled.{part_printed}
use Rattle.text_lines.proofs.values.part_of.Goals as goal

pub copied-requires : goal.copied-requires
copied-requires c = part_printed c.args.text.now (sym c.is_part.ensures ∙ c.if-not-is_part.false)

use Rattle.std.proofs.Common.{sym, ◌∙◌}
use Rattle.text_lines.proofs.Spelled.{name_printed}
use Rattle.text_lines.proofs.values.name_of.Goals as goal

pub copied-requires : goal.copied-requires
copied-requires c = name_printed c.args.text.now (sym c.is_name.ensures ∙ c.if-not-is_name.false)

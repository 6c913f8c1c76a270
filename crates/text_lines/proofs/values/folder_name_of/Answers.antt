use Rattle.std.proofs.Common.{sym, ◌∙◌}
use Rattle.text_lines.proofs.Spelled.{folder_name_printed}
use Rattle.text_lines.proofs.values.folder_name_of.Goals as goal

pub copied-requires : goal.copied-requires
copied-requires c = folder_name_printed c.args.text.now (sym c.is_folder_name.ensures ∙ c.if-not-is_folder_name.false)

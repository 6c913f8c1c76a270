use Rattle.std.proofs.Common.{rules, of_calls, map, ap, ◌∙◌}
use Rattle.std.proofs.lemmas.Fn.{filter_same}
use Rattle.authfs_dirs.specs.Tables.{slot_of}
use Rattle.authfs_dirs.proofs.TableLemmas.{slots-filter, is_live}
use Rattle.authfs_dirs.proofs.rows.sweep.Goals as goal

pub returns : goal.returns
returns c = ap (map slot_of) (filter_same _ is_live _ (λ x b f r. search (rules, of_calls)) c.args.rows.now.items c.retain.new.self.items c.retain.ensures.filtered) ∙ slots-filter c.args.rows.now.items

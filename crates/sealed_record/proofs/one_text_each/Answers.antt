use Rattle.sealed_record.proofs.Laws.{texts_are_one, forms_are_longer}
use Rattle.sealed_record.proofs.one_text_each.Goals as goal

pub returns-clause-text : goal.returns-clause-text
returns-clause-text c = texts_are_one

pub returns-clause-len : goal.returns-clause-len
returns-clause-len c = forms_are_longer

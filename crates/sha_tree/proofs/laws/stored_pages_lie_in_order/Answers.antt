use Rattle.sha_tree.proofs.Stored.{page-stored, length-stored}
use Rattle.sha_tree.proofs.laws.stored_pages_lie_in_order.Goals as goal

pub returns-clause-places : goal.returns-clause-places
returns-clause-places c = λ bytes salt level i some low within. page-stored bytes salt level i some low within

pub returns-clause-len : goal.returns-clause-len
returns-clause-len c = length-stored

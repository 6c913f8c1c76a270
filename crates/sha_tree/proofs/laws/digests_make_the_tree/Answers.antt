use Rattle.sha_tree.proofs.Digests.{digest-page, slots-page, same-root}
use Rattle.sha_tree.proofs.laws.digests_make_the_tree.Goals as goal

pub returns-clause-digests : goal.returns-clause-digests
returns-clause-digests c = λ bytes salt leaves level i h within. digest-page bytes salt leaves h level i within

pub returns-clause-pages : goal.returns-clause-pages
returns-clause-pages c = slots-page

pub returns-clause-root : goal.returns-clause-root
returns-clause-root c = same-root

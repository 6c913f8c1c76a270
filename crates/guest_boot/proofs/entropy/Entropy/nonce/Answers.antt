use Rattle.std.proofs.Common.{sym}
use Rattle.std.proofs.lemmas.List.{drop-drop}
use Rattle.guest_boot.proofs.entropy.Entropy.nonce.Goals as goal

pub returns-clause-left : goal.returns-clause-left
returns-clause-left c = rw (← c.self.view_is) (sym (drop-drop 12 c.self.inside.at c.self.inside.bytes.items))

use Rattle.std.proofs.Common.{◌<◌, ℕ, get_or, rules}
use Rattle.std.proofs.lemmas.List.Elements.{All-from_get_or}
use Rattle.gpt.proofs.Pieces.{IsByte}
use Rattle.gpt.proofs.putting.put.Goals as goal

pub returns-clause-bytes : goal.returns-clause-bytes
returns-clause-bytes c =
    let at : (i : ℕ) → get_or c.args.piece.now i 0 < 256 = λ i. search rules in
    All-from_get_or IsByte c.args.piece.now 0 (λ i lt. at i)
